-- The rows of a plant's file say what was written.
use Rattle.std.proofs.Common.{◌≡◌, ◌∙◌, ℕ, ◌≤◌, ◌<◌, Bool, true, false, List, [], ◌∷◌, length, refl, sym, ap, subst, Option, Some, None}
use Rattle.std.{specs.{Prelude.{codes}, Fmt.{decimal}, Str.{bytes_eq}}, proofs.lemmas.Bool.{false_from_ne_true}}
use Rattle.std.proofs.lemmas.Slice.Eq.{bytes_eq-Decides}
use Rattle.title_instrument.specs.declared.{instrument.Instrument.{Instrument}, parts.{Estates.{Estates}, Quantum.{Quantum}}}
use Rattle.title_instrument.specs.{Kinds.{deed_kind, kind_in, kind_word}, Parties.{estates_of, grantee_of, grantor_of}}
use Rattle.title_instrument.specs.Estates.{estates_text, names_none}
use Rattle.title_instrument.specs.declared.instrument.Instrument.TheVariants as i
use Rattle.title_instrument.specs.declared.kind.Kind.TheVariants as kind
use Rattle.title_land.specs.declared.node.Node.TheVariants as node
use Rattle.title_land.specs.{declared.{survey.Township.{Township as SurveyTownship}, tract.Land.{Land}}, Depth.{depth}}
use Rattle.title_land.specs.Texts.{township_text}
use Rattle.title_aliquot.specs.TextLaws.{ReadsBack}
use Rattle.title_plan.specs.declared.row.Act.TheVariants as act
use Rattle.title_plan.specs.declared.row.Row.TheVariants as row
use Rattle.title_plan.specs.{Fields.{document_in, estates_in, examiner_in, is_name, name_in, quantum_in, reserve_in}, Lands.{LandsAreRead}}
use Rattle.title_plan.specs.{Plans.{numbered}, Rows.{row_in}}
use Rattle.title_spelling.{specs.{Laws.{among, MarksReadBack, PostsReadBack}, Lands.{spelling}}, proofs.CellsRead.{node_read}}
use Rattle.title_spelling.specs.Posts.{name_of, post_fields, quantum_text, reserve_text, HasShares, IsExaminer}
use Rattle.title_spelling.specs.Rows.{are_names, begin_fields, commit_fields, party_fields, township_fields}
use Rattle.title_spelling.proofs.{NamesRead.{named, numbered_as}, PostsRead.{warranty_read}, Spelled.{spellings_back}}
use Rattle.title_spelling.proofs.PostsRead.{document_read, estates_read, examiner_read, kind_read, name_read, quantum_read, reserve_read}

-- ---- rows of posts, by their fields

abbrev deed_of : List ℕ → List ℕ → Estates → Bool → Quantum → List (Option ℕ) → Instrument (List ℕ)
deed_of giver taker es w q r = i.Deed (record { grantor = giver; grantee = taker; estates = es; warranty = w; quantum = q; reserve = r })

deed_said : (f0 f1 f2 f3 f4 f5 f6 f7 text : List ℕ) (e doc : ℕ) (w : Bool) (giver taker : List ℕ) (es : Estates) (q : Quantum)
    (r : List (Option ℕ)) → examiner_in f0 ≡ Some e → kind_in f1 ≡ Some (deed_kind w) → document_in f2 ≡ Some doc → name_in f3 ≡ Some giver
    → name_in f4 ≡ Some taker → estates_in f5 ≡ Some es → quantum_in f6 ≡ Some q → reserve_in f7 ≡ Some r
    → row_in (f0 ∷ f1 ∷ f2 ∷ f3 ∷ f4 ∷ f5 ∷ f6 ∷ f7 ∷ text ∷ []) ≡ Some (row.Step e (act.Post doc (deed_of giver taker es w q r) text))
deed_said f0 f1 f2 f3 f4 f5 f6 f7 text e doc w giver taker es q r h0 h1 h2 h3 h4 h5 h6 h7 =
    rw (h0, h1, warranty_read w, h2, h3, h4, h5, h6, h7) refl

abbrev release_of : List ℕ → List ℕ → Estates → Instrument (List ℕ)
release_of giver taker es = i.Release (record { «from» = giver; to = taker; estates = es })

release_said : (f0 f1 f2 f3 f4 f5 text : List ℕ) (e doc : ℕ) (giver taker : List ℕ) (es : Estates) → examiner_in f0 ≡ Some e
    → kind_in f1 ≡ Some kind.Release → document_in f2 ≡ Some doc → name_in f3 ≡ Some giver → name_in f4 ≡ Some taker
    → estates_in f5 ≡ Some es
    → row_in (f0 ∷ f1 ∷ f2 ∷ f3 ∷ f4 ∷ f5 ∷ text ∷ []) ≡ Some (row.Step e (act.Post doc (release_of giver taker es) text))
release_said f0 f1 f2 f3 f4 f5 text e doc giver taker es h0 h1 h2 h3 h4 h5 = rw (h0, h1, h2, h3, h4, h5) refl

-- ---- posts

module _ (names : List (List ℕ)) (are : are_names names ≡ true) (e doc : ℕ) (text : List ℕ) (examiner : IsExaminer e)
    (some : 0 < doc) (most : doc ≤ 999999999999) where
  instrument_said : (t : Instrument ℕ) (l : Land) → spelling l ≡ text → grantor_of t < length names → grantee_of t < length names
      → names_none (estates_of t) ≡ false → HasShares t
      → row_in (post_fields names e (record { doc = doc; tract = l; instrument = t }))
      ≡ Some (row.Step e (act.Post doc (among names t) text))
  instrument_said (i.Deed d) l same giver taker es shares =
      subst (λ (s : List ℕ). row_in (post_fields names e (record { doc = doc; tract = l; instrument = i.Deed d }))
      ≡ Some (row.Step e (act.Post doc (among names (i.Deed d)) s))) same
      (deed_said (decimal e) (kind_word (deed_kind d.warranty)) (decimal doc) (name_of names d.grantor) (name_of names d.grantee)
      (estates_text d.estates) (quantum_text d.quantum) (reserve_text d.reserve) (spelling l) e doc d.warranty (name_of names d.grantor)
      (name_of names d.grantee) d.estates d.quantum d.reserve (examiner_read e examiner) (kind_read (deed_kind d.warranty))
      (document_read doc some most) (name_read _ (named names are d.grantor giver)) (name_read _ (named names are d.grantee taker))
      (estates_read d.estates es) (quantum_read d.quantum shares.0) (reserve_read d.reserve shares.1))
  instrument_said (i.Release r) l same giver taker es shares =
      subst (λ (s : List ℕ). row_in (post_fields names e (record { doc = doc; tract = l; instrument = i.Release r }))
      ≡ Some (row.Step e (act.Post doc (among names (i.Release r)) s))) same
      (release_said (decimal e) (kind_word kind.Release) (decimal doc) (name_of names r.«from») (name_of names r.to)
      (estates_text r.estates) (spelling l) e doc (name_of names r.«from») (name_of names r.to) r.estates (examiner_read e examiner) refl
      (document_read doc some most) (name_read _ (named names are r.«from» giver)) (name_read _ (named names are r.to taker))
      (estates_read r.estates es))

-- its parties have their numbers again
numbers_back : (names : List (List ℕ)) → are_names names ≡ true → (t : Instrument ℕ) → grantor_of t < length names
    → grantee_of t < length names → numbered names (among names t) ≡ Some t
numbers_back names are (i.Deed d) giver taker = rw (numbered_as names are d.grantor giver, numbered_as names are d.grantee taker) refl
numbers_back names are (i.Release r) giver taker = rw (numbered_as names are r.«from» giver, numbered_as names are r.to taker) refl

-- ---- declarations, begins and commits

township_said : (t : SurveyTownship) → row_in (township_fields t) ≡ Some (row.Township (township_text t))
township_said t = refl

party_said : (name : List ℕ) → is_name name ≡ true → row_in (party_fields name) ≡ Some (row.Party name)
party_said name h = rw (name_read name h) refl

-- an examiner's number is no word
no_word : (e : ℕ) (word : List ℕ) → IsExaminer e → examiner_in word ≡ None → bytes_eq (decimal e) word ≡ false
no_word e word h none = false_from_ne_true (bytes_eq (decimal e) word) (λ t.
    let same = (bytes_eq-Decides (decimal e) word).0 t in
    cc (sym (examiner_read e h) ∙ ap examiner_in same ∙ none))

begin_said : (e : ℕ) → IsExaminer e → row_in (begin_fields e) ≡ Some (row.Step e act.Begin)
begin_said e h = rw (no_word e (codes "township") h refl, no_word e (codes "party") h refl, examiner_read e h) refl

commit_said : (e : ℕ) → IsExaminer e → row_in (commit_fields e) ≡ Some (row.Step e act.Commit)
commit_said e h = rw (no_word e (codes "township") h refl, no_word e (codes "party") h refl, examiner_read e h) refl

module _ (back : ReadsBack depth) (read : LandsAreRead) where
  pub posts_back : PostsReadBack
  posts_back names e post are h = record {
    said = instrument_said names are e post.doc (spelling post.tract) h.examiner h.some_document h.last_document post.instrument post.tract
        refl h.grantor h.grantee h.estates h.shares;
    numbers = numbers_back names are post.instrument h.grantor h.grantee;
    land = spellings_back back read post.tract h.sized h.cell;
  }

  pub marks_back : MarksReadBack
  marks_back = record {
    township = λ t. (township_said t, node_read back read (node.Township t) tt);
    party = party_said;
    begin = begin_said;
    commit = commit_said;
  }
