-- Rows are lines.
use Rattle.std.proofs.Common.{◌≡◌, ◌∙◌, ℕ, ◌<◌, ◌^◌, ◌==◌, true, List, [], ◌∷◌, ◌++◌, length, refl, sym, ap, subst, arith, inl, inr}
use Rattle.std.{specs.{Prelude.{codes, nat_le}, List.{list_all, list_any}, Fmt.{decimal}}, proofs.lemmas.Fmt.{decimal_nonempty}}
use Rattle.std.proofs.lemmas.Bool.{and_parts, cases_Bool, leb-true, ne_eqb}
use Rattle.csv.specs.Writing.{escaped, field_text, fields_text, needs_byte}
use Rattle.title_instrument.specs.{declared.instrument.Instrument.{Instrument}, Kinds.{kind_of}, Parties.{estates_of}}
use Rattle.title_instrument.specs.declared.instrument.Instrument.TheVariants as i
use Rattle.title_page.specs.Rows.{row, row_writer}
use Rattle.title_spelling.specs.{Lands.{spelling}, Laws.{is_shown, OnlyEndsEnd, RowsAreLines}, Posts.{terms_fields, HasShares}}
use Rattle.title_spelling.specs.Rows.{are_names, fields_of, Begin, Commit, End, IsPlantRow, Party, PlantRow, Post, Township}
use Rattle.title_spelling.proofs.{NamesRead.{named}, RowsRead.{first_byte, is_digit, number_digits, row_begins, row_ends}}
use Rattle.title_spelling.proofs.Shown.{both, estates, kind_shown, land_shown, more, name, number, quantum_shown, reserve, township, word}
use Rattle.title_spelling.{proofs.Shown.{Shown}, specs.Laws.SeveralFields.{several}}

-- ---- fields in rows

escaped_shown : (text : List ℕ) → Shown text → Shown (escaped row_writer text)
unfolding escaped
escaped_shown [] h = h
escaped_shown (b ∷ text) h =
    let k = and_parts (is_shown b) (list_all is_shown text) h.is in
    let rest = escaped_shown text (word text k.1) in
    elim (cases_Bool (b == 34)) [
      | inl e ↦ rw e (more 34 _ refl (more b _ k.0 rest))
      | inr e ↦ rw e (more b _ k.0 rest)
    ]

field_shown : (text : List ℕ) → Shown text → Shown (field_text row_writer text)
field_shown text h = elim (cases_Bool (list_any (needs_byte row_writer) text)) [
  | inl e ↦ rw e (more 34 _ refl (both (escaped_shown text h) (word (34 ∷ []) refl)))
  | inr e ↦ rw e h
]

-- fields without control bytes
AllShown : List (List ℕ) → Type 0
AllShown [] = Unit {0}
AllShown (f ∷ fields) = Shown f × AllShown fields

fields_shown : (fields : List (List ℕ)) → AllShown fields → Shown (fields_text row_writer fields)
unfolding fields_text AllShown
fields_shown [] h = word [] refl
fields_shown (f ∷ fields) h = more 44 _ refl (both (field_shown f h.0) (fields_shown fields h.1))

-- ---- the fields of each row

shown_append : (xs ys : List (List ℕ)) → AllShown xs → AllShown ys → AllShown (xs ++ ys)
unfolding AllShown
shown_append [] ys h k = k
shown_append (x ∷ xs) ys h k = (h.0, shown_append xs ys h.1 k)

terms_shown : (t : Instrument ℕ) → HasShares t → AllShown (terms_fields t)
unfolding AllShown
terms_shown (i.Deed d) h = (quantum_shown d.quantum h.0, (reserve d.reserve h.1, tt))
terms_shown (i.Release r) h = tt

all_shown : (names : List (List ℕ)) (x : PlantRow) → are_names names ≡ true → IsPlantRow names x → AllShown (fields_of names x)
unfolding AllShown
all_shown names (Township t) are h = (word (codes "township") refl, (township t, tt))
all_shown names (Party text) are h = (word (codes "party") refl, (name text h, tt))
all_shown names (Begin e) are h = (number e (let most = h.1 in omega arith), (word (codes "begin") refl, tt))
all_shown names (Commit e) are h = (number e (let most = h.1 in omega arith), (word (codes "commit") refl, tt))
all_shown names (Post e post) are h =
    let terms = shown_append (terms_fields post.instrument) (spelling post.tract ∷ []) (terms_shown post.instrument h.shares)
    (land_shown post.tract, tt) in (
      number e (let most = h.examiner.1 in omega arith),
      (
        kind_shown (kind_of post.instrument),
        (
          number post.doc (let most = h.last_document in omega arith),
          (name _ (named names are _ h.grantor), (name _ (named names are _ h.grantee), (estates (estates_of post.instrument), terms))),
        ),
      ),
    )
all_shown names (End n) are h = (word (codes "end") refl, (number n h, tt))

-- ---- lines

line_of : (first second : List ℕ) (rest : List (List ℕ)) → AllShown (first ∷ second ∷ rest)
    → Shown (field_text row_writer first ++ fields_text row_writer (second ∷ rest))
unfolding AllShown
line_of first second rest h = both (field_shown first h.0) (fields_shown (second ∷ rest) h.1)

pub lines : RowsAreLines
lines names x are h =
    let s = several names x in
    let shown = subst (λ (f : List (List ℕ)). AllShown f) s.fields_are (all_shown names x are h) in
    record {
      body = field_text row_writer s.first ++ fields_text row_writer (s.second ∷ s.rest);
      whole = ap row s.fields_are ∙ row_ends s.first s.second s.rest;
      shown = (line_of s.first s.second s.rest shown).is;
      first = λ b rest e. let byte = first_byte names x h b rest e in let low = byte.0 in
          rw (ne_eqb b 43 (λ same. omega (arith, low, same)), ne_eqb b 45 (λ same. omega (arith, low, same))) refl;
    }

-- ---- ends

heads : (a b : ℕ) (xs ys : List ℕ) → a ∷ xs ≡ b ∷ ys → a ≡ b
heads a b xs ys e = cc

-- a row that begins with another letter begins with no `end,`
other_letter : (text more rest : List ℕ) (c : ℕ) → text ≡ c ∷ more → text ≡ codes "end," ++ rest → (c ≡ 101 → ⊥) → ⊥
other_letter text more rest c t e n = n (heads c 101 more (codes "nd," ++ rest) (sym t ∙ e))

digit_first : (first rest text tail : List ℕ) → list_all is_digit first ≡ true → 0 < length first → text ≡ first ++ rest
    → text ≡ codes "end," ++ tail → ⊥
digit_first [] rest text tail h some t e = absurd (omega arith)
digit_first (c ∷ first) rest text tail h some t e =
    let digit = (and_parts (is_digit c) (list_all is_digit first) h).0 in
    let high = leb-true c 57 (and_parts (nat_le 48 c) (nat_le c 57) digit).1 in
    other_letter text (first ++ rest) tail c t e (λ same. omega (arith, high, same))

-- nor does one that begins with a number
number_first : (n : ℕ) (rest text tail : List ℕ) → n < 2 ^ 64 → text ≡ decimal n ++ rest → text ≡ codes "end," ++ tail → ⊥
number_first n rest text tail h t e = digit_first (decimal n) rest text tail (number_digits n h) (decimal_nonempty n h) t e

pub ends : OnlyEndsEnd
ends names (Township t) rest h e =
    let b = row_begins names (Township t) h in
    absurd (other_letter _ (codes "ownship" ++ b.rest) rest 116 b.text_is e (λ same. omega (arith, same)))
ends names (Party name) rest h e =
    let b = row_begins names (Party name) h in
    absurd (other_letter _ (codes "arty" ++ b.rest) rest 112 b.text_is e (λ same. omega (arith, same)))
ends names (Begin k) rest h e =
    let b = row_begins names (Begin k) h in
    absurd (number_first k b.rest _ rest (let most = h.1 in omega arith) b.text_is e)
ends names (Commit k) rest h e =
    let b = row_begins names (Commit k) h in
    absurd (number_first k b.rest _ rest (let most = h.1 in omega arith) b.text_is e)
ends names (Post k post) rest h e =
    let b = row_begins names (Post k post) h in
    absurd (number_first k b.rest _ rest (let most = h.examiner.1 in omega arith) b.text_is e)
ends names (End n) rest h e = (n, refl)
