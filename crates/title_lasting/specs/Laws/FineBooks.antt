-- What stands in a plant's file can be written there once more, since it was read from rows.
use Rattle.std.proofs.Common.{◌≡◌, ◌∙◌, ◌+◌, ◌&&◌, ◌||◌, ◌==◌, ℕ, Bool, true, false, cond, is_none, List, [], ◌∷◌, ◌++◌, length}
use Rattle.std.proofs.Common.{Option, Some, None, IfSome, Result, Ok, Err, IfOk, refl, ap, subst, sym, arith}
use Rattle.std.specs.{List.{AllByRecursion, list_all, list_any}, Prelude.{nat_le, nat_lt}, Str.{bytes_eq, is_utf8}}
use Rattle.std.proofs.lemmas.{Bool.{and_parts, eqb-true, ltb-true}, List.{length-append, length-map, map-append}}
use Rattle.title_land.specs.{declared.{survey.Township.{Township}, tract.Land.{Land}}, Survey.{same_township}}
use Rattle.title_aliquot.specs.declared.fault.DescFault.{DescFault}
use Rattle.title_instrument.specs.declared.instrument.Instrument.{Instrument}
use Rattle.title_chain.specs.{declared.{ask.{Step.{Step}, Terms.{Terms}}, record.Record.{Record}}, Alone.{most_parties}}
use Rattle.title_trace.specs.Due.{most_steps, most_townships}
use Rattle.title_journal.specs.Blocks.{blocks_in}
use Rattle.title_plan.specs.{declared.row.{Act.{Act}, Row.{Row}}, Fields.{given, is_name}, Lands.{land_in, said_township}}
use Rattle.title_plan.specs.{Plans.{numbered}, Rows.{row_in}}
use Rattle.title_plan.specs.declared.row.Act.TheVariants as act
use Rattle.title_plan.specs.declared.row.Row.TheVariants as row
use Rattle.title_standing.specs.Records.{posted_step}
use Rattle.title_spelling.specs.{Lands.{kept_land_in}, Posts.{IsExaminer, IsPost}, Rows.{are_names}}
use Rattle.title_daybook.specs.{AddedLaws.{IsKept}, Files.{after_blocks, and_then, standing_after, standing_in, what_stands}}
use Rattle.title_daybook.specs.KeptRows.{Progress, after_act, after_begin, after_kept_row, after_last_row, after_party, after_post}
use Rattle.title_daybook.specs.KeptRows.{after_rows, after_said, between, commits, going_on, inside, is_end, posts}
use Rattle.title_daybook.specs.{KeptRows.{said_land, with_record, with_township}, Lines.{fields_in, lines_of, said_by}}
use Rattle.title_daybook.specs.Standing.{Standing, nothing_standing}
use Rattle.title_lasting.specs.Laws.FineRows.{IsFineAct, IsFinePost, IsSaid, LandsHaveCells, first_is_text, names_pushed, numbered_is}
use Rattle.title_lasting.specs.Laws.FineRows.{row_said as row_may_say, texts_pushed, where_true}
use Rattle.title_lasting.specs.Laws.{FineScripts.{post_wider}, FineTraces.{all_joined}}

-- the names are names, each of one party, and text; and the records can be written
pub record IsWritten (s : Standing) : Type 0 where
  pub names : are_names s.names ≡ true
  pub texts : list_all is_utf8 s.names ≡ true
  pub records : AllByRecursion (IsKept s.names) s.records

-- so can what has begun
record IsOpenBook (p : Progress) : Type 0 where
  stands : IsWritten p.stands
  begun : IfSome p.begun (IsKept p.stands.names)

abbrev Fine : Option Progress → Type 0
Fine o = IfSome o IsOpenBook

abbrev FineSoFar : Result Progress ℕ → Type 0
FineSoFar r = IfOk r IsOpenBook

-- ---- more names

posts_wider : (names more : List (List ℕ)) (e : ℕ) (posts : List Terms) → AllByRecursion (IsPost names e) posts
    → AllByRecursion (IsPost (names ++ more) e) posts
posts_wider names more e [] h = tt
posts_wider names more e (p ∷ posts) h = (post_wider names more e p h.0, posts_wider names more e posts h.1)

pub kept_wider : (names more : List (List ℕ)) (r : Record) → IsKept names r → IsKept (names ++ more) r
kept_wider names more r h = record {
  posts = h.posts;
  steps = h.steps;
  examiner = h.examiner;
  few = h.few;
  each = posts_wider names more r.examiner h.posts h.each;
}

pub all_wider : (names more : List (List ℕ)) (records : List Record) → AllByRecursion (IsKept names) records
    → AllByRecursion (IsKept (names ++ more)) records
all_wider names more [] h = tt
all_wider names more (r ∷ records) h = (kept_wider names more r h.0, all_wider names more records h.1)

-- ---- declarations

where_not : (b : Bool) (p : Progress) → (b ≡ false → IsOpenBook p) → Fine (cond b None (Some p))
where_not true p h = tt
where_not false p h = h refl

where_so : (b : Bool) (o : Option Progress) → (b ≡ true → Fine o) → Fine (cond b o None)
where_so true o h = h refl
where_so false o h = tt

township_fine : (s : Standing) (o : Option Township) → IsWritten s → Fine (given o (with_township s))
township_fine s None fine = tt
township_fine s (Some t) fine =
    where_not (nat_le most_townships (length s.townships) || list_any (λ other. same_township other t) s.townships) _
    (λ new. record { stands = record { names = fine.names; texts = fine.texts; records = fine.records }; begun = tt })

party_fine : (s : Standing) (name : List ℕ) → (is_name name ≡ true) × (is_utf8 name ≡ true) → IsWritten s → Fine (after_party s name)
party_fine s name is fine =
    where_not (nat_le most_parties (length s.names) || list_any (bytes_eq name) s.names) _ (λ new. record {
      stands = record {
        names = names_pushed s.names name fine.names is.0 (neither (nat_le most_parties (length s.names)) _ new);
        texts = texts_pushed s.names name fine.texts is.1;
        records = all_wider s.names (name ∷ []) s.records fine.records;
      };
      begun = tt;
    })
  where
    neither : (a b : Bool) → (a || b) ≡ false → b ≡ false
    neither true b h = absurd (cc h)
    neither false b h = h

-- ---- transactions

record_fine : (s : Standing) (r : Record) → IsWritten s → IsKept s.names r → IsOpenBook (with_record s r)
record_fine s r fine kept = record {
  stands = record { names = fine.names; texts = fine.texts; records = (kept, fine.records) };
  begun = tt;
}

begin_fine : (p : Progress) (e : ℕ) → IsOpenBook p → IsExaminer e → Fine (after_begin p e)
begin_fine p e fine examiner =
    where_so (is_none p.begun) _ (λ none. record {
      stands = fine.stands;
      begun = record { posts = []; steps = refl; examiner = examiner; few = omega arith; each = tt };
    })

commit_fine : (s : Standing) (begun : Option Record) (e : ℕ) → IsWritten s → IfSome begun (IsKept s.names) → Fine (commits s begun e)
commit_fine s None e fine kept = tt
commit_fine s (Some r) e fine kept = where_so (r.examiner == e) _ (λ own. record_fine s r fine kept)

-- a post more inside a transaction
inside_fine : (s : Standing) (r : Record) (e : ℕ) (p : Terms) → IsWritten s → IsKept s.names r → IsPost s.names e p
    → Fine (given (inside r e (posted_step p)) (λ longer. Some (record { stands = s; begun = Some longer })))
inside_fine s r e p fine kept post = go (r.examiner == e && nat_lt (length r.steps) most_steps) refl
  where
    go : (b : Bool) → (r.examiner == e && nat_lt (length r.steps) most_steps) ≡ b
        → Fine (given (cond b (Some (record { examiner = r.examiner; steps = r.steps ++ posted_step p ∷ [] })) None)
        (λ longer. Some (record { stands = s; begun = Some longer })))
    go false h = tt
    go true h =
        let parts = and_parts (r.examiner == e) (nat_lt (length r.steps) most_steps) h in
        let own : r.examiner ≡ e = eqb-true r.examiner e parts.0 in record {
          stands = fine;
          begun = record {
            posts = kept.posts ++ p ∷ [];
            steps = ap (λ (steps : List Step). steps ++ posted_step p ∷ []) kept.steps ∙ sym (map-append posted_step kept.posts (p ∷ []));
            examiner = kept.examiner;
            few = omega (
              arith,
              ltb-true (length r.steps) most_steps parts.1,
              ap length kept.steps,
              length-map kept.posts posted_step,
              length-append kept.posts (p ∷ []),
            );
            each = all_joined (IsPost s.names r.examiner) kept.posts (p ∷ []) kept.each
                (subst (λ (f : ℕ). IsPost s.names f p) (sym own) post, tt);
          };
        }

posts_fine : (s : Standing) (begun : Option Record) (e : ℕ) (p : Terms) → IsWritten s → IfSome begun (IsKept s.names)
    → IsPost s.names e p → Fine (posts s begun e (posted_step p))
posts_fine s None e p fine kept post =
    record_fine s (record { examiner = e; steps = posted_step p ∷ [] }) fine (record {
      posts = p ∷ [];
      steps = refl;
      examiner = post.examiner;
      few = omega arith;
      each = (post, tt);
    })
posts_fine s (Some r) e p fine kept post = inside_fine s r e p fine kept post

module _ (lands : LandsHaveCells kept_land_in) where
  -- a post of an instrument that was found, in a land that its text says
  post_fine : (p : Progress) (e doc : ℕ) (instrument : Instrument (List ℕ)) (text : List ℕ) (found : Option (Instrument ℕ))
      (said : Result Land DescFault) → numbered p.stands.names instrument ≡ found → kept_land_in text ≡ said → IsOpenBook p
      → IsExaminer e → IsFinePost doc instrument → Fine (after_post p e doc found (said_land said))
  post_fine p e doc instrument text None said is reads fine examiner act = tt
  post_fine p e doc instrument text (Some found) (Err why) is reads fine examiner act = tt
  post_fine p e doc instrument text (Some found) (Ok l) is reads fine examiner act =
      let known = numbered_is p.stands.names doc instrument found act is in
      let has = lands text l reads in
      posts_fine p.stands p.begun e (record { doc = doc; tract = l; instrument = found }) fine.stands fine.begun (record {
        examiner = examiner;
        some_document = known.1.some_document;
        last_document = known.1.last_document;
        grantor = known.0.grantor;
        grantee = known.0.grantee;
        estates = known.1.estates;
        shares = known.1.shares;
        sized = has.0;
        cell = has.1;
      })

  act_fine : (p : Progress) (e : ℕ) (a : Act (List ℕ)) → IsOpenBook p → IsExaminer e → IsFineAct a → Fine (after_act p e a)
  act_fine p e act.Begin fine examiner is = begin_fine p e fine examiner
  act_fine p e act.Commit fine examiner is = commit_fine p.stands p.begun e fine.stands fine.begun
  act_fine p e act.Abort fine examiner is = tt
  act_fine p e (act.Sheet text) fine examiner is = tt
  act_fine p e (act.Chain text) fine examiner is = tt
  act_fine p e (act.Post doc instrument text) fine examiner is =
      post_fine p e doc instrument text (numbered p.stands.names instrument) (kept_land_in text) refl refl fine examiner is

  said_fine : (p : Progress) (said : Row (List ℕ)) → IsOpenBook p → IsSaid said → Fine (after_said p said)
  said_fine p (row.Township text) fine is =
      where_so (is_none p.begun) _ (λ none. township_fine p.stands (said_township (land_in text)) fine.stands)
  said_fine p (row.Party name) fine is = where_so (is_none p.begun) _ (λ none. party_fine p.stands name is fine.stands)
  said_fine p (row.Step e a) fine is = act_fine p e a fine is.0 is.1

  -- a row in front of the last one of its block
  row_fine : (p : Progress) (line : List ℕ) (found : Option (List (List ℕ))) → fields_in line ≡ found → IsOpenBook p
      → Fine (given (given found said_by) (after_said p))
  row_fine p line None is fine = tt
  row_fine p line (Some fields) is fine = by_said (said_by fields) refl
    where
      by_said : (said : Option (Row (List ℕ))) → said_by fields ≡ said → Fine (given said (after_said p))
      by_said None h = tt
      by_said (Some said) h =
          let c = where_true (list_all is_utf8 fields) (row_in fields) said h in
          said_fine p said fine (row_may_say fields said c.0 c.1)

  then_fine : (n : ℕ) (o : Option Progress) (more : Progress → Result Progress ℕ) → Fine o
      → ((p : Progress) → IsOpenBook p → FineSoFar (more p)) → FineSoFar (going_on n o more)
  then_fine n None more fine next = tt
  then_fine n (Some p) more fine next = next p fine

  rows_fine : (n : ℕ) (p : Progress) (lines : List (List ℕ)) → IsOpenBook p → FineSoFar (after_rows n p lines)
  rows_fine n p [] fine = tt
  rows_fine n p (line ∷ []) fine =
      then_fine n (after_last_row p line) (λ after. Ok after) (where_so (is_end p line) (Some p) (λ ends. fine)) (λ after is. is)
  rows_fine n p (line ∷ next ∷ lines) fine =
      then_fine n (after_kept_row p line) (λ after. after_rows (n + 1) after (next ∷ lines)) (row_fine p line (fields_in line) refl fine)
      (λ after is. rows_fine (n + 1) after (next ∷ lines) is)

  after_fine : (r : Result Progress ℕ) (more : Progress → Result Progress ℕ) → FineSoFar r
      → ((p : Progress) → IsOpenBook p → FineSoFar (more p)) → FineSoFar (and_then r more)
  after_fine (Ok p) more fine next = next p fine
  after_fine (Err row) more fine next = tt

  blocks_fine : (n : ℕ) (p : Progress) (blocks : List (List ℕ)) → IsOpenBook p → FineSoFar (after_blocks n p blocks)
  blocks_fine n p [] fine = fine
  blocks_fine n p (block ∷ blocks) fine =
      after_fine (after_rows (n + 1) p (lines_of block)) (λ after. after_blocks (n + 1 + length (lines_of block)) after blocks)
      (rows_fine (n + 1) p (lines_of block) fine)
      (λ after is. blocks_fine (n + 1 + length (lines_of block)) after blocks is)

  nothing_fine : IsOpenBook (between nothing_standing)
  nothing_fine = record { stands = record { names = refl; texts = first_is_text; records = tt }; begun = tt }

  what_fine : (r : Result Progress ℕ) → FineSoFar r → IfOk (what_stands r) IsWritten
  what_fine (Ok p) fine = fine.stands
  what_fine (Err row) fine = tt

  standing_fine : (found : Result (List (List ℕ)) ℕ) → IfOk (standing_after found) IsWritten
  standing_fine (Ok blocks) = what_fine _ (blocks_fine 2 (between nothing_standing) blocks nothing_fine)
  standing_fine (Err row) = tt

  -- what stands in a file can be written
  pub stands_written : (file : List ℕ) (s : Standing) → standing_in file ≡ Ok s → IsWritten s
  stands_written file s h = subst (λ (r : Result Standing ℕ). IfOk r IsWritten) h (standing_fine (blocks_in file))
