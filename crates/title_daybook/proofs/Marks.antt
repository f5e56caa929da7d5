-- A block that begins with a byte order mark is at fault in its first row.
use Rattle.std.proofs.Common.{◌≡◌, ◌∙◌, refl, ap, ℕ, List, [], ◌∷◌, ◌++◌, Bool, true, false, Option, Some, None, Err, inl, inr, arith}
use Rattle.std.{proofs.Common.{length, drop, suc, cond, add-one}, specs.Prelude.{◌==◌, ◌&&◌, is_none, nat_eq}}
use Rattle.std.{specs.List.{list_any, starts_with}, proofs.lemmas.{Bool.{cases_Bool, cond-true, cond-false}, Slice.Eq.{starts_is}}}
use Rattle.std.proofs.lemmas.Bool.Decides.{Decides-eqb, nat_tests}
use Rattle.title_plan.specs.{declared.row.Row.{Row}, Rows.{row_in}, Fields.{given}}
use Rattle.csv.specs.{Machine.{Read, step, is_end, next_record, fields_after, field_after, ends_at_end}, declared.parser.Action.{Action}}
use Rattle.csv.specs.{Reading.{default_config, is_bom, records_from, records_next, strip_bom}, declared.parser.State.{State}}
use Rattle.csv.specs.declared.parser.Action.TheVariants as act
use Rattle.csv.specs.declared.parser.State.TheVariants as st
use Rattle.title_journal.specs.Blocks.{line_feed}
use Rattle.title_daybook.specs.{KeptRows.{after_last_row, after_rows, Progress}, Readers.{byte_order_mark}}
use Rattle.title_daybook.specs.Lines.{closed, has_line_feed, has_return, lines_from, lines_of, only, row_said, said_by}

-- ---- without a mark nothing is taken off

unmarked : (a b c : ℕ) (xs : List ℕ) → starts_with nat_eq (a ∷ b ∷ c ∷ xs) byte_order_mark ≡ false → is_bom a b c ≡ false
unmarked a b c xs h = elim (cases_Bool (a == 239)) [
  | inr isnt ↦ rw isnt refl
  | inl is ↦ elim (cases_Bool (b == 187)) [
    | inr isnt ↦ rw (is, isnt) refl
    | inl is2 ↦ elim (cases_Bool (c == 191)) [
      | inr isnt ↦ rw (is, is2, isnt) refl
      | inl is3 ↦
          let ea : a ≡ 239 = grind (arith, nat_tests) in
          let eb : b ≡ 187 = grind (arith, nat_tests) in
          let ec : c ≡ 191 = grind (arith, nat_tests) in
          absurd (let all : true ≡ false = rw (ea, eb, ec) at h in cc all)
    ]
  ]
]

pub not_stripped : (text : List ℕ) → starts_with nat_eq text byte_order_mark ≡ false → strip_bom text ≡ text
unfolding strip_bom
not_stripped [] h = refl
not_stripped (a ∷ []) h = refl
not_stripped (a ∷ b ∷ []) h = refl
not_stripped (a ∷ b ∷ c ∷ xs) h = rw (unmarked a b c xs h) refl

-- ---- a row that begins with the mark's first byte says nothing

-- the first byte of a record, of which these are fields and the field at hand, is that one
abbrev IsMarked : List (List ℕ) → List ℕ → Type 0
IsMarked [] field = (rest : List ℕ) × (field ≡ 239 ∷ rest)
IsMarked (f ∷ fields) field = (rest : List ℕ) × (f ≡ 239 ∷ rest)

marked_end : (fields : List (List ℕ)) (field : List ℕ) → IsMarked fields field → IsMarked (fields ++ field ∷ []) []
marked_end [] field h = h
marked_end (f ∷ fields) field h = h

marked_stays : (a : Action) (c : ℕ) (fields : List (List ℕ)) (field : List ℕ) → IsMarked fields field
    → IsMarked (fields_after a fields field) (field_after a c field)
marked_stays act.Skip c fields field h = h
marked_stays act.Copy c [] field h = (h.0 ++ c ∷ [], ap (λ (l : List ℕ). l ++ c ∷ []) h.1)
marked_stays act.Copy c (f ∷ fields) field h = h
marked_stays act.EndField c [] field h = h
marked_stays act.EndField c (f ∷ fields) field h = h
marked_stays act.EndRecord c [] field h = h
marked_stays act.EndRecord c (f ∷ fields) field h = h

ended_marked : (a : Action) (c : ℕ) (fields : List (List ℕ)) (field : List ℕ) → is_end a ≡ true → IsMarked fields field
    → IsMarked (fields_after a fields field) []
ended_marked act.Skip c fields field e h = cc e
ended_marked act.Copy c fields field e h = cc e
ended_marked act.EndField c fields field e h = cc e
ended_marked act.EndRecord c fields field e h = marked_end fields field h

marked_record : (s : State) (fields : List (List ℕ)) (field xs : List ℕ) (p : Read)
    → next_record default_config s fields field xs ≡ Some p → IsMarked fields field → IsMarked p.0 []
unfolding next_record
marked_record s fields field [] p e h = elim (cases_Bool (ends_at_end s)) [
  | inl ends ↦ let same : (fields ++ (field ∷ []), st.StartRecord, []) ≡ p = cc (rw ends at e) in rw (← same) (marked_end fields field h)
  | inr goes ↦ absurd (let none : None ≡ Some p = rw goes at e in cc none)
]
marked_record s fields field (c ∷ xs) p e h = elim (cases_Bool (is_end (step default_config s c).1)) [
  | inl ends ↦
      let same : (fields_after (step default_config s c).1 fields field, (step default_config s c).0, xs) ≡ p = cc (rw ends at e) in
      rw (← same) (ended_marked (step default_config s c).1 c fields field ends h)
  | inr goes ↦ marked_record (step default_config s c).0 (fields_after (step default_config s c).1 fields field)
      (field_after (step default_config s c).1 c field) xs p (rw goes at e) (marked_stays (step default_config s c).1 c fields field h)
]

and_no : (b : Bool) → (b && false) ≡ false
and_no true = refl
and_no false = refl

no_row : (fields : List (List ℕ)) → IsMarked fields [] → row_in fields ≡ None
no_row [] h = absurd (cc h.1)
no_row (f ∷ fields) h = rw h.1 (rw and_no refl)

said_none : (fields : List (List ℕ)) → IsMarked fields [] → said_by fields ≡ None
said_none fields h = rw (no_row fields h) (either _)
  where
    either : (b : Bool) → cond {A = Option (Row (List ℕ))} b None None ≡ None
    either true = refl
    either false = refl

closed_none : (fields : List (List ℕ)) → IsMarked fields [] → given (closed fields) said_by ≡ None
closed_none fields h = elim (cases_Bool (list_any has_line_feed fields)) [
  | inl over ↦ rw over refl
  | inr whole ↦ rw whole (said_none fields h)
]

only_none : (fields : List (List ℕ)) (more : List (List (List ℕ))) → IsMarked fields [] → given (only (fields ∷ more)) said_by ≡ None
only_none fields [] h = closed_none fields h
only_none fields (next ∷ more) h = refl

records_none : (n : ℕ) (xs : List ℕ) (o : Option Read) → next_record default_config st.InField [] (239 ∷ []) xs ≡ o
    → given (only (records_next (records_from default_config n) o)) said_by ≡ None
records_none n xs None e = refl
records_none n xs (Some p) e =
    only_none p.0 (records_from default_config n p.1 p.2) (marked_record st.InField [] (239 ∷ []) xs p e ([], refl))

first_byte : (n : ℕ) (xs : List ℕ) → given (only (records_from default_config (suc n) st.StartRecord (239 ∷ xs))) said_by ≡ None
unfolding records_from next_record
first_byte n xs = records_none n xs (next_record default_config st.InField [] (239 ∷ []) xs) refl

not_said : (line : List ℕ) → row_said (239 ∷ line) ≡ None
not_said line = elim (cases_Bool (has_return (239 ∷ line))) [
  | inl returned ↦ rw returned refl
  | inr own ↦ rw own (rw add-one (first_byte (length ((239 ∷ line) ++ line_feed ∷ [])) (line ++ line_feed ∷ [])))
]

-- ---- a block that does

first_line : (start bytes : List ℕ) → (line : List ℕ) × (others : List (List ℕ)) × (lines_from (239 ∷ start) bytes ≡ (239 ∷ line) ∷ others)
first_line start [] = (start, [], refl)
first_line start (b ∷ bytes) = elim (cases_Bool (b == line_feed)) [
  | inl is ↦ (start, lines_of bytes, cond-true (b == line_feed) _ _ is)
  | inr isnt ↦ let more = first_line (start ++ b ∷ []) bytes in (more.0, more.1, cond-false (b == line_feed) _ _ isnt ∙ more.2)
]

no_end : (p : Progress) (line : List ℕ) → after_last_row p (239 ∷ line) ≡ None
no_end p line = rw (and_no (is_none p.begun)) refl

at_first : (n : ℕ) (p : Progress) (line : List ℕ) (others : List (List ℕ)) → after_rows n p ((239 ∷ line) ∷ others) ≡ Err n
at_first n p line [] = rw (no_end p line) refl
at_first n p line (next ∷ others) = rw (not_said line) refl

pub marked_block : (n : ℕ) (p : Progress) (text : List ℕ) → starts_with nat_eq text byte_order_mark ≡ true
    → after_rows n p (lines_of text) ≡ Err n
marked_block n p text h =
    let is : text ≡ byte_order_mark ++ drop 3 text = (starts_is Decides-eqb text byte_order_mark (starts_with nat_eq text
    byte_order_mark) refl).0 h in
    let line = first_line [] (187 ∷ 191 ∷ drop 3 text) in
    ap (λ (t : List ℕ). after_rows n p (lines_of t)) is ∙ ap (after_rows n p) line.2 ∙ at_first n p line.0 line.1
