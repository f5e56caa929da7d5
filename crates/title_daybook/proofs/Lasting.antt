-- With a block that adds behind them, the blocks that stand for the old stand for the new.
use Rattle.std.proofs.Common.{◌≡◌, ◌∙◌, ◌≤◌, ◌+◌, ◌-◌, ℕ, true, List, [], ◌∷◌, ◌++◌, length, length-append, map, reverse, take, drop}
use Rattle.std.{proofs.Common.{Result, Ok, Err, refl, sym, ap, subst, arith}, specs.List.{flat_map, AllByRecursion}}
use Rattle.std.proofs.{lemmas.List.{reverse-append, reverse-reverse, take_at}, Math.Seq.{drop-append_seam}}
use Rattle.title_land.specs.declared.survey.Township.{Township as SurveyTownship}
use Rattle.title_chain.specs.declared.record.Record.{Record}
use Rattle.title_journal.specs.Blocks.{IsBlock}
use Rattle.title_spelling.specs.{Laws.{MarksReadBack, OnlyEndsEnd, PostsReadBack, RowsAreLines}, Rows.{End, Party, PlantRow, Township}}
use Rattle.title_plan.specs.Townships.{each_once}
use Rattle.title_trace.specs.Due.{most_townships}
use Rattle.title_daybook.specs.{Added.{added_block, added_rows, record_rows, rows_of, text_of, IsOn}, Lines.{lines_of}}
use Rattle.title_daybook.specs.{AddedLaws.{AddedReadsBack, CanBeWritten, IsKept}, KeptRows.{after_rows, between, Progress}}
use Rattle.title_daybook.specs.{Files.{after_blocks, and_then, standing_after, what_stands}, Standing.{Standing, nothing_standing}}
use Rattle.title_daybook.proofs.{Adding.{all_rows, is_block, one_block_more}, Taking.{parties, records, takes_both, townships, Takes}}

all_front : {X : Type 0} (P : X → Type 0) (xs ys : List X) → AllByRecursion P (xs ++ ys) → AllByRecursion P xs
all_front P [] ys h = tt
all_front P (x ∷ xs) ys h = (h.0, all_front P xs ys h.1)

all_and_one : {X : Type 0} (P : X → Type 0) (xs : List X) (y : X) → AllByRecursion P xs → P y → AllByRecursion P (xs ++ y ∷ [])
all_and_one P [] y h k = (k, tt)
all_and_one P (x ∷ xs) y h k = (h.0, all_and_one P xs y h.1 k)

all_turned : {X : Type 0} (P : X → Type 0) (xs : List X) → AllByRecursion P xs → AllByRecursion P (reverse xs)
all_turned P [] h = tt
all_turned P (x ∷ xs) h = subst (AllByRecursion P) (sym (reverse-append (x ∷ []) xs)) (all_and_one P (reverse xs) x (all_turned P
    xs h.1) h.0)

module _ (are_lines : RowsAreLines) (only_ends : OnlyEndsEnd) (marks : MarksReadBack) (posts_read : PostsReadBack)
    (old new : Standing) (on : IsOn old new) (can : CanBeWritten new) where
  -- the rows in front of the end
  inner : List PlantRow
  inner = map Township on.townships ++ map Party on.names ++ flat_map record_rows (reverse on.records)

  rows_are : added_rows old new ≡ inner ++ End (length new.records) ∷ []
  unfolding inner
  rows_are =
      let ts : drop (length old.townships) new.townships ≡ on.townships =
      ap (drop (length old.townships)) on.townships_are ∙ drop-append_seam old.townships on.townships in
      let ns : drop (length old.names) new.names ≡ on.names = ap (drop (length old.names)) on.names_are
      ∙ drop-append_seam old.names on.names in
      let size : length on.records ≡ length new.records - length old.records =
      let whole = ap length on.records_are ∙ length-append on.records old.records in omega (arith, whole) in
      let rs : take (length new.records - length old.records) new.records ≡ on.records =
      ap (take (length new.records - length old.records)) on.records_are ∙ take_at on.records old.records _ size in
      ap (λ (l : List SurveyTownship). rows_of l (drop (length old.names) new.names)
      (reverse (take (length new.records - length old.records) new.records)) (length new.records)) ts
      ∙ ap (λ (l : List (List ℕ)). rows_of on.townships l (reverse (take (length new.records - length old.records) new.records))
      (length new.records)) ns
      ∙ ap (λ (l : List Record). rows_of on.townships on.names (reverse l) (length new.records)) rs

  taken : Takes marks posts_read new.names can.names can.texts inner (between old) (between new)
  unfolding inner
  taken =
      let after_townships : Standing = record { townships = new.townships; names = old.names; records = old.records } in
      let after_names : Standing = record { townships = new.townships; names = new.names; records = old.records } in
      let first : Takes marks posts_read new.names can.names can.texts (map Township on.townships) (between old) (between after_townships) =
      subst (λ (l : List SurveyTownship). Takes marks posts_read new.names can.names can.texts (map Township on.townships) (between old)
      (between (record { townships = l; names = old.names; records = old.records }))) (sym on.townships_are)
      (townships marks posts_read new.names can.names can.texts on.townships old
      (subst (λ (l : List SurveyTownship). length l ≤ most_townships) on.townships_are can.few_townships)
      (subst (λ (l : List SurveyTownship). each_once l ≡ true) on.townships_are can.once)) in
      let second = parties marks posts_read new.names can.names can.texts on.names after_townships (sym on.names_are) can.few_names in
      let kept = all_turned (IsKept new.names) on.records
      (all_front (IsKept new.names) on.records old.records (subst (AllByRecursion (IsKept new.names)) on.records_are can.records)) in
      let turned : reverse (reverse on.records) ++ old.records ≡ new.records =
      ap (λ (l : List Record). l ++ old.records) (reverse-reverse on.records) ∙ sym on.records_are in
      let third = subst (λ (l : List Record). Takes marks posts_read new.names can.names can.texts (flat_map record_rows (reverse
      on.records))
      (between after_names) (between (record { townships = new.townships; names = new.names; records = l }))) turned
      (records marks posts_read new.names can.names can.texts (reverse on.records) after_names refl kept) in
      takes_both marks posts_read new.names can.names can.texts (map Township on.townships ++ map Party on.names)
      (flat_map record_rows (reverse on.records)) _ _ _
      (takes_both marks posts_read new.names can.names can.texts (map Township on.townships) (map Party on.names) _ _ _ first second) third

  block_is : added_block old new ≡ text_of new.names (inner ++ End (length new.records) ∷ [])
  block_is = ap (text_of new.names) rows_are

  pub added_is_block : IsBlock (added_block old new)
  added_is_block = subst IsBlock (sym block_is)
      (is_block are_lines marks posts_read new.names can.names can.texts only_ends inner (length new.records) (between old) (between new)
      can.few_records taken)

  added_rows_read : (number : ℕ) → after_rows number (between old) (lines_of (added_block old new)) ≡ Ok (between new)
  added_rows_read number = ap (λ (t : List ℕ). after_rows number (between old) (lines_of t)) block_is
      ∙ all_rows are_lines marks posts_read new.names can.names can.texts number inner (between old) (between new) (length new.records)
      can.few_records taken refl refl

  added_block_read : (m : ℕ) (q : Progress) → q ≡ between old → after_blocks m q (added_block old new ∷ []) ≡ Ok (between new)
  added_block_read m q is = ap (λ (a : Progress). after_blocks m a (added_block old new ∷ [])) is
      ∙ ap (λ (r : Result Progress ℕ). and_then r (λ after. after_blocks (m + 1 + length (lines_of (added_block old new))) after []))
      (added_rows_read (m + 1))

  module _ (blocks : List (List ℕ)) where
    behind : (found : Result Progress ℕ) → after_blocks 2 (between nothing_standing) blocks ≡ found → what_stands found ≡ Ok old
        → standing_after (Ok (blocks ++ added_block old new ∷ [])) ≡ Ok new
    behind (Err row) is e = cc e
    behind (Ok q) is e =
        let stands : q.stands ≡ old = cc e in
        let more = one_block_more 2 (between nothing_standing) q blocks (added_block old new) refl is in
        let q_is : q ≡ between old = rw (sym more.0, sym stands) refl in
        ap what_stands (more.1.1 ∙ added_block_read more.1.0 q q_is)

pub added_reads_back : RowsAreLines → OnlyEndsEnd → MarksReadBack → PostsReadBack → AddedReadsBack
added_reads_back are_lines only_ends marks posts_read blocks old new stands on can = (
  added_is_block are_lines only_ends marks posts_read old new on can,
  behind are_lines only_ends marks posts_read old new on can blocks (after_blocks 2 (between nothing_standing) blocks) refl stands,
)
