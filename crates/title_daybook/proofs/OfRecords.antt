-- Of records a block has what is kept of them.
use Rattle.std.proofs.Common.{◌≡◌, ◌∙◌, ◌+◌, ◌-◌, ℕ, false, List, [], ◌∷◌, ◌++◌, drop, filter, length, length-append, map, reverse, take}
use Rattle.std.{proofs.{Common.{None, refl, sym, ap, arith, inl, inr}, lemmas.Bool.{cases_Bool}}, specs.List.{flat_map}}
use Rattle.std.proofs.lemmas.List.{length-map, length-reverse, map-append, reverse-append, reverse-reverse, take_at}
use Rattle.title_chain.specs.declared.{ask.{Answer.{Answer}, Ask.{Ask}, Step.{Step}, Terms.{Terms}}, record.Record.{Record}}
use Rattle.title_chain.specs.declared.ask.Answer.TheVariants as answer
use Rattle.title_chain.specs.declared.ask.Ask.TheVariants as ask
use Rattle.title_desk.specs.Images.{is_posted}
use Rattle.title_standing.specs.Standing.{kept}
use Rattle.title_spelling.specs.Rows.{PlantRow}
use Rattle.title_spelling.specs.Rows as plant
use Rattle.title_daybook.specs.Added.{added_block, at_most_one, posted, posts_of, record_rows, rows_of, text_of, transaction_rows}
use Rattle.title_daybook.specs.{AddedLaws.{KeptAreWritten}, Standing.{Standing}}

-- a step that wasn't posted
not_posted : (a : Ask) (b : Answer) → is_posted a b ≡ false → posted a b ≡ None
not_posted (ask.Sheet t) b h = refl
not_posted (ask.Chain t) b h = refl
not_posted (ask.Post p) (answer.Rows rows) h = refl
not_posted (ask.Post p) (answer.Entries entries) h = refl
not_posted (ask.Post p) answer.Posted h = cc h
not_posted (ask.Post p) (answer.Refused rule estate node) h = refl

kept_posts : (steps : List Step) → posts_of (filter (λ s. is_posted s.ask s.answer) steps) ≡ posts_of steps
kept_posts [] = refl
kept_posts (s ∷ steps) = elim (cases_Bool (is_posted s.ask s.answer)) [
  | inl is ↦ rw is (ap (λ (l : List Terms). at_most_one (posted s.ask s.answer) ++ l) (kept_posts steps))
  | inr isnt ↦ rw (isnt, not_posted s.ask s.answer isnt) (kept_posts steps)
]

kept_rows : (r : Record) → record_rows (kept r) ≡ record_rows r
kept_rows r = ap (transaction_rows r.examiner) (kept_posts r.steps)

all_kept : (records : List Record) → flat_map record_rows (map kept records) ≡ flat_map record_rows records
all_kept [] = refl
all_kept (r ∷ records) = rw (kept_rows r, all_kept records) refl

map_turned : (records : List Record) → map kept (reverse records) ≡ reverse (map kept records)
map_turned [] = refl
map_turned (r ∷ records) =
    ap (map kept) (reverse-append (r ∷ []) records) ∙ map-append kept (reverse records) (r ∷ [])
    ∙ ap (λ (l : List Record). l ++ kept r ∷ []) (map_turned records) ∙ sym (reverse-append (kept r ∷ []) (map kept records))

turned : (records : List Record) → reverse (map kept (reverse records)) ≡ map kept records
turned records = ap reverse (map_turned records) ∙ reverse-reverse (map kept records)

module _ (old new : Standing) (records : List Record) (is : new.records ≡ map kept (reverse records) ++ old.records) where
  size : length (map kept (reverse records)) ≡ length records
  size = length-map (reverse records) kept ∙ length-reverse records

  number : length new.records ≡ length old.records + length records
  number =
      let whole = ap length is ∙ length-append (map kept (reverse records)) old.records in
      omega (arith, whole, size)

  those : reverse (take (length new.records - length old.records) new.records) ≡ map kept records
  those =
      let count : length (map kept (reverse records)) ≡ length new.records - length old.records =
      omega (arith, number, size) in
      ap (λ (l : List Record). reverse (take (length new.records - length old.records) l)) is
      ∙ ap reverse (take_at (map kept (reverse records)) old.records _ count) ∙ turned records

  written : text_of new.names (rows_of (drop (length old.townships) new.townships) (drop (length old.names) new.names) records
      (length old.records + length records)) ≡ added_block old new
  written = sym (ap (λ (l : List Record). text_of new.names (rows_of (drop (length old.townships) new.townships)
      (drop (length old.names) new.names) l (length new.records))) those
      ∙ ap (λ (n : ℕ). text_of new.names (rows_of (drop (length old.townships) new.townships)
      (drop (length old.names) new.names) (map kept records) n)) number
      ∙ ap (λ (rows : List PlantRow). text_of new.names (map plant.Township (drop (length old.townships) new.townships)
      ++ map plant.Party (drop (length old.names) new.names) ++ rows ++ plant.End (length old.records + length records) ∷ []))
      (all_kept records))

pub kept_are_written : KeptAreWritten
kept_are_written old new records is = written old new records is
