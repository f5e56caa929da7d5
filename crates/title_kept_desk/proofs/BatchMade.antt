-- What a batch of rows adds to a plant's file: with its block behind what stood at the one counter stands what stands at the other.
use Rattle.std.proofs.Common.{◌≡◌, ◌∙◌, ◌≤◌, ◌<◌, ◌++◌, ◌^◌, ℕ, true, List, length, map, reverse, Option, sym, ap, arith}
use Rattle.std.proofs.lemmas.List.{length-map, reverse-reverse}
use Rattle.title_land.specs.Depth.{depth}
use Rattle.title_chain.specs.{declared.record.Record.{Record}, Alone.{IsSerial, most_parties}}
use Rattle.title_trace.specs.{Trace.{committed}, Due.{most_townships}, Serial.{IdleHaveNoSteps}}
use Rattle.title_journal.specs.Blocks.{blocks_in}
use Rattle.title_plan.specs.Townships.{each_once}
use Rattle.title_standing.specs.{Standing.{kept, replayed}, StandingLaws.{KeptAreSerial, ReplayedAreCommitted}}
use Rattle.title_spelling.specs.Posts.{IsExaminer}
use Rattle.title_daybook.specs.{AddedLaws.{AddedReadsBack, CanBeWritten, KeptAreWritten}, Files.{standing_after}, Standing.{Standing}}
use Rattle.title_daybook.specs.declared.writing.Stood.{Stood}
use Rattle.title_counter.specs.{Counters.{Counter, setting_at}, Sessions.{IsSound}}
use Rattle.title_lasting.specs.{Kept.{with_text}, Made.{Adds, HasStood, IsAddedBlock}}
use Rattle.title_lasting.specs.Laws.{Additions.{block_is_new, calls_come, kept_behind, news_behind}, CallsMore.{none_more}}
use Rattle.title_lasting.specs.Laws.{FineBooks.{IsWritten}, FineScripts.{FineAsk}, GoingOn.{commits_more}, KeptNews.{kept_again}}
use Rattle.title_lasting.specs.Laws.Plants.{adds_stand}
use Rattle.title_kept_desk.specs.Sittings.{HasAt, opening_on, stands_at}
use Rattle.title_kept_desk.proofs.FineCounters.{GoesOnFrom, IsFineAt}

-- before the first row a counter has what can be written
pub opens_fine : (s : Standing) → IsWritten s → IsFineAt s (opening_on s)
opens_fine s written = record {
  names = written.names;
  texts = written.texts;
  calls = none_more IsExaminer (FineAsk s.names) (replayed s.records);
}

-- what stood in a file stands at the counter before the first row
pub opening_stands : ReplayedAreCommitted → (s : Standing) → IsWritten s → stands_at (opening_on s) ≡ s
opening_stands recalled s written =
    ap (λ (records : List Record). record { townships = s.townships; names = s.names; records = records })
    (ap (map kept) (recalled s.records).0 ∙ kept_again s.names s.records written.records)

-- what has come to a counter can be written
pub writable : ReplayedAreCommitted → IdleHaveNoSteps depth → (s : Standing) → IsWritten s → (d : Counter) → IsFineAt s d
    → GoesOnFrom (opening_on s) d → IsSound d → each_once d.townships ≡ true → length d.townships ≤ most_townships
    → length d.names ≤ most_parties → length (committed d.trace) < 2 ^ 64 → CanBeWritten (stands_at d)
writable recalled idle s written d fine from sound once few_townships few_names few_records = record {
  once = once;
  few_townships = few_townships;
  names = fine.names;
  texts = fine.texts;
  few_names = few_names;
  few_records = omega (arith, few_records, length-map (committed d.trace) kept);
  records = (calls_come recalled idle s written d.names (from.names, sym from.names_are) (setting_at d) d.trace fine.calls sound.due).can;
}

-- the block that was put together, or none, adds to what stood at the one counter what has come to the other
pub adds_at : AddedReadsBack → KeptAreWritten → (c d : Counter) → GoesOnFrom c d → CanBeWritten (stands_at d) → (file : List ℕ)
    → HasAt c file → (stood : Stood) → HasStood stood (stands_at c) → (block : Option (List ℕ))
    → IsAddedBlock stood d.townships d.names (reverse (committed d.trace)) block → Adds block (stands_at c) (stands_at d)
adds_at added written c d on can file has stood so_much block is =
    let records : List Record = committed d.trace in
    let more = commits_more on.calls c.trace in
    let goes_on : records ≡ more.0 ++ committed c.trace = ap committed on.trace_is ∙ more.1 in
    let behind = news_behind (reverse records) more.0 (committed c.trace) stood.records (reverse-reverse records ∙ goes_on)
    (so_much.records ∙ length-map (committed c.trace) kept) in
    (block_is_new added written (stands_at c) (stands_at d) more.0 (on.townships, sym on.townships_are) (on.names, sym on.names_are)
    (kept_behind records more.0 (committed c.trace) goes_on) can (blocks_in file) has.0 stood so_much (reverse records) behind block
    is).adds

-- ---- a file with the block

-- what is kept of what a sound counter has committed is serial
pub kept_serial : KeptAreSerial → (d : Counter) → IsSound d → IsSerial depth d.townships (map kept (committed d.trace))
kept_serial serial d sound = (serial depth d.townships (committed d.trace) sound.serial).0

-- with the block behind what stood at the one counter a file has what stands at the other
pub has_then : (file other : List ℕ) (c d : Counter) (block : Option (List ℕ)) → HasAt c file → Adds block (stands_at c) (stands_at d)
    → IsSerial depth d.townships (map kept (committed d.trace)) → blocks_in other ≡ with_text block (blocks_in file) → HasAt d other
has_then file other c d block has adds serial now =
    (ap standing_after now ∙ adds_stand block (stands_at c) (stands_at d) adds (blocks_in file) has.0, serial)

pub has_still : (file other : List ℕ) (c : Counter) → HasAt c file → blocks_in other ≡ blocks_in file → HasAt c other
has_still file other c has same = (ap standing_after same ∙ has.0, has.1)
