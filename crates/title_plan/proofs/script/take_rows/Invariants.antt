use Rattle.std.proofs.Common.{◌≡◌, ◌≤◌, ◌+◌, ◌-◌, ℕ, List, Some, true}
use Rattle.csv.specs.Reading.{Ready, default_config, is_flexible, records, records_from, source_of}
use Rattle.csv.specs.declared.reader.Trim.TheVariants as trim
use Rattle.title_plan.specs.{Limits.{most_rows}, Asked.{asked_in}, Onto.{StandIn, after_rows_onto, first_of}, Readers.{left_of}}
use Rattle.title_plan.proofs.ReadOn.{IsCounted}
use Rattle.title_plan.proofs.script.take_rows.Given as goal

-- from what the plan holds, the records that are left come to what the script does
abbrev pub invariant-rows : goal.invariant-rows
invariant-rows l = record {
  trims : l.reader.trim ≡ trim.None;
  ready : Ready l.reader;
  config : l.reader.config ≡ default_config;
  flexible : is_flexible l.reader ≡ true;
  few : l.n ≤ most_rows;
  rest : List ℕ;
  source : source_of (λ s. Some s.now) l.reader ≡ Some rest;
  count : ℕ;
  counted : IsCounted count l.reader.state rest;
  before : first_of l.taken.stood (asked_in l.taken.plan) ≡ first_of l.fn.taken.stood (asked_in l.fn.taken.plan);
  stands : StandIn l.taken.stood (asked_in l.taken.plan);
  after : after_rows_onto l.schedule (first_of l.fn.taken.stood (asked_in l.fn.taken.plan)) (l.n + 1) (asked_in l.taken.plan)
      (records_from default_config count l.reader.state rest)
      ≡ after_rows_onto l.schedule (first_of l.fn.taken.stood (asked_in l.fn.taken.plan)) 1 (asked_in l.fn.taken.plan)
      (records default_config (left_of l.fn.reader));
}

abbrev pub decreases-rows : goal.decreases-rows
decreases-rows l = most_rows - l.n
