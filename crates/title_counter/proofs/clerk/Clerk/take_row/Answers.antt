-- A row is answered as it is due, or passed over.
use Rattle.std.proofs.Common.{inl}
use Rattle.csv.specs.Records.{fields_of}
use Rattle.title_plan.specs.Plans.{understood}
use Rattle.title_counter.{specs.{Counters.{counted, due_understood}, Views.{answered, counter_of}}, proofs.RowLaws.{row_faulty, row_taken}}
use Rattle.title_counter.proofs.clerk.Clerk.take_row.Goals as goal

pub returns-in-Ok-clause-answered : goal.returns-in-Ok-clause-answered
returns-in-Ok-clause-answered c =
    let counter = counted (counter_of c.args.self.now) in
    inl (row_taken counter (due_understood counter (understood 1 (fields_of c.args.raw))) (answered c.in-Ok.answer c.take_fields.new.self)
    c.in-Ok.ensures.ok)

pub returns-in-Err-clause-answered : goal.returns-in-Err-clause-answered
returns-in-Err-clause-answered c =
    let counter = counted (counter_of c.args.self.now) in
    row_faulty counter (counter_of c.take_fields.new.self) (due_understood counter (understood 1 (fields_of c.args.raw)))
    c.in-Err.why c.take_fields.new.self.rows c.in-Err.ensures.kept c.in-Err.ensures.rows c.in-Err.ensures.err
