-- With what any plan declares a plant can be opened.
use Rattle.std.proofs.Common.{length}
use Rattle.title_trace.specs.Due.{MayOpen}
use Rattle.title_plan.specs.{declared.plan.Plan.{Plan}, Laws.Declarations.{once_said}}
use Rattle.title_plan.proofs.script.read_script_onto.Goals as goal

opens : (plan : Plan) → MayOpen (length plan.parties.keys) plan.townships.items
opens plan = (plan.some, plan.few, plan.few_townships, once_said plan.townships.items plan.once)

pub returns-clause-opens : goal.returns-clause-opens
returns-clause-opens c = opens c.take_rows.new.taken.plan
