-- Each step of a plan that was read as an office's is one of its examiners'.
use Rattle.title_plan.specs.Asked.{asked_in}
use Rattle.title_dealing.proofs.office_script.read_office.Goals as goal

pub deal_plan-requires : goal.deal_plan-requires
deal_plan-requires c =
    let is = c.in_ok-plan.ensures.script in
    record {
      asked = (c.offices_keep_turns.ensures.law c.args.examiners c.args.bytes.now (asked_in c.in_ok-plan.plan) is).examiners;
    }
