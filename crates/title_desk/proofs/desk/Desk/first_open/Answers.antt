-- The open examiners are those that have begun.
use Rattle.std.proofs.{Common.{subst}, Math.Path.{fun_ext}}
use Rattle.title_desk.specs.Opened.{IsFirst}
use Rattle.title_desk.proofs.desk.Desk.first_open.Goals as goal

pub returns : goal.returns
returns g c = rw (← c.self.view_is) record {
  first = subst (λ test. IsFirst test c.first.result) (fun_ext c.self.invariant.begun_are) c.first.ensures.first;
}
