-- The store holds what the trace says.
use Rattle.std.proofs.Common.{◌≡◌}
use Rattle.title_desk.proofs.States.{shown}
use Rattle.title_desk.proofs.desk.Desk.store.Goals as goal

pub returns : goal.returns
returns g c =
    let is : c.store.result.now ≡ c.self.inside.store = c.store.ensures.store in
    let s = shown c.self.invariant in
    rw (is, ← c.self.view_is) record { declared = c.self.invariant.declared_are; posted = s.0; rest = s.1 }
