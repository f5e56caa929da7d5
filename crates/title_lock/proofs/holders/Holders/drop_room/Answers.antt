-- Who holds nothing is let go.
use Rattle.std.proofs.Common.{◌∙◌, ap, sym}
use Rattle.title_lock.{specs.Holders.{Modes, holder_mode}, proofs.CountLaws.{counted_same, dropped_same}}
use Rattle.title_lock.proofs.holders.Holders.drop_room.Goals as goal

pub invariant_of-self : goal.invariant_of-self
invariant_of-self c =
    let h = c.self.inside.slots in
    let g = c.erase.new.self in
    let e = c.args.examiner in
    counted_same c.self.inside.counts h g
    (dropped_same h g e (ap (λ (k : Modes). holder_mode k e) c.self.view_is
    ∙ sym c.in-None.ensures.mode) c.erase.ensures.modes) c.self.invariant
