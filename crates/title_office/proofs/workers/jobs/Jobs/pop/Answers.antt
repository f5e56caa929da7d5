-- The last script, its seat and its tally belong together, and so do those before them.
use Rattle.std.proofs.Common.{◌+◌, vec_len}
use Rattle.title_office.proofs.Lists.{unsnoc_maps}
use Rattle.title_office.proofs.workers.jobs.Jobs.pop.Goals as goal

pub invariant_of-result : goal.invariant_of-result
invariant_of-result g c =
    let s = c.args.self.now in
    let owned = unsnoc_maps (λ x. x.examiner) (λ x. x.examiner) s.seats.items c.pop-2.new.self.items s.scripts.items
    c.pop.new.self.items c.in_ok-seat.seat c.in_ok-script.script s.own c.in_ok-seat.ensures.items c.in_ok-script.ensures.items in
    let sized = unsnoc_maps (λ t. t.left) (λ x. vec_len x.transactions) s.tallies.items c.pop-3.new.self.items s.scripts.items
    c.pop.new.self.items c.in_ok-tally.tally c.in_ok-script.script s.left c.in_ok-tally.ensures.items c.in_ok-script.ensures.items in
    let bare = unsnoc_maps (λ t. vec_len t.outcomes + t.aborted + t.given_up) (λ _. 0) s.tallies.items c.pop-3.new.self.items
    s.scripts.items c.pop.new.self.items c.in_ok-tally.tally c.in_ok-script.script s.empty c.in_ok-tally.ensures.items
    c.in_ok-script.ensures.items in
    record { own = owned.1; left = sized.1; empty = bare.1 }
