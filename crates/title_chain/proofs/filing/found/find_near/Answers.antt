-- What is filed under the node and below it, and above it, or known from before.
use Rattle.std.proofs.Math.Bool.{or_assoc}
use Rattle.title_chain.{specs.{PostSpots.{is_listed}, SpotMaps.{spots_under}, TractIndexes.{is_higher}}, proofs.FoundLaws.{skipped}}
use Rattle.title_chain.proofs.filing.found.find_near.Goals as goal

pub returns-then-is_known : goal.returns-then-is_known
returns-then-is_known c = record {
  found = λ n is known p. rw (
    c.in_ok-find_all-2.ensures.found p,
    c.in_ok-find_all.ensures.found p,
    c.spots_at-2.ensures.spots,
    c.spots_at.ensures.spots,
    is,
  ) (skipped (is_listed p c.args.found.now.items) (is_listed p (spots_under c.args.filing.now.at n))
      (is_listed p (spots_under c.args.filing.now.below n)) (is_higher c.args.filing.now p n) (known c.if-is_known.true p));
}

pub returns : goal.returns
returns c = record {
  found = λ n is known p. rw (
    c.in_ok-find_above.ensures.found n is p,
    c.in_ok-find_all-2.ensures.found p,
    c.in_ok-find_all.ensures.found p,
    c.spots_at-2.ensures.spots,
    c.spots_at.ensures.spots,
    is,
  ) (simp or_assoc);
}
