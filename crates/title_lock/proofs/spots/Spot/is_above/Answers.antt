-- Numbers go up from the other node to its own or past it.
use Rattle.std.proofs.Common.{◌∙◌, ℕ, nat_eq, ap, sym, subst, arith}
use Rattle.title_lock.proofs.NumberLaws.{IsOnWay, way_begins, way_goes, way_ends, not_above}
use Rattle.title_lock.proofs.spots.Spot.is_above.Goals as goal

pub returns-then-other-self : goal.returns-then-other-self
returns-then-other-self c = record {
  above = not_above c.args.self.now.is.node c.args.other.now.is.node
      (omega (arith, c.if-other-self.true, c.args.self.now.is.numbered, c.args.other.now.is.numbered));
}

pub loop-number-init : goal.loop-number-init
loop-number-init c = way_begins c.args.self.now.is.node c.args.other.now.is.node c.args.other.now.number c.args.other.now.is.numbered
    (omega (arith, c.if-other-self.false, c.args.self.now.is.numbered))

pub loop-number-preserved : goal.loop-number-preserved
loop-number-preserved c =
    subst (λ (k : ℕ). IsOnWay c.args.self.now.is.node c.args.other.now.is.node k) (sym c.number_above-number.ensures.above)
    (way_goes c.args.self.now.is.node c.args.other.now.is.node c.loop-number.number
    (omega (arith, c.loop-number-test.true, c.args.self.now.is.numbered)) c.loop-number.invariant)

pub returns : goal.returns
returns c = record {
  above = ap (λ (k : ℕ). nat_eq c.loop-number.number k) c.args.self.now.is.numbered
      ∙ way_ends c.args.self.now.is.node c.args.other.now.is.node c.loop-number.number
      (omega (arith, c.loop-number-test.false, c.args.self.now.is.numbered)) c.loop-number.invariant;
}
