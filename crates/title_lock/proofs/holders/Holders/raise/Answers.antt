-- What the examiner holds now is counted, and no more what it held.
use Rattle.std.proofs.Common.{◌∙◌, ap, sym, cond, eqb, Option}
use Rattle.title_lock.specs.{declared.modes.Mode.{Mode}, Holders.{holder_mode}}
use Rattle.title_lock.proofs.CountLaws.{counted_own, counted_fits, counted_moved}
use Rattle.title_lock.proofs.holders.Holders.raise.Goals as goal

pub moved-self-inside-requires-clause-counted : goal.moved-self-inside-requires-clause-counted
moved-self-inside-requires-clause-counted c =
    counted_own c.self.inside.counts c.self.inside.slots c.args.examiner c.raise-had.result c.self.invariant
    c.raise-had.ensures.had

pub moved-self-inside-requires-clause-fits : goal.moved-self-inside-requires-clause-fits
moved-self-inside-requires-clause-fits c = counted_fits c.self.inside.counts c.self.inside.slots c.self.invariant

pub invariant_of-self : goal.invariant_of-self
invariant_of-self c = counted_moved c.self.inside.counts c.moved-self-inside.result c.self.inside.slots c.raise-had.new.self c.args.examiner
    c.raise-had.result c.bound-raised.result c.ranges.examiner.fits c.self.invariant
    c.raise-had.ensures.had
    c.moved-self-inside.ensures.moved
    (λ f. c.raise-had.ensures.modes f ∙ ap (λ (o : Option Mode). cond (eqb f c.args.examiner) o (holder_mode c.self.inside.slots f))
    (sym c.bound-raised.ensures.bound))
