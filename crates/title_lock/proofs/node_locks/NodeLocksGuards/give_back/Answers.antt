-- The list without its examiner's entries is one still; another examiner has none in it.
use Rattle.std.proofs.Common.{sym}
use Rattle.title_lock.proofs.AloneLaws.{shown_own, fewer_in_one, without_other}
use Rattle.title_lock.proofs.node_locks.NodeLocksGuards.give_back.Goals as goal

pub invariant_of-self : goal.invariant_of-self
invariant_of-self c =
    let i = c.self.inside in
    let left = c.give_back in
    fewer_in_one i.layout c.in-Alone.owner c.args.examiner i.listed.entries left.new.self.entries i.spread.entries left.ensures.left
    c.self.invariant c.in-Alone.is

pub returns-else-owner-examiner : goal.returns-else-owner-examiner
returns-else-owner-examiner c =
    let i = c.self.inside in
    let e = c.in-Alone.owner in
    let own = shown_own i.layout e i.listed i.spread c.args.self.now c.self.view_is c.self.invariant c.in-Alone.is in
    record { left = sym (without_other c.args.examiner e c.args.self.now.entries own (λ s. c.if-owner-examiner.false (sym s))) }
