-- A number outside of those that have slots is no image's.
use Rattle.std.proofs.{Common.{◌≡◌, ◌+◌, ◌<◌, length, arith}, lemmas.Grind.{common_steps}}
use Rattle.title_tree_store.proofs.Slots.{absent_above, absent_below}
use Rattle.title_tree_store.proofs.lent.Images.slot_of.Goals as goal

pub returns-then-self-number : goal.returns-then-self-number
returns-then-self-number c = record {
  slot = absent_above c.args.self.now.next c.args.number c.args.self.now.slots.items c.args.self.now.numbered c.if-self-number.true;
}

pub returns-then-len-back : goal.returns-then-len-back
returns-then-len-back c =
    let long : c.len-len.result ≡ length c.args.self.now.slots.items = grind (arith, common_steps, c.len-len.ensures) in
    let short : c.args.number + length c.args.self.now.slots.items < c.args.self.now.next =
    omega (arith, c.if-self-number.false, c.if-len-back.true, long) in
    record {
      slot = absent_below c.args.self.now.next c.args.number c.args.self.now.slots.items c.args.self.now.numbered short;
    }
