-- Items read one by one are the reserve of the whole text.
use Rattle.std.{proofs.{Common.{◌∙◌, lit<, refl}, lemmas.Iterator.Splits.{YieldsList-from_str_split}}, specs.List.{slice_split}}
use Rattle.title_plan.{specs.Fields.{is_semicolon, reserve_in}, proofs.Texts.{no_more, one_item}}
use Rattle.title_plan.proofs.terms.read_reserve.Goals as goal

pub loop-item-init : goal.loop-item-init
loop-item-init c =
    let split = c.split-item-items.ensures in
    rw c.into_iter-item-iterator.ensures.into_iter_gives (record {
      left = slice_split is_semicolon c.args.text.now;
      gives = (YieldsList-from_str_split 59 c.args.text.now (lit< tt) split.text split.has_more split.pattern).runs;
      after = rw (← c.if-is_empty.ensures) refl;
    })

pub loop-item-preserved : goal.loop-item-preserved
loop-item-preserved c =
    let inv = c.loop-item.invariant in
    let on = one_item c.loop-item.reserve inv.left (reserve_in c.args.text.now) c.loop-item.item-iterator c.next.new.self c.in-Some.item
    inv.gives (rw c.in-Some.is at c.next.ensures.steps) inv.after in
    record { left = on.0; gives = on.1; after = rw (← c.in_ok-reserve.ensures.item) at on.2 }

pub returns-in_err-reserve : goal.returns-in_err-reserve
returns-in_err-reserve c =
    let inv = c.loop-item.invariant in
    let on = one_item c.loop-item.reserve inv.left (reserve_in c.args.text.now) c.loop-item.item-iterator c.next.new.self c.in-Some.item
    inv.gives (rw c.in-Some.is at c.next.ensures.steps) inv.after in
    record { reserve = c.from_residual.ensures ∙ rw (← c.in_err-reserve.ensures.item) at on.2 }

pub returns : goal.returns
returns c =
    let inv = c.loop-item.invariant in
    record {
      reserve = no_more c.loop-item.reserve inv.left (reserve_in c.args.text.now) c.loop-item.item-iterator c.next.new.self
          inv.gives (rw c.in-None.is at c.next.ensures.steps) inv.after;
    }
