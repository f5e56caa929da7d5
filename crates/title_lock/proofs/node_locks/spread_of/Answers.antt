-- One entry more, before those so far.
use Rattle.std.proofs.{Common.{◌<◌, ◌∙◌, ◌∷◌, ap, sym, List, reverse, take, length, arith}, lemmas.List.{take_all}}
use Rattle.title_lock.{specs.declared.guards.Entry.{Entry}, proofs.RowLaws.{turned_more}}
use Rattle.title_lock.proofs.node_locks.spread_of.Goals as goal

pub loop-row-preserved : goal.loop-row-preserved
loop-row-preserved c =
    let low : c.loop-row.row-index < length c.args.rows.now = omega arith in
    let x = c.entry-entry.result.now in
    c.in-Ok.ensures.ok
    ∙ ap (λ (es : List Entry). x ∷ es) c.loop-row.invariant
    ∙ ap (λ (z : Entry). z ∷ reverse (take c.loop-row.row-index c.args.rows.now)) (c.entry-entry.ensures.entry ∙ c.row-item.is)
    ∙ sym (turned_more c.args.rows.now c.loop-row.row-index c.row-item.result low)

pub returns : goal.returns
returns c = record {
  spread = c.loop-row.invariant ∙ ap (λ (es : List Entry). reverse es) (take_all c.loop-row.row-index c.args.rows.now (omega arith));
}
