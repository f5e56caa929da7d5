-- The spots near one node of the cover more.
use Rattle.std.proofs.{Common.{◌<◌, ◌∙◌, length, refl, arith}, lemmas.List.Folds.{list_any_more}}
use Rattle.title_chain.specs.TractIndexes.{is_near}
use Rattle.title_chain.proofs.filing.Filing.find.Goals as goal

pub loop-node-preserved : goal.loop-node-preserved
loop-node-preserved c =
    let low : c.loop-node.node-index < length c.args.cover.now = omega arith in
    record {
      found = λ p. rw (
        c.in_ok-add_near.ensures.found p,
        c.loop-node.invariant.found p,
        c.loop-node.invariant.filing,
        list_any_more (is_near c.args.self.now p) c.args.cover.now c.loop-node.node-index c.node-item.result low,
        ← c.node-item.is,
      ) refl;
      filing = c.add_near.ensures.filing ∙ c.loop-node.invariant.filing;
    }
