-- One node of the cover more.
use Rattle.std.proofs.{Common.{◌<◌, length, arith}, lemmas.List.Folds.{list_any_more}, Math.Bool.{or_assoc, and-or_distrib_right}}
use Rattle.title_land.specs.Nodes.{same_node, is_above}
use Rattle.title_chain.proofs.Filings.{at_node}
use Rattle.title_chain.proofs.filing.Filing.file_cover.Goals as goal

pub loop-node-preserved : goal.loop-node-preserved
loop-node-preserved c =
    let low : c.loop-node.node-index < length c.args.cover.now = omega arith in
    let nodes = c.args.cover.now in
    let i = c.loop-node.node-index in
    let k = c.node-item.result in
    record {
      read = c.loop-node.invariant.read;
      at = λ n p. rw (
        at_node c.loop-node.self.at c.file_under.new.lists c.number-number.result k c.args.spot c.number-number.ensures.number
            c.in_ok-file_under.ensures.filed n p,
        c.loop-node.invariant.at n p,
        list_any_more (same_node n) nodes i k low,
        ← c.node-item.is,
      ) (simp (or_assoc, and-or_distrib_right));
      below = λ n p. rw (
        c.in_ok-file_above.ensures.filed k c.number-number.ensures.number n p,
        c.loop-node.invariant.below n p,
        list_any_more (is_above n) nodes i k low,
        ← c.node-item.is,
      ) (simp (or_assoc, and-or_distrib_right));
    }
