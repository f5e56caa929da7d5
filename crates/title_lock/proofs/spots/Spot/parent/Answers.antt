-- The number of the node above comes from this one's.
use Rattle.std.proofs.Common.{◌∙◌, ap, Some}
use Rattle.title_land.specs.Laws.NodeNumbers.{node_above}
use Rattle.title_lock.proofs.SpotLaws.{told}
use Rattle.title_lock.proofs.spots.Spot.parent.Goals as goal

pub numbered-requires : goal.numbered-requires
numbered-requires c =
    let self = c.args.self.now in
    let above = node_above self.is.node self.number self.is.numbered c.if-self-eq0.false in
    record { number = record { node = above.parent; numbered = c.number_above.ensures.above ∙ above.numbered } }

pub returns : goal.returns
returns c =
    let self = c.args.self.now in
    let above = node_above self.is.node self.number self.is.numbered c.if-self-eq0.false in
    record {
      parent = ap Some (told c.numbered.result.is above.parent
          (c.numbered.ensures.number ∙ c.number_above.ensures.above ∙ above.numbered)) ∙ above.is;
    }
