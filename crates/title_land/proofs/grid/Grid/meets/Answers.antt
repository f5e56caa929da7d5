-- Two sets meet where a row of each has a bit in common.
use Rattle.std.proofs.Common.{◌∙◌}
use Rattle.title_land.{specs.Depth.{depth}, proofs.GridRows.{rows_meeting}}
use Rattle.title_land.proofs.grid.Grid.meets.Goals as goal

pub returns : goal.returns
returns c =
    record {
      meets = rw (← c.self.view_is, ← c.other.view_is) (c.share_bits.ensures.shared
          ∙ rows_meeting depth c.self.inside.rows c.other.inside.rows c.self.invariant c.other.invariant);
    }
