use Rattle.std.proofs.Common.{◌≡◌, drop}
use Rattle.title_daybook.{specs.Ends.{at_head, past_blocks}, proofs.Blocks.{contents}}
use Rattle.title_daybook.proofs.ending.row_of.Given as goal

abbrev pub invariant-blocks-2 : goal.invariant-blocks-2
invariant-blocks-2 l = past_blocks (at_head l.fn.place) (contents l.blocks.texts.items)
    ≡ past_blocks l.walk (contents (drop l.text-index l.blocks.texts.items))
