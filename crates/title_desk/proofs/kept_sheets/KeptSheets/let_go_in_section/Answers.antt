-- The homes that a post in the section may meet were looked through or let go.
use Rattle.title_desk.proofs.Homes.{section_left, section_others, section_apart}
use Rattle.title_desk.proofs.kept_sheets.KeptSheets.let_go_in_section.Goals as goal

pub returns : goal.returns
returns c =
    let looked_through = rw c.node.ensures.node at c.let_go_at.ensures.left in
    record {
      left = section_left c.args.section c.args.tract.now c.args.estates c.args.self.now c.let_go_at.new.self c.drop_home.new.self
          c.drop_home-2.new.self c.requires.home looked_through c.drop_home.ensures.gone c.drop_home-2.ensures.gone;
      others = section_others c.args.section c.args.tract.now _ c.args.self.now c.let_go_at.new.self c.drop_home.new.self
          c.drop_home-2.new.self c.requires.home looked_through c.drop_home.ensures.gone c.drop_home-2.ensures.gone;
      apart = section_apart c.args.section c.args.tract.now c.args.estates c.args.self.now c.let_go_at.new.self c.drop_home.new.self
          c.drop_home-2.new.self c.requires.home looked_through c.drop_home.ensures.gone c.drop_home-2.ensures.gone;
    }
