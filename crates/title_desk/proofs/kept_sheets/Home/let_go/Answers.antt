-- Those that are left share no cell with the tract, or are of other estates.
use Rattle.std.proofs.{Common.{rules}, lemmas.Fn.{filter_same}}
use Rattle.title_desk.proofs.Homes.{left_home}
use Rattle.title_desk.proofs.kept_sheets.Home.let_go.Goals as goal

pub returns : goal.returns
returns c = record {
  left = left_home c.args.tract.now c.args.estates _ _ (filter_same _ _ _ (λ x b f' k. search rules) _ _ c.retain.ensures.filtered)
      (filter_same _ _ _ (λ x b f' k. search rules) _ _ c.retain-2.ensures.filtered);
}
