-- What is kept of the other homes stays.
use Rattle.title_land.specs.NodeNumbers.{node_number}
use Rattle.title_desk.{specs.Shown.{no_stock}, proofs.Homes.{kept_set, none_kept}}
use Rattle.title_desk.proofs.shown_store.ShownStore.let_go.Goals as goal

pub invariant_of-self : goal.invariant_of-self
invariant_of-self g c =
    kept_set _ _ (node_number c.args.home) no_stock c.self.inside.kept c.drop_home.new.self c.drop_home.ensures.gone (none_kept _ _ _)
    c.self.invariant
