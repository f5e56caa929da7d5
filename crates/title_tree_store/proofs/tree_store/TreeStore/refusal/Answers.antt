-- A post that is refused is so by the first cell of its tract that fails.
use Rattle.std.proofs.Common.{ap, refl, sym, ◌∙◌, Option}
use Rattle.std.specs.Prelude.{unwrap_or}
use Rattle.title_land.specs.declared.node.Node.{Node}
use Rattle.title_store.specs.Laws.RefusedPuts.{refused_put}
use Rattle.title_tree_store.specs.Forests.{plots}
use Rattle.title_tree_store.proofs.{Contents.{for_each}, Puts.{found_failing, none_refused}}
use Rattle.title_land.specs.declared.node.Node.TheVariants as node
use Rattle.title_tree_store.proofs.tree_store.TreeStore.refusal.Goals as goal

pub first-requires : goal.first-requires
first-requires c = record { sized = for_each (λ e. c.args.self.now.kept.sized e); within = c.requires.within }

pub unreachable-requires : goal.unreachable-requires
unreachable-requires c = c.requires.fails (none_refused c.args.self.now.townships c.args.tract.now c.args.instrument.now
    (plots c.args.self.now.forest) (sym c.in_default.is ∙ c.first.ensures.first))

pub returns : goal.returns
returns c =
    let failing = found_failing c.args.self.now.townships c.args.tract.now c.args.instrument.now
    (plots c.args.self.now.forest) _ _ _ (sym c.in-Some.is ∙ c.first.ensures.first) in
    let node_is = c.unwrap_or-node.ensures ∙ ap (λ (o : Option Node). unwrap_or o node.Everything) c.node_of.ensures.node in
    record { refused = refused_put _ _ _ _ _ _ c.unwrap_or-node.result refl failing node_is }
