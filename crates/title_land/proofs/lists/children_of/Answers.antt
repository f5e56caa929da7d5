-- The nodes below the whole plant are the townships.
use Rattle.std.proofs.{Common.{rules}, lemmas.Iterator.{YieldsList-from_slice, YieldsList-from_map, items_from_collect}}
use Rattle.title_land.specs.declared.node.Node.TheVariants as node
use Rattle.title_land.proofs.lists.children_of.Goals as goal

pub returns-in-Everything : goal.returns-in-Everything
returns-in-Everything c =
    let nodes = items_from_collect _ c.collect.ensures.ran
    (YieldsList-from_map _ (λ t. node.Township t) (YieldsList-from_slice c.args.townships.now cc) c.map.ensures.closure
    (λ x r q k. search rules)) in
    record { children = rw c.in-Everything.is nodes }
