-- A store may go to another thread. std's set has no lemma for an `Option`, and takes grounds and parts, enums above trees, for too long.
use denote.Param.Send.{IsSend, sendable}
use Rattle.std.proofs.Crossing as std
use Rattle.std.proofs.option.Option.TheSendSync as option
use Rattle.title_tree.proofs.tree.Tree.TheLaws.TheKnot as knot
use Rattle.title_tree_store.proofs.forest.Written.TheSendSync as written
use Rattle.title_tree_store.proofs.townships.Townships.TheSendSync as townships
use Rattle.title_tree_store.specs.contracts.ground.Ground as ground
use Rattle.title_tree_store.specs.contracts.forest.Parts as parts
use Rattle.title_tree_store.specs.contracts.lent.Lent as lent
use Rattle.title_tree_store.specs.contracts.tree_store.TreeStore as store

ground_send : IsSend (ground.the_field).row
ground_send = search (knot.crosses, std.crosses, sendable) depth 60 fits 20000

ground_row : IsSend ground.the_row
ground_row = search (ground_send, knot.crosses, std.crosses, sendable) depth 60 fits 20000

parts_send : IsSend (parts.the_field).row
parts_send = search (ground_row, knot.crosses, std.crosses, sendable) depth 60 fits 20000

lent_send : IsSend lent.the_row
lent_send = search (parts_send, knot.crosses, std.crosses, sendable) depth 60 fits 20000

pub store_send : IsSend store.the_row
store_send = search (lent_send, ground_row, option.the_send, knot.crosses, written.the_send, townships.the_send, std.crosses, sendable)
    depth 60 fits 20000
