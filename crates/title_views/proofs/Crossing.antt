-- A viewer may go to another thread, whatever its office's parameter is.
use denote.RattleType.{RattleType}
use denote.Param.Send.{IsSend, sendable}
use Rattle.title_tree_store.proofs.Crossing.{store_send}
use Rattle.title_tree_store.specs.contracts.tree_store.TreeStore as trees
use Rattle.title_tree_store.specs.contracts.tree_store.Image as image
use Rattle.title_tree_store.specs.contracts.tree_store.TreeStoreStore.TheImpl as stores
use Rattle.title_ledger.specs.declared.room.Room.{Ghosts}
use Rattle.title_views.specs.contracts.viewer.Watcher as watcher
use Rattle.title_views.specs.contracts.viewer.Viewer as viewer
use Rattle.title_views.proofs.viewer.Watcher.TheSendSync as watcher_sent

watcher_send : (B : RattleType) (room : Ghosts B.Denot) → IsSend (watcher.the_row B trees.the_row image.the_row room stores.ghosts)
watcher_send B room = watcher_sent.the_send B trees.the_row image.the_row room stores.ghosts store_send

pub viewer_send : (B : RattleType) (room : Ghosts B.Denot) → IsSend (viewer.the_row B room)
viewer_send B room = search (watcher_send, sendable) depth 20
