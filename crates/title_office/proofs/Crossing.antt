-- What lies behind an office's lock may go to another thread.
use denote.Param.Send.{IsSend, IsSync, sendable}
use Rattle.std.proofs.Crossing as std
use Rattle.std.specs.contracts.alloc.Global as heap
use Rattle.title_tree_store.proofs.Crossing.{store_send}
use Rattle.title_tree_store.specs.contracts.tree_store.TreeStore as trees
use Rattle.title_tree_store.specs.contracts.tree_store.Image as image
use Rattle.title_tree_store.specs.contracts.tree_store.TreeStoreStore.TheImpl as stores
use Rattle.title_tree_store.proofs.tree_store.Image.TheSendSync as image_sent
use Rattle.title_lock.specs.contracts.node_locks.NodeLocks as locks
use Rattle.title_lock.specs.contracts.node_locks.NodeLocksGuards.TheImpl as guards
use Rattle.title_lock.proofs.node_locks.NodeLocks.TheSendSync as locks_sent
use Rattle.title_desk.specs.contracts.desk.Desk as desks
use Rattle.title_desk.proofs.desk.Desk.TheSendSync as desk_sent

-- the desk may be sent
pub desk_send : IsSend (desks.the_row trees.the_row locks.the_row image.the_row stores.ghosts guards.ghosts)
desk_send = search (desk_sent.the_send, store_send, locks_sent.the_send, image_sent.the_send)

-- an allocator's field may be shared
pub heap_sync : IsSync (heap.the_field).row
heap_sync = search (std.crosses, sendable) depth 20
