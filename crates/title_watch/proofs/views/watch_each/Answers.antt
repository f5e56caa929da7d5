-- A viewer may go to the thread that asks it.
use denote.Param.Send.{sendable}
use Rattle.title_views.proofs.Crossing.{viewer_send}
use Rattle.title_watch.proofs.views.watch_each.Goals as goal

pub map_vec-requires-send-J : goal.map_vec-requires-send-J
map_vec-requires-send-J g c κs within = search (viewer_send, sendable) depth 20
