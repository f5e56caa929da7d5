-- Viewers may go to the threads that ask them.
use denote.Param.Send.{sendable}
use Rattle.std.proofs.Crossing as std
use Rattle.title_land.proofs.tract.Tract.TheSendSync as tract_sent
use Rattle.title_views.proofs.Crossing.{viewer_send}
use Rattle.title_watch.proofs.views.watch_all.Goals as goal

pub join-requires-send-F : goal.join-requires-send-F
join-requires-send-F g c κs within = search (viewer_send, tract_sent.the_sync, std.crosses, sendable, c.type_bounds) depth 60 fits 20000
