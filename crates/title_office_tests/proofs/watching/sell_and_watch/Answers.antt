-- A viewer may go to the thread that asks it.
use denote.Param.Send.{sendable}
use Rattle.std.proofs.Crossing as std
use Rattle.title_views.proofs.Crossing.{viewer_send}
use Rattle.title_office_tests.proofs.watching.sell_and_watch.Goals as goal

pub join-is_right-requires-send-F : goal.join-is_right-requires-send-F
join-is_right-requires-send-F g c κs within = search (viewer_send, std.crosses, sendable) depth 60 fits 20000
