-- A look changes nothing.
use Rattle.title_views.proofs.Growing.{looks}
use Rattle.title_views.proofs.look.look_up.Goals as goal

pub enter_as-requires : goal.enter_as-requires
enter_as-requires g c = looks g.B.Room.setting.townships g.B.Room.book _ _
