-- A new viewer has seen nothing.
use Rattle.title_views.proofs.Growing.{admits}
use Rattle.title_views.proofs.fronts.Fronts.viewer.Goals as goal

pub reader-requires : goal.reader-requires
reader-requires g c = admits g.B.Room.setting.townships g.B.Room.book
