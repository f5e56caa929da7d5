-- A longer list may be published.
use Rattle.std.proofs.Common.{sym, subst}
use mathlib.Core.List.{IsPrefix}
use Rattle.title_views.{specs.Views.{Shown, IsOf}, proofs.Growing.{turns_at}}
use Rattle.title_views.proofs.publishing.publish.Goals as goal

pub publish_as-requires : goal.publish_as-requires
publish_as-requires g c next is =
    let n = g.B.Room.setting.townships in
    let b = g.B.Room.book in
    let now = c.args.writer.desk.shown.value in
    turns_at n b _ _ now next (subst (λ (x : Shown). IsOf n b x) (sym is) c.requires.next.0)
    (subst (λ (x : Shown). IsPrefix now.records x.records) (sym is) c.requires.next.1)
