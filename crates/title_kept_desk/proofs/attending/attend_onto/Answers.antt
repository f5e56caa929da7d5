-- The file isn't opened, or there was a desk on it.
use Rattle.std.proofs.Common.{◌∙◌}
use Rattle.title_daybook.specs.Books.{standing_of}
use Rattle.title_lasting.specs.Laws.Plants.{alike_stands}
use Rattle.title_kept_desk.proofs.DeskEnds.{desk_there, unopened_desk}
use Rattle.title_kept_desk.proofs.attending.attend_onto.Goals as goal

pub returns-in-Err-clause-desk : goal.returns-in-Err-clause-desk
returns-in-Err-clause-desk g c =
    unopened_desk g.D.Disk.seen g.D.Disk.may_leave g.D.Disk.moment g.D.Disk.left_since c.args.disk.now
    (g.R.Source.left c.args.source.now) (g.W.Sink.taken c.args.sink.now) c.open.new.disk (g.D.Disk.has_failed c.open.new.disk)
    (g.R.Source.has_failed c.args.source.now) (g.W.Sink.has_failed c.args.sink.now) c.open.ensures.any_moment c.in-Err.fault
    c.in-Err.ensures.why c.in-Err.ensures.left

pub attend_opened-outcome-requires-clause-stands : goal.attend_opened-outcome-requires-clause-stands
attend_opened-outcome-requires-clause-stands g c =
    alike_stands (g.D.Disk.seen c.args.disk.now) (g.D.Disk.seen c.open.new.disk) c.in-Ok.ensures.alike ∙ c.in-Ok.ensures.opened.stands

pub returns-clause-desk : goal.returns-clause-desk
returns-clause-desk g c =
    let cells = c.lands_have_cells.ensures.law in
    let stands = c.in-Ok.ensures.opened.stands in
    desk_there g.D.Disk.seen g.D.Disk.may_leave g.D.Disk.moment g.D.Disk.left_since c.args.disk.now
    (g.R.Source.left c.args.source.now) (g.W.Sink.taken c.args.sink.now) cells c.replayed_records_are_committed.ensures.law
    c.open.new.disk c.attend_opened-outcome.new.disk (standing_of c.in-Ok.opened.stands) (
      alike_stands (g.D.Disk.seen c.args.disk.now) (g.D.Disk.seen c.open.new.disk) c.in-Ok.ensures.alike ∙ stands,
      c.in-Ok.ensures.opened.served.serial,
    ) c.in-Ok.ensures.alike c.open.ensures.any_moment (g.R.Source.left c.attend_opened-outcome.new.source)
    (g.W.Sink.taken c.attend_opened-outcome.new.sink) (g.D.Disk.has_failed c.attend_opened-outcome.new.disk)
    (g.R.Source.has_failed c.attend_opened-outcome.new.source) (g.W.Sink.has_failed c.attend_opened-outcome.new.sink)
    c.attend_opened-outcome.result c.attend_opened-outcome.ensures.desk
