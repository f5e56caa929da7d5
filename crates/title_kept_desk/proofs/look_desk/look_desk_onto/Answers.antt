-- The file isn't read, or lines were answered on top of what stood.
use Rattle.std.proofs.{Common.{subst, sym}, lemmas.Result.{err_from_is_err_and}}
use Rattle.title_daybook.specs.Books.{standing_of}
use Rattle.title_lasting.specs.Opened.{IsUnopened}
use Rattle.title_kept_desk.proofs.LookDeskEnds.{desk_looks, desk_unread}
use Rattle.title_kept_desk.proofs.look_desk.look_desk_onto.Goals as goal

pub returns-in_err-found : goal.returns-in_err-found
returns-in_err-found g c =
    let out = err_from_is_err_and c.from_residual.result c.from_residual.ensures.1 in
    record {
      desk = rw (out.1, out.2) (desk_unread g.D.Disk.seen g.D.Disk.may_leave g.D.Disk.moment g.D.Disk.left_since g.met.D.Disk.only_now
          c.args.disk.now c.find.new.disk c.find.ensures.crash c.find.ensures.time c.find.ensures.seen
          (g.R.Source.left c.args.source.now) (g.W.Sink.taken c.args.sink.now) (g.D.Disk.has_failed c.find.new.disk)
          (g.R.Source.has_failed c.args.source.now) (g.W.Sink.has_failed c.args.sink.now) c.in_err-found.field-0.0
          c.in_err-found.ensures.why);
    }

pub returns-in_err-desk : goal.returns-in_err-desk
returns-in_err-desk g c =
    let file = g.D.Disk.seen c.args.disk.now in
    let why = c.in_err-desk.field-0.0 in
    let out = err_from_is_err_and c.from_residual-in_err-desk.result c.from_residual-in_err-desk.ensures.1 in
    record {
      desk = rw (out.1, out.2) (desk_unread g.D.Disk.seen g.D.Disk.may_leave g.D.Disk.moment g.D.Disk.left_since g.met.D.Disk.only_now
          c.args.disk.now c.find.new.disk c.find.ensures.crash c.find.ensures.time c.find.ensures.seen
          (g.R.Source.left c.args.source.now) (g.W.Sink.taken c.args.sink.now) (g.D.Disk.has_failed c.find.new.disk)
          (g.R.Source.has_failed c.args.source.now) (g.W.Sink.has_failed c.args.sink.now) why
          (subst (λ b. IsUnopened file b why) (sym c.in_ok-found.ensures.works)
          (c.in_err-desk.ensures.why file c.in_ok-found.ensures.found)));
    }

pub returns : goal.returns
returns g c = record {
  desk = desk_looks g.D.Disk.seen g.D.Disk.may_leave g.D.Disk.moment g.D.Disk.left_since g.met.D.Disk.only_now c.args.disk.now
      c.find.new.disk c.find.ensures.crash c.find.ensures.time c.find.ensures.seen (g.R.Source.left c.args.source.now)
      (g.W.Sink.taken c.args.sink.now) (g.D.Disk.has_failed c.find.new.disk) (g.R.Source.has_failed c.look_standing.new.source)
      (g.W.Sink.has_failed c.look_standing.new.sink) (standing_of c.in_ok-found.found.stands)
      (c.in_ok-found.ensures.found.stands, c.in_ok-desk.ensures.served.serial) (g.R.Source.left c.look_standing.new.source)
      (g.W.Sink.taken c.look_standing.new.sink) c.look_standing.result c.look_standing.ensures.looks;
}
