-- The file isn't read, another place was expected, or there was a look at what stood.
use Rattle.std.proofs.{Common.{◌≡◌, arith, length, map, refl, subst, sym}, lemmas.List.{length-map, length-reverse}}
use Rattle.std.proofs.lemmas.Result.{err_from_is_err_and}
use Rattle.title_standing.specs.Records.{record_of}
use Rattle.title_daybook.specs.Books.{standing_of}
use Rattle.title_lasting.{specs.Opened.{IsUnopened}, proofs.{DayEnds.{expected_is}, LookEnds.{look_unexpected, look_unopened, looks_then}}}
use Rattle.title_lasting.proofs.looking.look_onto.Goals as goal

pub returns-in_err-found : goal.returns-in_err-found
returns-in_err-found g c =
    let out = err_from_is_err_and c.from_residual.result c.from_residual.ensures.1 in
    record {
      look = rw (out.1, out.2) (look_unopened g.D.Disk.seen g.D.Disk.may_leave g.D.Disk.moment g.D.Disk.left_since g.met.D.Disk.only_now
          c.args.disk.now c.find.new.disk c.find.ensures.crash c.find.ensures.time c.find.ensures.seen c.args.after
          (g.R.Source.left c.args.source.now) (g.W.Sink.taken c.args.sink.now) (g.R.Source.turns c.args.source.now)
          (g.D.Disk.has_failed c.find.new.disk) (g.R.Source.has_failed c.args.source.now) (g.W.Sink.has_failed c.args.sink.now)
          c.in_err-found.field-0.0 c.in_err-found.ensures.why);
    }

pub returns-in_err-desk : goal.returns-in_err-desk
returns-in_err-desk g c =
    let file = g.D.Disk.seen c.args.disk.now in
    let why = c.in_err-desk.field-0.0 in
    let out = err_from_is_err_and c.from_residual-in_err-desk.result c.from_residual-in_err-desk.ensures.1 in
    record {
      look = rw (out.1, out.2) (look_unopened g.D.Disk.seen g.D.Disk.may_leave g.D.Disk.moment g.D.Disk.left_since g.met.D.Disk.only_now
          c.args.disk.now c.find.new.disk c.find.ensures.crash c.find.ensures.time c.find.ensures.seen c.args.after
          (g.R.Source.left c.args.source.now) (g.W.Sink.taken c.args.sink.now) (g.R.Source.turns c.args.source.now)
          (g.D.Disk.has_failed c.find.new.disk) (g.R.Source.has_failed c.args.source.now) (g.W.Sink.has_failed c.args.sink.now) why
          (subst (λ b. IsUnopened file b why) (sym c.in_ok-found.ensures.works)
          (c.in_err-desk.ensures.why file c.in_ok-found.ensures.found)));
    }

pub returns-then-is_unexpected : goal.returns-then-is_unexpected
returns-then-is_unexpected g c =
    let stands = c.in_ok-found.found.stands in
    let last_is : c.len-last.result ≡ length (standing_of stands).records =
    omega (arith, length-reverse (map record_of stands.deeds.items), length-map stands.deeds.items record_of) in
    record {
      look = look_unexpected g.D.Disk.seen g.D.Disk.may_leave g.D.Disk.moment g.D.Disk.left_since g.met.D.Disk.only_now
          c.args.disk.now c.find.new.disk c.find.ensures.crash c.find.ensures.time c.find.ensures.seen c.args.after
          (g.R.Source.left c.args.source.now) (g.W.Sink.taken c.args.sink.now) (g.R.Source.turns c.args.source.now)
          (g.D.Disk.has_failed c.find.new.disk) (g.R.Source.has_failed c.args.source.now) (g.W.Sink.has_failed c.args.sink.now)
          (standing_of stands) (c.in_ok-found.ensures.found.stands, c.in_ok-desk.ensures.served.serial) c.len-last.result last_is
          (c.if-is_unexpected.ensures.other refl);
    }

pub returns : goal.returns
returns g c =
    let stands = c.in_ok-found.found.stands in
    let last_is : c.len-last.result ≡ length (standing_of stands).records =
    omega (arith, length-reverse (map record_of stands.deeds.items), length-map stands.deeds.items record_of) in
    record {
      look = looks_then g.D.Disk.seen g.D.Disk.may_leave g.D.Disk.moment g.D.Disk.left_since g.met.D.Disk.only_now
          c.args.disk.now c.find.new.disk c.find.ensures.crash c.find.ensures.time c.find.ensures.seen c.args.after
          (g.R.Source.left c.args.source.now) (g.W.Sink.taken c.args.sink.now) (g.R.Source.turns c.args.source.now)
          (g.D.Disk.has_failed c.find.new.disk) (g.R.Source.has_failed c.look_at.new.source) (g.W.Sink.has_failed c.look_at.new.sink)
          (standing_of stands) (c.in_ok-found.ensures.found.stands, c.in_ok-desk.ensures.served.serial)
          (expected_is c.args.after c.len-last.result _ last_is (c.if-is_unexpected.ensures.expected refl))
          (g.R.Source.left c.look_at.new.source) (g.W.Sink.taken c.look_at.new.sink) (g.R.Source.turns c.look_at.new.source)
          c.look_at.result c.look_at.ensures.look;
    }
