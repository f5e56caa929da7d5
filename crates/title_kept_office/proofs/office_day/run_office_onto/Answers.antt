-- The file isn't opened, another place was expected, or a day was tried on it.
use Rattle.std.proofs.{Common.{◌≡◌, ◌∙◌, arith, length, map, refl}, lemmas.List.{length-map, length-reverse}}
use Rattle.title_standing.specs.Records.{record_of}
use Rattle.title_daybook.specs.Books.{standing_of}
use Rattle.title_lasting.specs.Laws.Plants.{alike_stands}
use Rattle.title_kept_office.proofs.OfficeEnds.{expected_is, office_unexpected, office_unopened}
use Rattle.title_kept_office.proofs.office_day.run_office_onto.Goals as goal

pub returns-in-Err-clause-day : goal.returns-in-Err-clause-day
returns-in-Err-clause-day g c =
    office_unopened g.D.Disk.seen g.D.Disk.may_leave g.D.Disk.moment g.D.Disk.left_since c.args.examiners c.args.after c.args.disk.now
    c.open.new.disk c.open.ensures.any_moment (g.R.Source.left c.args.source.now) (g.W.Sink.taken c.args.sink.now)
    (g.R.Source.turns c.args.source.now) (g.D.Disk.has_failed c.open.new.disk) (g.R.Source.has_failed c.args.source.now)
    (g.W.Sink.has_failed c.args.sink.now) c.in-Err.fault c.in-Err.ensures.why c.in-Err.ensures.left

pub returns-then-is_unexpected-clause-day : goal.returns-then-is_unexpected-clause-day
returns-then-is_unexpected-clause-day g c =
    let deeds = c.in-Ok.opened.stands.deeds in
    let last_is : c.len-last.result ≡ length (standing_of c.in-Ok.opened.stands).records =
    omega (arith, length-reverse (map record_of deeds.items), length-map deeds.items record_of) in
    office_unexpected g.D.Disk.seen g.D.Disk.may_leave g.D.Disk.has_failed g.D.Disk.moment g.D.Disk.left_since c.args.examiners
    c.args.after c.args.disk.now c.open.new.disk
    (record { alike = c.in-Ok.ensures.alike; leaves = c.open.ensures.any_moment; resting = c.in-Ok.ensures.resting })
    (standing_of c.in-Ok.opened.stands) (
      alike_stands (g.D.Disk.seen c.args.disk.now) (g.D.Disk.seen c.open.new.disk) c.in-Ok.ensures.alike
          ∙ c.in-Ok.ensures.opened.stands,
      c.in-Ok.ensures.opened.served.serial,
    ) (g.R.Source.left c.args.source.now) (g.R.Source.left c.args.source.now) (g.W.Sink.taken c.args.sink.now)
    (g.R.Source.turns c.args.source.now) (g.R.Source.turns c.args.source.now) (g.R.Source.has_failed c.args.source.now)
    (g.W.Sink.has_failed c.args.sink.now) c.len-last.result c.in-Ok.ensures.rest.durable last_is (c.if-is_unexpected.ensures.other refl)

pub run_opened-outcome-requires-clause-stands : goal.run_opened-outcome-requires-clause-stands
run_opened-outcome-requires-clause-stands g c κs within =
    alike_stands (g.D.Disk.seen c.args.disk.now) (g.D.Disk.seen c.open.new.disk) c.in-Ok.ensures.alike ∙ c.in-Ok.ensures.opened.stands

pub returns-clause-day : goal.returns-clause-day
returns-clause-day g c =
    let deeds = c.in-Ok.opened.stands.deeds in
    let last_is : c.len-last.result ≡ length (standing_of c.in-Ok.opened.stands).records =
    omega (arith, length-reverse (map record_of deeds.items), length-map deeds.items record_of) in
    c.run_opened-outcome.ensures.day c.args.disk.now c.args.after
    (record { alike = c.in-Ok.ensures.alike; leaves = c.open.ensures.any_moment; resting = c.in-Ok.ensures.resting })
    (expected_is c.args.after c.len-last.result _ last_is (c.if-is_unexpected.ensures.expected refl))
