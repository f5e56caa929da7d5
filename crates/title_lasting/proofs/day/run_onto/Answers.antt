-- The file isn't opened, another place was expected, or a day was tried on it.
use Rattle.std.proofs.{Common.{◌≡◌, ◌∙◌, length, map, refl, arith}, lemmas.List.{length-map, length-reverse}}
use Rattle.title_standing.specs.Records.{record_of}
use Rattle.title_daybook.specs.Books.{standing_of}
use Rattle.title_lasting.specs.Laws.Plants.{alike_stands}
use Rattle.title_lasting.proofs.DayEnds.{at_rest_rests, expected_is, lasts_there, unexpected_ends, unopened_ends}
use Rattle.title_lasting.proofs.day.run_onto.Goals as goal

pub returns-in-Err-clause-day : goal.returns-in-Err-clause-day
returns-in-Err-clause-day g c =
    unopened_ends g.D.Disk.seen g.D.Disk.may_leave g.D.Disk.moment g.D.Disk.left_since c.args.schedule c.args.after
    (g.R.Source.left c.args.source.now) (g.W.Sink.taken c.args.sink.now) (g.R.Source.turns c.args.source.now) c.args.disk.now
    c.open.new.disk (g.D.Disk.has_failed c.open.new.disk) (g.R.Source.has_failed c.args.source.now)
    (g.W.Sink.has_failed c.args.sink.now) c.open.ensures.any_moment c.in-Err.fault c.in-Err.ensures.why c.in-Err.ensures.left

pub returns-then-is_unexpected-clause-day : goal.returns-then-is_unexpected-clause-day
returns-then-is_unexpected-clause-day g c =
    let deeds = c.in-Ok.opened.stands.deeds in
    let last_is : c.len-last.result ≡ length (standing_of c.in-Ok.opened.stands).records =
    omega (arith, length-reverse (map record_of deeds.items), length-map deeds.items record_of) in
    let stands = c.in-Ok.ensures.opened.stands in
    unexpected_ends g.D.Disk.seen g.D.Disk.may_leave g.D.Disk.moment g.D.Disk.left_since c.args.schedule c.args.after
    (g.R.Source.left c.args.source.now) (g.W.Sink.taken c.args.sink.now) (g.R.Source.turns c.args.source.now) c.args.disk.now
    c.open.new.disk (standing_of c.in-Ok.opened.stands) (
      alike_stands (g.D.Disk.seen c.args.disk.now) (g.D.Disk.seen c.open.new.disk) c.in-Ok.ensures.alike ∙ stands,
      c.in-Ok.ensures.opened.served.serial,
    ) c.in-Ok.ensures.alike c.open.ensures.any_moment c.len-last.result
    c.in-Ok.ensures.rest.durable last_is (c.if-is_unexpected.ensures.other refl)
    (g.D.Disk.has_failed c.open.new.disk) (g.R.Source.has_failed c.args.source.now) (g.W.Sink.has_failed c.args.sink.now)

pub run_opened-outcome-requires-clause-stands : goal.run_opened-outcome-requires-clause-stands
run_opened-outcome-requires-clause-stands g c =
    alike_stands (g.D.Disk.seen c.args.disk.now) (g.D.Disk.seen c.open.new.disk) c.in-Ok.ensures.alike ∙ c.in-Ok.ensures.opened.stands

pub returns-clause-day : goal.returns-clause-day
returns-clause-day g c =
    let deeds = c.in-Ok.opened.stands.deeds in
    let last_is : c.len-last.result ≡ length (standing_of c.in-Ok.opened.stands).records =
    omega (arith, length-reverse (map record_of deeds.items), length-map deeds.items record_of) in
    let stands = c.in-Ok.ensures.opened.stands in
    lasts_there g.D.Disk.seen g.D.Disk.may_leave g.D.Disk.moment g.D.Disk.left_since c.args.schedule c.args.after
    (g.R.Source.left c.args.source.now) (g.W.Sink.taken c.args.sink.now) (g.R.Source.turns c.args.source.now) c.args.disk.now
    c.open.new.disk (standing_of c.in-Ok.opened.stands) (
      alike_stands (g.D.Disk.seen c.args.disk.now) (g.D.Disk.seen c.open.new.disk) c.in-Ok.ensures.alike ∙ stands,
      c.in-Ok.ensures.opened.served.serial,
    ) c.in-Ok.ensures.alike c.open.ensures.any_moment c.run_opened-outcome.new.disk
    (g.R.Source.left c.run_opened-outcome.new.source) (g.W.Sink.taken c.run_opened-outcome.new.sink)
    (g.R.Source.turns c.run_opened-outcome.new.source) (g.D.Disk.has_failed c.run_opened-outcome.new.disk)
    (g.R.Source.has_failed c.run_opened-outcome.new.source) (g.W.Sink.has_failed c.run_opened-outcome.new.sink)
    (expected_is c.args.after c.len-last.result _ last_is (c.if-is_unexpected.ensures.expected refl))
    (at_rest_rests g.D.Disk.seen g.D.Disk.may_leave g.D.Disk.has_failed c.open.new.disk c.in-Ok.opened.gate.offset c.in-Ok.ensures.rest)
    c.in-Ok.ensures.resting c.run_opened-outcome.result c.run_opened-outcome.ensures.day
