-- Its answers can't be held, what it adds isn't kept, or its answers are written, or aren't.
use Rattle.std.{proofs.{Common.{List, ℕ, subst}, lemmas.Result.{err_from_is_err_and}}, specs.Io.KnownBytes.{Appends}}
use Rattle.title_disk.specs.Crashes.{LeavesOnly}
use Rattle.title_counter.specs.{Lines.{last_line}, Views.{counter_of}, Laws.GivenBytes.{keeps_itself}}
use Rattle.title_lasting.specs.Lastings.{Begins}
use Rattle.title_kept_desk.specs.Sittings.{HasAt}
use Rattle.title_kept_desk.proofs.{BatchKept.{still_there}, BatchTold.{all_told, comes_on, unkept, untold}}
use Rattle.title_kept_desk.proofs.sitting.sit_rest.Goals as goal

pub returns-in_err-text-clause-batch : goal.returns-in_err-text-clause-batch
returns-in_err-text-clause-batch g c =
    let disk = c.args.disk.now in
    let was = counter_of c.args.clerk.now in
    let out = err_from_is_err_and c.from_residual.result c.from_residual.ensures.1 in
    rw (out.1, out.2) (
      c.requires.up_to,
      still_there g.D.Disk.seen g.D.Disk.may_leave g.D.Disk.has_failed g.D.Disk.moment g.D.Disk.left_since g.met.D.Disk.only_now disk
          (HasAt was) c.requires.up_to.rest.durable c.requires.up_to.stands,
      keeps_itself (g.W.Sink.taken c.args.sink.now),
    )

pub keep-requires : goal.keep-requires
keep-requires g c =
    let was = counter_of c.args.clerk.now in
    let now = counter_of c.hold_rest.new.clerk in
    record {
      came = (
        was,
        c.requires.up_to,
        comes_on was now (last_line c.args.line.now) c.in_ok-text.text.items c.requires.come c.in_ok-text.ensures.answers,
      );
    }

pub returns-in_err-keep-clause-batch : goal.returns-in_err-keep-clause-batch
returns-in_err-keep-clause-batch g c =
    let was = counter_of c.args.clerk.now in
    let now = counter_of c.hold_rest.new.clerk in
    let lines = (last_line c.args.line.now) in
    let text = c.in_ok-text.text.items in
    let comes = comes_on was now lines text c.requires.come c.in_ok-text.ensures.answers in
    let out = err_from_is_err_and c.from_residual-in_err-keep.result c.from_residual-in_err-keep.ensures.1 in
    rw (out.1, out.2) (unkept g.D.Disk.seen g.D.Disk.may_leave g.D.Disk.has_failed
    (LeavesOnly g.D.Disk.moment g.D.Disk.left_since c.args.disk.now c.keep.new.disk) c.keep.new.disk c.keep.new.mark was now lines text
    c.in_ok-text.ensures.answers (g.W.Sink.taken c.args.sink.now) c.in_err-keep.field-0.0 (g.W.Sink.has_failed c.args.sink.now)
    (c.in_err-keep.ensures.kept was c.requires.up_to comes))

pub returns-in_err-write_all-clause-batch : goal.returns-in_err-write_all-clause-batch
returns-in_err-write_all-clause-batch g c =
    let was = counter_of c.args.clerk.now in
    let now = counter_of c.hold_rest.new.clerk in
    let lines = (last_line c.args.line.now) in
    let text = c.in_ok-text.text.items in
    let comes = comes_on was now lines text c.requires.come c.in_ok-text.ensures.answers in
    let taken = g.W.Sink.taken c.args.sink.now in
    let after = g.W.Sink.taken c.write_all.new.sink in
    let out = err_from_is_err_and c.from_residual-in_err-write_all.result c.from_residual-in_err-write_all.ensures.1 in
    rw (out.1, out.2) (untold g.D.Disk.seen g.D.Disk.may_leave g.D.Disk.has_failed
    (LeavesOnly g.D.Disk.moment g.D.Disk.left_since c.args.disk.now c.keep.new.disk) c.keep.new.disk c.keep.new.mark was now lines text
    c.in_ok-text.ensures.answers taken after (g.W.Sink.has_failed c.write_all.new.sink)
    (c.in_ok-keep.ensures.kept was c.requires.up_to comes)
    (subst (λ (t : List ℕ). Begins taken after t) c.as_slice.ensures.value c.in_err-write_all.ensures.part)
    c.in_err-write_all.ensures.write)

pub returns-clause-batch : goal.returns-clause-batch
returns-clause-batch g c =
    let was = counter_of c.args.clerk.now in
    let now = counter_of c.hold_rest.new.clerk in
    let lines = (last_line c.args.line.now) in
    let text = c.in_ok-text.text.items in
    let comes = comes_on was now lines text c.requires.come c.in_ok-text.ensures.answers in
    let taken = g.W.Sink.taken c.args.sink.now in
    let after = g.W.Sink.taken c.write_all.new.sink in
    all_told g.D.Disk.seen g.D.Disk.may_leave g.D.Disk.has_failed
    (LeavesOnly g.D.Disk.moment g.D.Disk.left_since c.args.disk.now c.keep.new.disk) c.keep.new.disk c.keep.new.mark was now lines text
    c.in_ok-text.ensures.answers taken after (g.W.Sink.has_failed c.write_all.new.sink)
    (c.in_ok-keep.ensures.kept was c.requires.up_to comes)
    (subst (λ (t : List ℕ). Appends taken after t) c.as_slice.ensures.value c.in_ok-write_all.ensures.bytes)
    c.in_ok-write_all.ensures.well
