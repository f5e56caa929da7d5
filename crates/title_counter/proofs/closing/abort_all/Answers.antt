-- One more transaction is aborted, until none is open.
use Rattle.std.proofs.Common.{◌<◌, ◌∙◌, ◌++◌, ◌∷◌, [], List, subst, sym, ap}
use Rattle.title_trace.specs.{declared.call.Call.{Call}, Due.{Setting}}
use Rattle.title_trace.specs.declared.call.Request.TheVariants as request
use Rattle.title_script.specs.Served.{after_call}
use Rattle.title_counter.proofs.Aborting.{falls, none_asked, one_more, still_open, swept}
use Rattle.title_counter.proofs.closing.abort_all.Goals as goal

pub loop-examiner-preserved : goal.loop-examiner-preserved
loop-examiner-preserved g c =
    let inv = c.loop-examiner.invariant in
    let was = c.args.desk.now in
    let e = c.in-Some.examiner in
    let one = swept c.loop-examiner.desk c.sweep.new.self e c.sweep.result
    (c.sweep.ensures.always_aborts c.in-Some.ensures.first.0) c.sweep.ensures.told in
    record {
      setting = one.setting ∙ inv.setting;
      examiners = inv.examiners ++ e ∷ [];
      aborted = one.called
          ∙ ap (λ (s : Setting). after_call s c.loop-examiner.desk.trace (request.Abort e)) inv.setting
          ∙ ap (λ (t : List Call). after_call was.setting t (request.Abort e)) inv.aborted
          ∙ one_more was.setting was.trace e inv.examiners;
      unasked = λ none. none_asked c.loop-examiner.desk.trace c.sweep.new.self.trace e (inv.unasked none) c.in-Some.ensures.first.0;
    }

pub loop-examiner-smaller : goal.loop-examiner-smaller
loop-examiner-smaller g c =
    let e = c.in-Some.examiner in
    let one = swept c.loop-examiner.desk c.sweep.new.self e c.sweep.result
    (c.sweep.ensures.always_aborts c.in-Some.ensures.first.0) c.sweep.ensures.told in
    subst (λ (t : List Call). still_open t t < still_open c.loop-examiner.desk.trace c.loop-examiner.desk.trace) (sym one.added)
    (falls c.loop-examiner.desk.trace e c.in-Some.ensures.first.0)

pub returns : goal.returns
returns g c =
    let inv = c.loop-examiner.invariant in
    record {
      setting = inv.setting;
      aborted = (inv.examiners, inv.aborted);
      idle = c.in_default.ensures.first;
      unasked = inv.unasked;
    }
