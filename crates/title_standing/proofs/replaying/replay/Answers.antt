-- Nobody is open between records; one more stands, or it is the first that can't.
use Rattle.std.proofs.Common.{◌+◌, ◌∙◌, ap, take}
use Rattle.title_standing.proofs.Again.{one_more_stands, one_stops, replay_idle}
use Rattle.title_standing.proofs.replaying.replay.Goals as goal

pub serve_deeds-requires : goal.serve_deeds-requires
serve_deeds-requires g c =
    let l = c.loop-kept in
    record { idle = replay_idle (take l.kept-index c.args.deeds.now) l.desk.trace l.invariant.stand }

pub returns-then-not-posted-clause-told : goal.returns-then-not-posted-clause-told
returns-then-not-posted-clause-told g c =
    let l = c.loop-kept in
    let served = rw l.invariant.setting at c.in_ok-posted.ensures.served in
    one_stops c.args.desk.now.setting c.args.deeds.now l.kept-index c.kept-item.result l.desk.trace c.serve_deeds.new.desk.trace
    c.in_ok-posted.posted c.loop-kept-test.true c.kept-item.is l.invariant.stand served (l.place + 1)
    (ap (λ n. n + 1) l.invariant.counted) c.if-not-posted.true

pub loop-kept-preserved : goal.loop-kept-preserved
loop-kept-preserved g c =
    let l = c.loop-kept in
    record {
      setting = c.in_ok-posted.ensures.setting ∙ l.invariant.setting;
      stand = one_more_stands l.desk.setting c.args.deeds.now l.kept-index c.kept-item.result l.desk.trace
          c.serve_deeds.new.desk.trace c.in_ok-posted.posted c.loop-kept-test.true c.kept-item.is l.invariant.stand
          c.in_ok-posted.ensures.served c.if-not-posted.false;
      counted = ap (λ n. n + 1) l.invariant.counted;
    }
