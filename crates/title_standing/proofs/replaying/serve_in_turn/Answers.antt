-- A post that isn't due ends it; after all posts the transaction is open.
use Rattle.title_standing.{specs.Records.{record_of}, proofs.Again.{turn_open, turn_stops}}
use Rattle.title_standing.proofs.replaying.serve_in_turn.Goals as goal

pub returns-then-not-posted-clause-served : goal.returns-then-not-posted-clause-served
returns-then-not-posted-clause-served g c =
    let served = rw (c.deref.ensures.value, c.in_ok-begin.ensures.setting) at c.in_ok-posted.ensures.served in
    turn_stops c.args.desk.now.setting (record_of c.args.deeds.now) c.args.desk.now.trace c.begin.new.desk.trace
    c.ask_posts.new.desk.trace c.in_ok-posted.posted c.in_ok-begin.ensures.begun served c.if-not-posted.true

pub commit-requires : goal.commit-requires
commit-requires g c =
    let served = rw c.deref.ensures.value at c.in_ok-posted.ensures.served in
    record {
      begun = turn_open c.begin.new.desk.setting (record_of c.args.deeds.now) c.args.desk.now.trace c.begin.new.desk.trace
          c.ask_posts.new.desk.trace c.in_ok-posted.posted c.in_ok-begin.ensures.begun served c.if-not-posted.false;
    }
