-- A post that isn't due ends it.
use Rattle.title_standing.proofs.Again.{posts_stop}
use Rattle.title_standing.proofs.replaying.ask_posts.Goals as goal

pub returns-then-not-posted-clause-served : goal.returns-then-not-posted-clause-served
returns-then-not-posted-clause-served g c =
    let l = c.loop-posting in
    let served = rw l.invariant.setting at c.in_ok-posted.ensures.served in
    posts_stop c.args.desk.now.setting c.args.examiner c.args.posts.now l.posting-index c.posting-item.result c.in_ok-copied.copied
    c.args.desk.now.trace l.desk.trace c.ask_post.new.desk.trace c.in_ok-posted.posted c.loop-posting-test.true c.posting-item.is
    c.in_ok-copied.ensures.copy l.invariant.posted served c.if-not-posted.true
