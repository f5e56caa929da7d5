-- The post is the one that was asked for, or it isn't due.
use Rattle.title_standing.proofs.Again.{post_served}
use Rattle.title_standing.proofs.replaying.ask_post.Goals as goal

pub returns-in_default : goal.returns-in_default
returns-in_default g c =
    let one = post_served c.args.desk.now c.serve.new.self c.args.examiner c.args.posting c.serve.result c.says_posted.result
    c.in_default.not-Memory c.says_posted.ensures.posted c.serve.ensures.told in
    record { setting = one.0; served = one.1 }
