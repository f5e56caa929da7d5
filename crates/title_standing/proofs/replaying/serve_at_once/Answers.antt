-- The post is the one that was asked for, or it isn't due.
use Rattle.title_standing.proofs.Again.{single_served}
use Rattle.title_standing.proofs.replaying.serve_at_once.Goals as goal

pub returns-in_default : goal.returns-in_default
returns-in_default g c =
    let one = single_served c.args.desk.now c.serve_alone.new.self c.args.examiner c.args.posting c.serve_alone.result
    c.says_posted.result c.in_default.not-Memory c.says_posted.ensures.posted (c.serve_alone.ensures.idle c.requires.idle) in
    record { setting = one.0; served = one.1 }
