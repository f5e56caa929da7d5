use Rattle.title_script.specs.Laws.Replied.{asked}
use Rattle.title_script.proofs.serving.ask.Goals as goal

pub returns-in-Memory : goal.returns-in-Memory
returns-in-Memory g c = record { setting = c.in-Memory.ensures.told.0; trace = tt; reply = tt }

pub returns-in_default : goal.returns-in_default
returns-in_default g c =
    let a = asked c.args.desk.now c.serve.new.self c.args.request c.serve.result c.in_default.not-Memory c.serve.ensures.told in
    record { setting = a.0; trace = a.1; reply = a.2 }
