use Rattle.std.proofs.Common.{refl}
use Rattle.title_script.proofs.AskedAlone.{asked_alone}
use Rattle.title_script.proofs.serving.ask_alone.Goals as goal

pub returns-in-Memory : goal.returns-in-Memory
returns-in-Memory g c = record { setting = (c.in-Memory.ensures.broken refl).0; trace = tt; reply = tt }

pub returns-in_default : goal.returns-in_default
returns-in_default g c =
    let a = asked_alone c.args.desk.now c.serve_alone.new.self c.args.examiner c.args.step c.serve_alone.result
    (c.serve_alone.ensures.added c.in_default.not-Memory) in
    record { setting = a.0; trace = a.1; reply = a.2 }
