-- An act comes to what comes of its request.
use Rattle.std.proofs.Common.{◌≡◌, refl, ℕ, List, Option, Some, None, Result, Ok, Err}
use Rattle.title_aliquot.specs.declared.fault.DescFault.{DescFault}
use Rattle.title_instrument.specs.declared.instrument.Instrument.{Instrument}
use Rattle.title_chain.specs.declared.ask.Ask.{Ask}
use Rattle.title_chain.specs.declared.ask.Ask.TheVariants as ask
use Rattle.title_plan.specs.declared.{line.Schedule.{Schedule}, row.Act.{Act}}
use Rattle.title_plan.specs.declared.row.Act.TheVariants as act
use Rattle.title_plan.specs.{Asked.{Asked}, Lands.{land_in}, Plans.{after_act, after_asked, after_post, asked_of, numbered, post}}
use Rattle.title_plan.specs.Requests.{after_asking, after_request, post_of, request_of, step_of}

step_asks : (sched : Schedule) (n : ℕ) (asked : Asked) (e : ℕ) (asks : Result Ask DescFault)
    → after_asked sched n asked e asks ≡ after_request sched n asked e (step_of e asks)
step_asks sched n asked e (Ok a) = refl
step_asks sched n asked e (Err why) = refl

post_asks : (sched : Schedule) (n : ℕ) (asked : Asked) (e doc : ℕ) (found : Option (Instrument ℕ)) (text : List ℕ)
    → after_post sched n asked e doc found text ≡ after_asking (after_request sched n asked e) (post_of n e doc found text)
post_asks sched n asked e doc None text = refl
post_asks sched n asked e doc (Some instrument) text = step_asks sched n asked e (asked_of (post doc instrument) (land_in text))

pub act_asks : (sched : Schedule) (n : ℕ) (asked : Asked) (e : ℕ) (a : Act (List ℕ))
    → after_act sched n asked e a ≡ after_asking (after_request sched n asked e) (request_of n asked.names e a)
act_asks sched n asked e act.Begin = refl
act_asks sched n asked e act.Commit = refl
act_asks sched n asked e act.Abort = refl
act_asks sched n asked e (act.Sheet text) = step_asks sched n asked e (asked_of ask.Sheet (land_in text))
act_asks sched n asked e (act.Chain text) = step_asks sched n asked e (asked_of ask.Chain (land_in text))
act_asks sched n asked e (act.Post doc instrument text) = post_asks sched n asked e doc (numbered asked.names instrument) text
