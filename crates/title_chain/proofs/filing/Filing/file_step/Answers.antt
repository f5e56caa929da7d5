-- The step's post is filed where its cover is.
use Rattle.std.proofs.Common.{Result, Ok, Err, OnOk, ap, sym, ◌∙◌}
use Rattle.title_land.specs.Depth.{depth}
use Rattle.title_chain.{specs.declared.ask.Ask.TheVariants.{Post}, proofs.Filings.{step_filed}}
use Rattle.title_chain.proofs.filing.Filing.file_step.Goals as goal

-- what follows from two facts of an `Ok`
on_ok_both : {T E P Q R : Type 0} (r : Result T E) → (P → Q → R) → OnOk r P → OnOk r Q → OnOk r R
on_ok_both (Ok x) f p q = f p q
on_ok_both (Err e) f p q = tt

pub returns-clause-filed : goal.returns-clause-filed
returns-clause-filed c = on_ok_both c.file_cover.result
    (step_filed depth c.args.self.now c.file_cover.new.self c.args.spot c.args.step.now.ask c.args.step.now.answer c.terms.result.now
    c.cover.result.now (c.in-Post-Posted.is-0 ∙ ap Post (sym c.terms.ensures.terms)) c.in-Post-Posted.is-1 c.cover.ensures.cover
    c.cover.ensures.sized)
    c.file_cover.ensures.at c.file_cover.ensures.below
