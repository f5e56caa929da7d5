-- One record more.
use Rattle.std.proofs.Common.{◌∙◌, ◌++◌, ◌∷◌, ◌+◌, [], List, ap, refl}
use Rattle.title_settle.specs.declared.outcome.Outcome.{Outcome}
use Rattle.title_day.proofs.StoodOutcomes.{placed_more}
use Rattle.title_day.proofs.office_day.outcomes_of.Goals as goal

pub loop-index-preserved : goal.loop-index-preserved
loop-index-preserved c =
    let i = c.loop-index.index in
    let one : Outcome = record { place = i + 1; rec = c.in_ok-copied.copied } in
    c.in_ok-push.ensures.items ∙ ap (λ (os : List Outcome). os ++ one ∷ []) c.loop-index.invariant
    ∙ placed_more c.args.records.now i c.index-records-index.result c.in_ok-copied.copied (i + 1) c.loop-index-test.true
    c.index-records-index.is c.in_ok-copied.ensures.copy refl
