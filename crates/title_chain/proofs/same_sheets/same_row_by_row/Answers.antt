-- One index more at which both sheets have the same row, and so all rows.
use Rattle.std.proofs.Common.{◌≡◌, ◌∙◌, ap, sym, refl, arith, below_more, slice_get, unwrap_or}
use Rattle.std.proofs.lemmas.{List.{same_lists}, Option.{unwrap_or-slice_get}}
use Rattle.title_chain.proofs.same_sheets.same_row_by_row.Goals as goal

pub loop-index-preserved : goal.loop-index-preserved
loop-index-preserved c = below_more (λ k. slice_get c.args.a.now k ≡ slice_get c.args.b.now k) c.loop-index.index c.loop-index.invariant
    (c.if-not-same_at.ensures.same.0 refl)

pub returns : goal.returns
returns c =
    let a = c.args.a.now in
    let b = c.args.b.now in
    let rows : a ≡ b = same_lists a b c.requires.as_many (λ k d low. sym (unwrap_or-slice_get a k d)
    ∙ ap (λ o. unwrap_or o d) (c.loop-index.invariant k (omega (arith, low))) ∙ unwrap_or-slice_get b k d) in
    record { same = (λ _. rows, λ _. refl) }
