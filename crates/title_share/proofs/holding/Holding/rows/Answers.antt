-- The rows are the division's.
use Rattle.std.proofs.Common.{◌≡◌, ◌∙◌, sym, subst, true, ℕ, List}
use Rattle.title_share.specs.{Rows.{is_division}, Division.{rows_divide}, Laws.DivisionLaws.{viewed_rows}}
use Rattle.title_share.proofs.holding.Holding.rows.Goals as goal

pub returns-clause-rows : goal.returns-clause-rows
returns-clause-rows c = c.as_slice.ensures ∙ sym (viewed_rows _ _ c.self.invariant c.self.view_is)

pub returns-clause-divide : goal.returns-clause-divide
returns-clause-divide c = subst (λ (rows : List (ℕ × ℕ)). is_division rows ≡ true) (sym (returns-clause-rows c))
    (rows_divide c.args.self.now)
