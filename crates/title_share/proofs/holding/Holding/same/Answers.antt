-- Equal rows are equal divisions.
use Rattle.std.{proofs.{Common.{◌≡◌, ◌∙◌, ◌&&◌, sym, ap, eqb, ℕ}, lemmas.Slice.Eq.{slice_eq-Decides}}, specs.Bool.{Decides}}
use Rattle.std.proofs.lemmas.Bool.{and_parts, and_from, eqb-true, eq-eqb}
use Rattle.title_share.specs.Division.{same_rows, rows_of}
use Rattle.title_share.proofs.holding.Holding.same.Goals as goal

pair_decides : (a b : ℕ × ℕ) → Decides (eqb a.0 b.0 && eqb a.1 b.1) (a ≡ b)
pair_decides a b = (
  (λ h. let parts = and_parts (eqb a.0 b.0) (eqb a.1 b.1) h in let x = eqb-true a.0 b.0 parts.0 in let y = eqb-true a.1 b.1 parts.1 in λ i.
      (x i, y i)),
  (λ e. and_from (eqb a.0 b.0) (eqb a.1 b.1) (eq-eqb a.0 b.0 (ap (λ (p : ℕ × ℕ). p.0) e)) (eq-eqb a.1 b.1 (ap (λ (p : ℕ × ℕ). p.1) e))),
)

pub returns : goal.returns
returns c =
    let decides = slice_eq-Decides pair_decides c.rows.result.now c.rows-2.result.now c.eq.result c.eq.ensures in
    record {
      same = (
        λ h. same_rows c.args.self.now c.args.other.now (sym c.rows.ensures.rows ∙ decides.0 h ∙ c.rows-2.ensures.rows),
        λ e. decides.1 (c.rows.ensures.rows ∙ ap rows_of e ∙ sym c.rows-2.ensures.rows),
      );
    }
