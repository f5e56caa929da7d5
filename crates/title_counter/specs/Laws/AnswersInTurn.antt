-- Answers to lines one after another.
use Rattle.std.proofs.Common.{◌∙◌, ◌++◌, ◌∷◌, [], ap, sym, subst, ℕ, List, append_assoc}
use Rattle.title_page.specs.Rows.{rows_text}
use Rattle.title_counter.specs.{Counters.{Counter}, Sessions.{Answers}}

-- answers to lines, and to those that follow
pub answers_then : (c m a : Counter) (xs ys : List (List ℕ)) (t u : List ℕ) → Answers c xs t m → Answers m ys u a
    → Answers c (xs ++ ys) (t ++ u) a
answers_then c m a [] ys t u h k =
    subst (λ (s : List ℕ). Answers c ys (s ++ u) a) (sym h.0) (subst (λ (x : Counter). Answers x ys u a) h.1 k)
answers_then c m a (x ∷ xs) ys t u h k = (
  h.0,
  h.1 ++ u,
  h.2,
  answers_then h.0.after m a xs ys h.1 u h.3 k,
  ap (λ (s : List ℕ). s ++ u) h.4 ∙ append_assoc (rows_text h.0.rows) h.1 u,
)
