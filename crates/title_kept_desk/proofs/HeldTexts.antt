-- Answers that are held.
use Rattle.std.proofs.Common.{◌≡◌, ◌∙◌, ◌++◌, ℕ, List, [], Some, ap, subst, sym}
use Rattle.title_counter.specs.{Counters.{Counter}, Sessions.{Answers, PassedBatch}}

-- what was passed on to an empty sink in memory are the answers
pub held_text : (c d : Counter) (lines : List (List ℕ)) (before after : List ℕ) → before ≡ []
    → PassedBatch c lines d (Some before) (Some after) → Answers c lines after d
held_text c d lines before after empty passed =
    let all : after ≡ passed.text = passed.written ∙ ap (λ (held : List ℕ). held ++ passed.text) empty in
    subst (λ (text : List ℕ). Answers c lines text d) (sym all) passed.answers
