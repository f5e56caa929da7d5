-- Rows through a page, and the page given to the sink at the end: where the sink fails it has a beginning of them.
use Rattle.std.proofs.Common.{◌≡◌, ℕ, List, [], Option, sym, subst}
use Rattle.std.proofs.lemmas.List.{append-nil}
use Rattle.title_page.specs.{Pages.{Stopped, Written}, Laws.InTurn.{part_given, stopped_as, stopped_then}}
use Rattle.title_lasting.specs.Lastings.{Begins}

module _ {a : Option (List ℕ)} {p : List ℕ} (text : List ℕ) (empty : p ≡ []) where
  pub part : {b : Option (List ℕ)} → Stopped a p b text → Begins a b text
  part {b} v = part_given text (subst (λ (x : List ℕ). Stopped a x b text) empty v)

  pub part_at_end : {b c : Option (List ℕ)} {q : List ℕ} → Written a p b q text → Stopped b q c [] → Begins a c text
  part_at_end {b} {c} {q} w u =
      part_given text (subst (λ (x : List ℕ). Stopped a x c text) empty (stopped_as (sym (append-nil text)) (stopped_then text [] w u)))
