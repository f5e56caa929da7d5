-- The marks once one more outcome is seen.
use Rattle.std.proofs.Common.{◌≡◌, ℕ, ◌<◌, ◌≤◌, ◌-◌, suc, List, [], ◌∷◌, ◌++◌, length, get_or, set, Some, inl, inr}
use Rattle.std.{proofs.{Common.{sym, ◌∙◌, ap, subst, arith}, lemmas.Bool.{cases_eq}}, specs.List.{slice_get}}
use Rattle.std.proofs.lemmas.List.{length_push, length-set, get_or-set_same, get_or-set_other}
use Rattle.title_settle.specs.{declared.{marks.Mark.{Mark}, outcome.Outcome.{Outcome}}, Settling.{outcomes_at}}
use Rattle.title_settle.{specs.Marks.{mark_after, IsMark, AreMarks}, proofs.Seen.{seen_here, seen_elsewhere}}
use Rattle.title_settle.specs.declared.marks.Mark.TheVariants as mark

-- the mark of a place once one more outcome has it
pub mark_more : (outcomes seen : List Outcome) (place index : ℕ) (o : Outcome) (m : Mark) →
    slice_get outcomes index ≡ Some o → o.place ≡ place → IsMark outcomes place seen m →
    IsMark outcomes place (seen ++ o ∷ []) (mark_after m index)
mark_more outcomes seen place index o mark.Unseen at e h = (o, at, e, ap (λ (xs : List Outcome). xs ++ o ∷ []) h)
mark_more outcomes seen place index o (mark.Once first) at e h =
    let one : length seen ≡ 1 = ap length h.3 in
    let more = length_push seen o in
    omega arith
mark_more outcomes seen place index o mark.Several at e h =
    let more = length_push seen o in
    omega arith

pub marks_more : (places : ℕ) (outcomes seen : List Outcome) (marks : List Mark) (index : ℕ) (o : Outcome) →
    slice_get outcomes index ≡ Some o → 1 ≤ o.place → o.place ≤ places → AreMarks places outcomes seen marks →
    AreMarks places outcomes (seen ++ o ∷ [])
    (set marks (o.place - 1) (mark_after (get_or marks (o.place - 1) mark.Unseen) index))
marks_more places outcomes seen marks index o at low high h =
    let new : Mark = mark_after (get_or marks (o.place - 1) mark.Unseen) index in
    let within : o.place - 1 < length marks = omega (arith, h.0) in (
      length-set marks (o.place - 1) new ∙ h.0,
      λ k lt. elim (cases_eq (o.place) (suc k)) [
        | inl e ↦
            let same : k ≡ o.place - 1 = omega arith in
            subst (λ (xs : List Outcome). IsMark outcomes (suc k) xs (get_or (set marks (o.place - 1) new) k mark.Unseen))
            (sym (seen_here seen o (suc k) e))
            (subst (λ (m : Mark). IsMark outcomes (suc k) (outcomes_at seen (suc k) ++ o ∷ []) m)
            (sym (ap (λ j. get_or (set marks (o.place - 1) new) j mark.Unseen) same
            ∙ get_or-set_same marks (o.place - 1) new mark.Unseen within))
            (mark_more outcomes (outcomes_at seen (suc k)) (suc k) index o (get_or marks (o.place - 1) mark.Unseen) at e
            (subst (λ (j : ℕ). IsMark outcomes (suc k) (outcomes_at seen (suc k)) (get_or marks j mark.Unseen)) same (h.1 k lt))))
        | inr n ↦
            let other : k ≡ o.place - 1 → ⊥ = λ e. n (omega arith) in
            subst (λ (xs : List Outcome). IsMark outcomes (suc k) xs (get_or (set marks (o.place - 1) new) k mark.Unseen))
            (sym (seen_elsewhere seen o (suc k) n))
            (subst (λ (m : Mark). IsMark outcomes (suc k) (outcomes_at seen (suc k)) m)
            (sym (get_or-set_other marks (o.place - 1) k new mark.Unseen other))
            (h.1 k lt))
      ],
    )
