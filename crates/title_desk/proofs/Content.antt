-- What the store holds answers as the definitions do.
use Rattle.std.proofs.Common.{◌≡◌, ◌≢◌, ℕ, true, false, ◌&&◌, List, [], ◌∷◌, refl, ap, ◌∙◌, sym, inl, inr}
use Rattle.std.proofs.lemmas.Bool.{and_parts, and_from, or_parts, or_from, or_right, false_from_ne_true, both_ways, cases_eq, cases_Bool}
use Rattle.title_land.specs.{Depth.{depth}, declared.survey.{Township.{Township}, Cell.{Cell}}}
use Rattle.title_store.specs.{Plants.{Plant, is_cell_of}, Loans.{Loan}}
use Rattle.title_chain.specs.{declared.ask.{Ask.{Ask}, Answer.{Answer}, Step.{Step}}, Asks.{tract_of, is_post, overlap}, ChainLaws.{SameIn}}
use Rattle.title_chain.specs.{Alone.{after_steps}, Overlaps.{overlaps, Clear}, Laws.AskLaws.{cell_meets, effect_outside}}
use Rattle.title_desk.specs.Images.{is_posted, posted_at, Backed, backs_none, backs_post, backs_other}
use Rattle.title_desk.specs.Keeps.{State, own_of, plant_of, plant_for, Facts}
use Rattle.title_chain.specs.declared.ask.Ask.TheVariants as ask

-- a step that was posted is a post
pub post_of : (b : Ask) (given : Answer) → is_posted b given ≡ true → is_post b ≡ true
post_of (ask.Sheet t) given h = h
post_of (ask.Chain t) given h = h
post_of (ask.Post p) given h = refl

unposted_step : (ts : List Township) (a b : Ask) (given : Answer) (c : Cell) → overlap a b ≡ false
    → is_cell_of depth ts (tract_of a) c ≡ true → (is_posted b given && is_cell_of depth ts (tract_of b) c) ≡ false
unposted_step ts a b given c n h = false_from_ne_true _ (λ k.
    let parts = and_parts (is_posted b given) (is_cell_of depth ts (tract_of b) c) k in
    both_ways _ n (and_from _ _ (or_right (is_post a) (is_post b) (post_of b given parts.0))
    (cell_meets depth ts (tract_of a) (tract_of b) c h parts.1)))

-- of steps that don't overlap an ask none was posted at a cell of its tract
pub unposted : (ts : List Township) (a : Ask) (own : List Step) (c : Cell) → overlaps a own ≡ false
    → is_cell_of depth ts (tract_of a) c ≡ true → posted_at ts c own ≡ false
unposted ts a [] c n h = refl
unposted ts a (o ∷ earlier) c n h =
    let parts = or_parts (overlap a o.ask) (overlaps a earlier) n in
    or_from _ _ (unposted_step ts a o.ask o.answer c parts.0 h) (unposted ts a earlier c parts.1 h)

-- at a cell where one examiner's step was posted no other's was
pub posted_apart : (ts : List Township) (own theirs : List Step) (c : Cell) → Clear own theirs → posted_at ts c theirs ≡ true
    → posted_at ts c own ≡ false
posted_apart ts [] theirs c clear h = refl
posted_apart ts (s ∷ earlier) theirs c clear h = or_from _ _ (false_from_ne_true _ (λ k. both_ways _
    (unposted ts s.ask theirs c clear.1 (and_parts (is_posted s.ask s.answer) (is_cell_of depth ts (tract_of s.ask) c) k).1) h))
    (posted_apart ts earlier theirs c clear.0 h)

-- where there is no step there is no image
pub backed_none : (out : List Loan) (ts : List Township) (p : Plant) (own : List Step) (images : List ℕ) → own ≡ [] → images ≡ []
    → Backed out ts p own images
backed_none out ts p own images steps numbers = rw (steps, numbers) backs_none

-- steps of which none was posted at a cell leave it
pub steps_keep : (out : List Loan) (ts : List Township) (p : Plant) {own : List Step} {images : List ℕ} (c : Cell)
    → Backed out ts p own images → posted_at ts c own ≡ false → after_steps depth ts p own c ≡ p c
steps_keep out ts p c backs_none n = refl
steps_keep out ts p c (backs_post s earlier m older is b more) n =
    let parts = or_parts (is_posted s.ask s.answer && is_cell_of depth ts (tract_of s.ask) c) (posted_at ts c earlier) n in
    effect_outside depth ts (after_steps depth ts p earlier) s.ask c
    (sym (ap (λ x. x && is_cell_of depth ts (tract_of s.ask) c) is) ∙ parts.0) ∙ steps_keep out ts p c more parts.1
steps_keep out ts p c (backs_other s earlier images is idle more) n = idle c ∙ steps_keep out ts p c more
    (or_parts (is_posted s.ask s.answer && is_cell_of depth ts (tract_of s.ask) c) (posted_at ts c earlier) n).1

-- in the tract of an ask that nobody else's steps overlap, the store holds what the examiner sees
pub content_is : {s : State} → Facts s → (e : ℕ) (a : Ask) → ((f : ℕ) → f ≢ e → overlaps a (own_of s f) ≡ false) →
    SameIn depth s.declared (tract_of a) s.content (plant_for s e)
content_is {s} facts e a free c inside =
    elim (cases_Bool (posted_at s.declared c (own_of s e))) [
      | inl mine ↦ facts.posted e c mine
      | inr none ↦
          facts.rest c (λ f. elim (cases_eq f e) [
            | inl same ↦ ap (λ g. posted_at s.declared c (own_of s g)) same ∙ none
            | inr other ↦ unposted s.declared a (own_of s f) c (free f other) inside
          ])
          ∙ sym (steps_keep s.out s.declared (plant_of s) c (facts.backed e) none)
    ]
