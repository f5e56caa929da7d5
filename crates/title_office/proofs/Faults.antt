-- Where memory was refused there was no want of a place.
use Rattle.std.proofs.Common.{◌≡◌, ◌∙◌, ◌<◌, ℕ, sym, Result, Ok, Err, IfErr, IsErrAnd}
use Rattle.title_office.specs.declared.unopened.Unopened.{Unopened, TheVariants.{Memory, NoPlace}}

-- a fault that is Memory isn't NoPlace
pub no_want_of_place : {T : Type 0} (viewers : ℕ) (r : Result T Unopened) → IsErrAnd r (λ e. e ≡ Memory)
    → IfErr r (λ e. e ≡ NoPlace → 0 < viewers)
no_want_of_place viewers (Ok opened) made = tt
no_want_of_place viewers (Err e) made = λ no. absurd (cc)

-- a fault that is handed on has its reason
pub handed_on : {T : Type 0} (viewers : ℕ) (r : Result T Unopened) (fault : Unopened) → IsErrAnd r (λ e. e ≡ fault)
    → (fault ≡ NoPlace → 0 < viewers) → IfErr r (λ e. e ≡ NoPlace → 0 < viewers)
handed_on viewers (Ok opened) fault made why = tt
handed_on viewers (Err e) fault made why = λ no. why (sym made ∙ no)
