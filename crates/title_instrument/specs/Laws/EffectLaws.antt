-- Laws of what an instrument does to a cell.
use Rattle.std.proofs.{Common.{◌≡◌, ◌∙◌, ℕ, false, ap, refl, Result, Ok, Err}, lemmas.Bool.{cond-false}}
use Rattle.title_share.specs.{Division.{Division, units_of}, Laws.DivisionLaws.{moved_none}}
use Rattle.title_instrument.specs.declared.{parts.{Estate.{Estate, TheVariants.{S, O, M}}, Rule.{Rule}}, instrument.Instrument.{Instrument}}
use Rattle.title_instrument.specs.{declared.owners.{Owners.{Owners}, Effect.{Effect}}, Estates.{names}, Passing.{passes}}
use Rattle.title_instrument.specs.{Parties.{grantor_of, grantee_of, estates_of}, Owners.{holding_of}}
use Rattle.title_instrument.specs.Effect.{after_passing, holding_effect, joined, cell_effect, owners_after, KeepsUnnamed}
use Rattle.title_instrument.specs.declared.instrument.Instrument.TheVariants as i

-- nothing passes in an estate that isn't named
pub passes_unnamed : (d : Instrument ℕ) (e : Estate) (g : ℕ) → names (estates_of d) e ≡ false → passes d e g ≡ Ok 0
passes_unnamed (i.Deed d) e g h = cond-false (names d.estates e) _ _ h
passes_unnamed (i.Release r) e g h = ap Ok (cond-false (names r.estates e) g 0 h)

-- the holding of an estate that isn't named stays
pub holding_unnamed : (d : Instrument ℕ) (e : Estate) (h : Division) → names (estates_of d) e ≡ false → holding_effect d e h ≡ Ok h
holding_unnamed d e h none =
    ap (after_passing d h) (passes_unnamed d e (units_of (grantor_of d) h) none) ∙ ap Ok (moved_none (grantor_of d) (grantee_of d) 0 h refl)

kept_s : (w : Owners) (o m : Result Division Rule) → (owners_after w (joined (Ok w.s) o m)).s ≡ w.s
kept_s w (Err rule) m = refl
kept_s w (Ok o) (Err rule) = refl
kept_s w (Ok o) (Ok m) = refl

kept_o : (w : Owners) (s m : Result Division Rule) → (owners_after w (joined s (Ok w.o) m)).o ≡ w.o
kept_o w (Err rule) m = refl
kept_o w (Ok s) (Err rule) = refl
kept_o w (Ok s) (Ok m) = refl

kept_m : (w : Owners) (s o : Result Division Rule) → (owners_after w (joined s o (Ok w.m))).m ≡ w.m
kept_m w (Err rule) o = refl
kept_m w (Ok s) (Err rule) = refl
kept_m w (Ok s) (Ok o) = refl

-- after an instrument an estate that it doesn't name has the owners that it had
pub unnamed_stays : (d : Instrument ℕ) (w : Owners) (e : Estate) → names (estates_of d) e ≡ false
    → holding_of e (owners_after w (cell_effect d w)) ≡ holding_of e w
unfolding cell_effect
unnamed_stays d w S none =
    ap (λ (r : Result Division Rule). (owners_after w (joined r (holding_effect d O w.o) (holding_effect d M w.m))).s)
    (holding_unnamed d S w.s none) ∙ kept_s w _ _
unnamed_stays d w O none =
    ap (λ (r : Result Division Rule). (owners_after w (joined (holding_effect d S w.s) r (holding_effect d M w.m))).o)
    (holding_unnamed d O w.o none) ∙ kept_o w _ _
unnamed_stays d w M none =
    ap (λ (r : Result Division Rule). (owners_after w (joined (holding_effect d S w.s) (holding_effect d O w.o) r)).m)
    (holding_unnamed d M w.m none) ∙ kept_m w _ _

-- the same of an effect that is the cell's
pub unnamed_in : (d : Instrument ℕ) (w : Owners) (e : Effect) → e ≡ cell_effect d w → KeepsUnnamed d w e
unnamed_in d w e is x none = ap (λ (f : Effect). holding_of x (owners_after w f)) is ∙ unnamed_stays d w x none
