-- The entries that are left after an examiner gives its own back were all granted, too.
use Rattle.std.proofs.{Common.{◌≢◌, ℕ, Bool, cond, List, [], ◌∷◌, Option, None, eqb, refl, sym, ap, ◌∙◌}, lemmas.Bool.{eq-eqb}}
use Rattle.title_lock.specs.{declared.{modes.Mode.{Mode}, guards.Entry.{Entry}}, Modes.{allows}, Overlaps.{is_post, without}}
use Rattle.title_lock.{specs.Asking.{asked, mode_at, AllGranted}, proofs.GiveBack.{apart_without}}
use Rattle.title_lock.proofs.Overlap.{Allow, Apart, allow_parts, allow_of, granted_apart, fit_granted}
use Rattle.title_land.specs.{declared.node.Node.{Node}, Lands.{cover_of}}

-- what an entry gives an examiner
abbrev by_entry : ℕ → Entry → ℕ → Node → Option Mode
by_entry depth x e n = cond (eqb e x.examiner) (asked (is_post x.access) (cover_of depth x.tract) n) None

older_half : (depth : ℕ) (x : Entry) (es : List Entry) (f : ℕ) (held : Node → Option Mode) → Allow held (mode_at depth (x ∷ es) f)
    → Allow held (mode_at depth es f)
older_half depth x es f held h = (allow_of held (by_entry depth x f) (mode_at depth es f) h).1

pub apart_granted : (depth : ℕ) (es : List Entry) → Apart depth es → AllGranted depth es
apart_granted depth [] apart = tt
apart_granted depth (x ∷ es) apart =
    let parts = λ (e f : ℕ) (o : f ≢ e). allow_parts (by_entry depth x e) (mode_at depth es e) (mode_at depth (x ∷ es) f) (apart e f o) in
    let older : Apart depth es = λ e f o. older_half depth x es f (mode_at depth es e) (parts e f o).1 in
    let mine = asked (is_post x.access) (cover_of depth x.tract) in (
      apart_granted depth es older,
      fit_granted depth es older x.examiner x.tract (is_post x.access) (λ f o. older_half depth x es f mine
          (λ n. ap (λ (b : Bool). allows (cond b (mine n) None) (mode_at depth (x ∷ es) f n)) (sym (eq-eqb x.examiner x.examiner refl))
          ∙ (parts x.examiner f o).0 n)),
    )

pub granted_without : (depth : ℕ) (e : ℕ) (es : List Entry) → AllGranted depth es → AllGranted depth (without e es)
granted_without depth e es granted = apart_granted depth (without e es) (apart_without depth e es (granted_apart depth es granted))
