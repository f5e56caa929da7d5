-- Entries that stand without overlap are granted by modes, and the other way round.
use Rattle.std.proofs.{Common.{◌≡◌, ℕ, Bool, false, not, List, [], ◌∷◌, eqb, refl}, lemmas.Bool.{cases_Bool}}
use Rattle.std.proofs.{lemmas.List.Elements.{All-head, All-tail}, Common.{inl, inr, arith}}
use Rattle.title_land.specs.{declared.tract.Land.{Land}, Lands.{IsLand}}
use Rattle.title_lock.specs.{declared.guards.Entry.{Entry}, Overlaps.{is_post, against, without}}
use Rattle.title_lock.{specs.Standing.{FreeAreGranted, GrantedAreFree, LeftStandFree}, proofs.Overlap.{MeetByCovers, modes_decide}}

pub free_granted : (depth : ℕ) → MeetByCovers depth → FreeAreGranted depth
free_granted depth by [] sized free = tt
free_granted depth by (x ∷ es) sized free =
    let older = All-tail (λ (z : Entry). IsLand depth z.tract) x es sized in
    let wide = All-head (λ (z : Entry). IsLand depth z.tract) x es sized in
    let granted = free_granted depth by es older free.0 in
    (granted, (modes_decide depth by es older granted x.examiner x.tract (is_post x.access) wide).1 free.1)

pub granted_free : (depth : ℕ) → MeetByCovers depth → GrantedAreFree depth
granted_free depth by [] sized granted = tt
granted_free depth by (x ∷ es) sized granted =
    let older = All-tail (λ (z : Entry). IsLand depth z.tract) x es sized in
    let wide = All-head (λ (z : Entry). IsLand depth z.tract) x es sized in (
      granted_free depth by es older granted.0,
      (modes_decide depth by es older granted.0 x.examiner x.tract (is_post x.access) wide).0 granted.1,
    )

-- fewer entries have no more of anybody's in the way
against_fewer : (e : ℕ) (es : List Entry) (land : Land) (post : Bool) (f : ℕ) → against land post f es ≡ false
    → against land post f (without e es) ≡ false
against_fewer e [] land post f h = refl
against_fewer e (x ∷ es) land post f h = grind (arith, against_fewer e es land post f)

pub left_free : LeftStandFree
left_free e [] free = tt
left_free e (x ∷ es) free = elim (cases_Bool (not (eqb x.examiner e))) [
  | inl y ↦ rw y (left_free e es free.0, λ f other. against_fewer e es x.tract (is_post x.access) f (free.1 f other))
  | inr y ↦ rw y (left_free e es free.0)
]
