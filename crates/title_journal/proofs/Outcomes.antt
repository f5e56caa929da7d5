-- What is known of a call that went well, behind a `map_err`.
use Rattle.std.{proofs.Common.{◌≡◌, Bool, true, false, Result, Ok, Err, OnOk, refl}, specs.Result.{is_ok, is_err}}
use Rattle.std.proofs.lemmas.Bool.{true≢false}

pub went_well : {T E P : Type 0} (r : Result T E) → true ≡ is_ok r → OnOk r P → P
went_well (Ok x) ok p = p
went_well (Err e) ok p = absurd (true≢false ok)

pub no_error : {T E : Type 0} (r : Result T E) → true ≡ is_ok r → is_err r ≡ false
no_error (Ok x) ok = refl
no_error (Err e) ok = absurd (true≢false ok)

-- what a call leaves that went well
pub leaves : {T E A B C P : Type 0} (r : Result T E) (failed : Bool) → OnOk r A → OnOk r B → OnOk r C → failed ≡ is_err r
    → (A → B → C → failed ≡ false → P) → OnOk r P
leaves (Ok x) failed a b c is together = together a b c is
leaves (Err e) failed a b c is together = tt
