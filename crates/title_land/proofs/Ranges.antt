-- Tests at each number of a range.
use Rattle.std.proofs.Common.{◌≡◌, ℕ, suc, ◌+◌, ◌-◌, ◌<◌, Bool, true, false, ◌&&◌, refl, ◌∙◌, arith}
use Rattle.title_land.specs.Grids.{range_all}

pub range_all_step : (test : ℕ → Bool) (start end : ℕ) → start < end
    → range_all test start (end - start) ≡ (test start && range_all test (start + 1) (end - (start + 1)))
range_all_step test start end l =
    let e : end - start ≡ suc (end - (start + 1)) = omega arith in
    rw e refl

pub range_all_next : (test : ℕ → Bool) (start end : ℕ) → start < end → test start ≡ true
    → range_all test start (end - start) ≡ range_all test (start + 1) (end - (start + 1))
range_all_next test start end l e = range_all_step test start end l ∙ rw e refl

pub range_all_stop : (test : ℕ → Bool) (start end : ℕ) → start < end → test start ≡ false → range_all test start (end - start) ≡ false
range_all_stop test start end l e = range_all_step test start end l ∙ rw e refl
