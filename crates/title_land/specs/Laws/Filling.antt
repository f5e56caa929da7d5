-- A set fills a rectangle exactly where it has each of its cells.
use Rattle.std.proofs.Common.{◌≡◌, ℕ, zero, suc, ◌+◌, ◌<◌, ◌≤◌, Bool, true, inl, inr, refl, subst, arith}
use Rattle.std.proofs.lemmas.Bool.{and_parts, and_from, cases_eq}
use Rattle.title_land.specs.{declared.rectangle.Rectangle.{Rectangle}, Grids.{range_all, row_fills, fills}, Laws.Squares.{Inside}}

-- a test that holds at each number of a range holds at this one
pub range_all_at : (test : ℕ → Bool) (start n k : ℕ) → range_all test start n ≡ true → start ≤ k → k < start + n → test k ≡ true
range_all_at test start zero k h l m = absurd (omega arith)
range_all_at test start (suc n) k h l m =
    let e = and_parts (test start) (range_all test (start + 1) n) h in
    elim (cases_eq start k) [
      | inl f ↦ subst (λ (x : ℕ). test x ≡ true) f e.0
      | inr f ↦
          let above : start + 1 ≤ k = omega (arith, f) in
          range_all_at test (start + 1) n k e.1 above (omega arith)
    ]

-- a test that holds at every number of a range holds at each
pub range_all_from : (test : ℕ → Bool) (start n : ℕ) → ((k : ℕ) → start ≤ k → k < start + n → test k ≡ true) → range_all test start n ≡ true
range_all_from test start zero f = refl
range_all_from test start (suc n) f =
    and_from (test start) (range_all test (start + 1) n) (f start (omega arith) (omega arith))
    (range_all_from test (start + 1) n (λ k l m. f k (omega arith) (omega arith)))

pub fills_at : (has : ℕ → ℕ → Bool) (r : Rectangle) (row column : ℕ) → fills has r ≡ true → Inside r row column → has row column ≡ true
fills_at has r row column h i =
    range_all_at (λ (x : ℕ). has row x) r.left r.width column
    (range_all_at (λ (x : ℕ). row_fills has r x) r.top r.height row h i.below i.above) i.right i.left

pub fills_from : (has : ℕ → ℕ → Bool) (r : Rectangle) → ((row column : ℕ) → Inside r row column → has row column ≡ true)
    → fills has r ≡ true
fills_from has r f =
    range_all_from (λ (x : ℕ). row_fills has r x) r.top r.height
    (λ row a b. range_all_from (λ (x : ℕ). has row x) r.left r.width
    (λ column c d. f row column record { below = a; above = b; right = c; left = d }))
