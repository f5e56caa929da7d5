-- What a table of locks says of who is in the way is what the entries say.
use Rattle.std.proofs.Common.{◌≡◌, ℕ, Bool, false, List, Option, None, sym, ap, ◌∙◌, arith}
use Rattle.title_land.specs.{declared.tract.Land.{Land}, Lands.{cover_of, IsLand}}
use Rattle.title_lock.specs.{declared.{modes.Mode.{Mode}, guards.Entry.{Entry}}, Modes.{allows}, Overlaps.{IsLeast, against}}
use Rattle.title_lock.specs.{Asking.{asked}, Tables.{HeldAt, table_mode, TableIs}, Walks.{walk, clashes_in}}
use Rattle.title_lock.proofs.{LeastLaws.{least_same}, WalkLaws.{walk_asked, fits_in, clear_in}, Overlap.{MeetByCovers, entries_stand}}

-- two tests that fail together are one
same_when_false : (a b : Bool) → (a ≡ false → b ≡ false) → (b ≡ false → a ≡ false) → a ≡ b
same_when_false a b h k = grind arith

-- the least examiner in the way by the table is the least whose entry overlaps
pub stands : (depth : ℕ) → MeetByCovers depth → (es : List Entry) (table : HeldAt) (e : ℕ) (p : Bool) (land : Land) (w : Option ℕ)
    → IsLand depth land → TableIs depth es table →
    IsLeast (λ f. clashes_in p (λ n. table_mode table f n) (walk None (cover_of depth land))) e w → IsLeast (λ f. against land p f es) e w
stands depth by es table e p land w wide are =
    let t = cover_of depth land in
    least_same (λ f. clashes_in p (λ n. table_mode table f n) (walk None t)) (λ f. against land p f es) e w
    (λ f o. same_when_false (clashes_in p (λ n. table_mode table f n) (walk None t)) (against land p f es)
    (λ h. (entries_stand depth by p land wide f es are.sized).1 (λ n. ap (allows (asked p t n)) (sym (are.modes f n))
    ∙ ap (λ (z : Option Mode). allows z (table_mode table f n)) (sym (walk_asked p t n))
    ∙ fits_in p (λ z. table_mode table f z) (walk None t) h n))
    (λ h. clear_in p (λ z. table_mode table f z) (walk None t) (λ n.
    ap (λ (z : Option Mode). allows z (table_mode table f n)) (walk_asked p t n)
    ∙ ap (allows (asked p t n)) (are.modes f n) ∙ (entries_stand depth by p land wide f es are.sized).0 h n)))
