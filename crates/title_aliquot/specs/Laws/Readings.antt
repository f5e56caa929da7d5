-- Readings are one, and give what the relations say.
use Rattle.std.proofs.Common.{◌≡◌, ◌↔◌, ℕ, List, Result, Ok, Err, ap, subst}
use Rattle.title_land.specs.declared.tract.Land.{Land}
use Rattle.title_aliquot.specs.{declared.fault.DescFault.{DescFault}, Describes.{Describes, FaultOf}, Reading.{IsReadAs, Reading}}
use Rattle.title_aliquot.specs.Laws.Unique.{one_land, no_fault, one_fault}

-- what a text is read as, aright, is one
pub one_answer : (depth : ℕ) (text : List ℕ) (x y : Result Land DescFault) → IsReadAs depth text x → IsReadAs depth text y → x ≡ y
one_answer depth text (Ok l) (Ok m) h k = ap (λ (n : Land). Ok n) (one_land depth text l m h k)
one_answer depth text (Ok l) (Err f) h k = absurd (no_fault depth text l f h k)
one_answer depth text (Err f) (Ok l) h k = absurd (no_fault depth text l f k h)
one_answer depth text (Err f) (Err g) h k = ap (λ (e : DescFault). Err e) (one_fault depth text f g h k)

pub readings_agree : (depth : ℕ) (r s : Reading depth) (text : List ℕ) → r.read text ≡ s.read text
readings_agree depth r s text = one_answer depth text (r.read text) (s.read text) (r.right text) (s.right text)

pub gives_the_land : (depth : ℕ) (r : Reading depth) (text : List ℕ) (l : Land) → (r.read text ≡ Ok l) ↔ Describes depth text l
gives_the_land depth r text l = (
  (λ e. subst (IsReadAs depth text) e (r.right text)),
  (λ h. one_answer depth text (r.read text) (Ok l) (r.right text) h),
)

pub gives_the_fault : (depth : ℕ) (r : Reading depth) (text : List ℕ) (f : DescFault) → (r.read text ≡ Err f) ↔ FaultOf depth text f
gives_the_fault depth r text f = (
  (λ e. subst (IsReadAs depth text) e (r.right text)),
  (λ h. one_answer depth text (r.read text) (Err f) (r.right text) h),
)
