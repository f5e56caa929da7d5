-- The items that are left come to the reserve so far as all come to nothing.
use Rattle.std.proofs.Common.{◌≡◌, ℕ, List}
use Rattle.title_plan.{specs.Fields.{reserve_in, with_items}, proofs.Texts.{Gives}}
use Rattle.title_plan.proofs.terms.read_reserve.Given as goal

abbrev pub invariant-loop-item : goal.invariant-loop-item
invariant-loop-item l = record {
  left : List (List ℕ);
  gives : Gives l.item-iterator left;
  after : with_items l.reserve left ≡ reserve_in l.text;
}
