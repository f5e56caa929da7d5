-- Lists of spots in order, each spot once.
use Rattle.std.{proofs.Common.{◌≡◌, ℕ, ◌≤◌, Bool, List, length, sym, subst, ◌∙◌, arith}, specs.Cmp.{IsEquivalence}}
use Rattle.std.{specs.{declared.cmp.Ordering.TheVariants.{Less}, List.{dedup, AllAdjacentBelow}}, proofs.lemmas.Cmp.{eq_by_cmp_equiv}}
use Rattle.std.{specs.List.Sorted.{IsPermutation, IsSorted, IsStrictlySortedBy}, proofs.lemmas.List.Sorted.{list_any-IsPermutation}}
use Rattle.std.proofs.lemmas.List.Kept.{Contains-dedup, Contains-from_dedup, IsStrictlySortedBy-dedup}
use Rattle.std.proofs.lemmas.Map.{Keys.{sorted_from_all_adjacent}, Views.{Contains-from_any, list_any-from_Contains}}
use Rattle.title_land.specs.Laws.LandSharing.{equal_tests}
use Rattle.title_chain.specs.{declared.spot.Spot.{Spot}, SpotMaps.{spot_cmp}, PostSpots.{spot_at, same_spot, is_listed}}
use Rattle.title_chain.proofs.FoundLaws.{spot_at_is, same_spot-is}
use Rattle.title_chain.specs.contracts.spot.SpotOrd.TheImpl.Laws as spot_laws

same_equiv : IsEquivalence same_spot
same_equiv = subst (λ (e : Spot → Spot → Bool). IsEquivalence e) (λ i p q. spot_at_is p q i) (eq_by_cmp_equiv spot_laws.total-law)

-- a list without what stands twice in turn has the same spots
once_same : (spots : List Spot) (p : Spot) → is_listed p (dedup same_spot spots) ≡ is_listed p spots
once_same spots p = equal_tests (is_listed p (dedup same_spot spots)) (is_listed p spots) (λ h. list_any-from_Contains same_equiv p spots
    (Contains-from_dedup same_spot spots p (Contains-from_any same_spot-is p (dedup same_spot spots) h)))
    (λ h. list_any-from_Contains same_equiv p (dedup same_spot spots)
    (Contains-dedup same_equiv same_spot-is spots p (Contains-from_any same_spot-is p spots h)))

-- so has a list that was sorted first
pub sorted_same : (was spots : List Spot) (p : Spot) → IsPermutation was spots → is_listed p (dedup same_spot spots) ≡ is_listed p was
sorted_same was spots p moved = once_same spots p ∙ sym (list_any-IsPermutation (same_spot p) was spots moved)

-- and it ascends
pub sorted_ascends : (spots : List Spot) → IsSorted spot_cmp spots → IsStrictlySortedBy spot_cmp (dedup same_spot spots)
sorted_ascends spots h = IsStrictlySortedBy-dedup spot_laws.total-law (λ x y. sym (spot_at_is x y)) spots h

-- ---- a test of a list, spot by spot

-- each of the first spots stands before the next
abbrev pub FirstAscend : List Spot → ℕ → Type 0
FirstAscend spots i = AllAdjacentBelow (λ x y. spot_cmp x y ≡ Less) spots i

pub all_ascend : (spots : List Spot) (i : ℕ) → length spots ≤ i → FirstAscend spots i → IsStrictlySortedBy spot_cmp spots
all_ascend spots i past h =
    sorted_from_all_adjacent spot_laws.total-law spots (spot_at 0 0) (λ k low. h k (spot_at 0 0) (omega (arith, low, past)))
