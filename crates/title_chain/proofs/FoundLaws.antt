-- Spots: one is found exactly where the same one stands; what is found near a node.
use Rattle.std.{proofs.Common.{◌≡◌, ℕ, Bool, true, false, ◌||◌, List, refl, sym, ap, ◌∙◌, true≢false}, specs.Ordering.{nat_cmp}}
use Rattle.std.{proofs.lemmas.{Bool.{and_parts, and_from, eqb-true, eq-eqb, or_right}, Map.Lookups.{exact_unsigned}}, specs.List.{list_any}}
use Rattle.std.specs.{declared.cmp.Ordering.TheVariants.{Equal}, Prelude.{nat_eq}, Cmp.{tied_itself, nat_cmp_total}, BTreeMap.{is_at}}
use Rattle.title_land.specs.{declared.node.Node.{Node}, NodeNumbers.{node_number, number_above}}
use Rattle.title_land.specs.Laws.{Keys.{found_at, then_parts}, NodeNumbers.{one_above}}
use Rattle.title_chain.specs.{declared.{filing.Filing.{Filing}, spot.Spot.{Spot}}, PostSpots.{same_spot, is_listed}}
use Rattle.title_chain.specs.{SpotMaps.{spots_under, spot_cmp}, TractIndexes.{is_near, is_higher, KnowsAbove}}

-- spots that are one by their numbers are one value
pub same_spot-is : (p q : Spot) → same_spot p q ≡ true → p ≡ q
same_spot-is p q h =
    let parts = and_parts (nat_eq p.record q.record) (nat_eq p.step q.step) h in
    let r = eqb-true p.record q.record parts.0 in
    let s = eqb-true p.step q.step parts.1 in
    λ i. record { «record» = r i; step = s i }

pub same_spot-self : (p : Spot) → same_spot p p ≡ true
same_spot-self p = and_from _ _ (eq-eqb p.record p.record refl) (eq-eqb p.step p.step refl)

-- spots that compare alike are one value
pub spot_tied : (p q : Spot) → spot_cmp p q ≡ Equal → p ≡ q
spot_tied p q h =
    let parts = then_parts (nat_cmp p.record q.record) (nat_cmp p.step q.step) h in
    same_spot-is p q (and_from _ _ (eq-eqb p.record q.record (exact_unsigned p.record q.record parts.0))
    (eq-eqb p.step q.step (exact_unsigned p.step q.step parts.1)))

pub spot_self : (p : Spot) → spot_cmp p p ≡ Equal
spot_self p = rw (tied_itself nat_cmp_total p.record, tied_itself nat_cmp_total p.step) refl

-- a spot is found exactly there
pub spot_at_is : (p q : Spot) → is_at (spot_cmp p) q ≡ same_spot p q
spot_at_is p q = found_at spot_cmp (λ a b. same_spot b a) p q (λ h. sym (same_spot-is p q h)) (spot_tied p q) (spot_self p)
    (same_spot-self p)

-- ---- near a node

-- what was found before, at a node and below it, where what is above it was found before
pub skipped : (w a b h : Bool) → (h ≡ true → w ≡ true) → ((w || a) || b) ≡ (w || (a || (b || h)))
skipped true a b h k = refl
skipped false true b h k = refl
skipped false false true h k = refl
skipped false false false true k = absurd (true≢false (sym (k refl)))
skipped false false false false k = refl

-- what was found near a node, and before it, knows what is filed above the nodes below the same one
pub near_knows : (f : Filing) (n : Node) (k : ℕ) (was now : List Spot) → k ≡ number_above (node_number n)
    → ((p : Spot) → is_listed p now ≡ (is_listed p was || is_near f p n)) → KnowsAbove f k now
near_knows f n k was now below found positive c is p higher =
    let here : Bool = is_listed p (spots_under f.at n) in
    let lower : Bool = is_listed p (spots_under f.below n) in
    found p ∙ or_right (is_listed p was) (is_near f p n)
    (or_right here (lower || is_higher f p n) (or_right lower (is_higher f p n)
    (ap (λ (up : List Node). list_any (λ a. is_listed p (spots_under f.at a)) up) (one_above n c k positive (sym below) is)
    ∙ higher)))
