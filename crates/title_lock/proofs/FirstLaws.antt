-- The least other examiner in the way among the holders of a node, which stand in the order of their numbers.
use Rattle.std.proofs.Common.{◌≡◌, ◌≢◌, ◌<◌, ◌≤◌, ℕ, Bool, true, false, cond, List, [], ◌∷◌, Option, Some, None, eqb, refl, sym, ap, subst}
use Rattle.std.{proofs.Common.{◌&&◌, filter, ltb, ◌∙◌, arith}, specs.{declared.ops.Bound.TheVariants.{Excluded, Unbounded}, Map.{keys_of}}}
use Rattle.std.{specs.BTreeMap.{is_at, Range.{range_contains, entries_between}}, proofs.lemmas.Map.Entries.{lookup-filter-keys}}
use Rattle.std.{proofs.lemmas.List.Kept.{IsStrictlySortedBy-filter}, specs.{Ordering.{nat_cmp, MatchOrdering}, Cmp.{ranks, unsigned_tied}}}
use Rattle.std.{specs.{declared.cmp.Ordering.TheVariants.{Less}, List.Sorted.{IsStrictlySortedBy}}, proofs.lemmas.Bool.Decides.{nat_tests}}
use Rattle.std.proofs.lemmas.Bool.{ne_eqb, eq-eqb, eqb-true}
use Rattle.title_lock.specs.{Overlaps.{IsLeast}, declared.modes.Mode.{Mode}, Holders.{holder_mode, clashes}}

abbrev Held : Type 0
Held = List (ℕ × Option Mode)

-- by the entries an examiner's mode is in the way of mode m
abbrev pub in_way : Mode → Held → ℕ → Bool
in_way m entries f = clashes m (holder_mode entries f)

-- the first entry speaks of its own number
way_first : (m : Mode) (k : ℕ) (b : Option Mode) (rest : Held) (f : ℕ)
    → in_way m ((k, b) ∷ rest) f ≡ cond (eqb f k) (clashes m b) (in_way m rest f)
way_first m k b rest f = grind (arith, nat_tests)

way_own : (m : Mode) (k : ℕ) (b : Option Mode) (rest : Held) → in_way m ((k, b) ∷ rest) k ≡ clashes m b
way_own m k b rest = way_first m k b rest k ∙ ap (λ t. cond t (clashes m b) (in_way m rest k)) (eq-eqb k k refl)

way_other : (m : Mode) (k : ℕ) (b : Option Mode) (rest : Held) (f : ℕ) → f ≢ k → in_way m ((k, b) ∷ rest) f ≡ in_way m rest f
way_other m k b rest f o = way_first m k b rest f ∙ ap (λ t. cond t (clashes m b) (in_way m rest f)) (ne_eqb f k o)

below_from_less : (x y : ℕ) → nat_cmp x y ≡ Less → x < y
below_from_less x y h = subst (λ r. MatchOrdering r (x < y) (x ≡ y) (y < x)) h (ranks x y)

-- up to a number nobody is in the way in the entries after it
none_after : (m : Mode) (k f : ℕ) (rest : Held) → IsStrictlySortedBy nat_cmp (k ∷ keys_of rest) → f ≤ k → in_way m rest f ≡ false
unfolding IsStrictlySortedBy
none_after m k f [] sorted up = refl
none_after m k f (x ∷ rest) sorted up =
    let below = below_from_less k x.0 sorted.0.0 in
    way_other m x.0 x.1 rest f (λ s. omega (arith, s, below, up)) ∙ none_after m x.0 f rest sorted.1 (omega (arith, below, up))

-- what is left of the entries says of all others what the entries say
abbrev pub Carries : Mode → Held → Held → ℕ → Type 0
Carries m entries rest e = IsStrictlySortedBy nat_cmp (keys_of rest) × ((f : ℕ) → f ≢ e → in_way m rest f ≡ in_way m entries f)

-- an entry of the examiner, or of one that isn't in the way, is stepped over
pub carries_on : (m : Mode) (entries : Held) (k : ℕ) (b : Option Mode) (rest : Held) (e : ℕ) → (k ≢ e → clashes m b ≡ false)
    → Carries m entries ((k, b) ∷ rest) e → Carries m entries rest e
unfolding IsStrictlySortedBy
carries_on m entries k b rest e over carries = (carries.0.1, λ f o. step f o ∙ carries.1 f o)
  where
    step : (f : ℕ) → f ≢ e → in_way m rest f ≡ in_way m ((k, b) ∷ rest) f
    step f o = grind (arith, nat_tests, way_first m k b rest f, none_after m k f rest carries.0, over)

-- the first entry that isn't stepped over is the least other
pub carries_least : (m : Mode) (entries : Held) (k : ℕ) (b : Option Mode) (rest : Held) (e : ℕ) → k ≢ e → clashes m b ≡ true
    → Carries m entries ((k, b) ∷ rest) e → IsLeast (in_way m entries) e (Some k)
carries_least m entries k b rest e other clash carries = (
  other,
  sym (carries.1 k other) ∙ way_own m k b rest ∙ clash,
  λ g lt o. sym (carries.1 g o) ∙ way_other m k b rest g (λ s. omega (arith, s, lt)) ∙ none_after m k g rest carries.0 (omega (arith, lt)),
)

-- where nothing is left nobody else is in the way
pub carries_none : (m : Mode) (entries : Held) (e : ℕ) → Carries m entries [] e → IsLeast (in_way m entries) e None
carries_none m entries e carries = λ f o. sym (carries.1 f o)

-- ---- the entries before an examiner

-- the entries of those who stand before examiner x
abbrev pub before : ℕ → Held → Held
before x es = entries_between nat_cmp Unbounded (Excluded x) es

keys_filter : (p : ℕ → Bool) (es : Held) → keys_of (filter (λ e. p e.0) es) ≡ filter p (keys_of es)
keys_filter p [] = refl
keys_filter p (e ∷ es) = grind (arith, keys_filter p es)

pub before_sorted : (x : ℕ) (es : Held) → IsStrictlySortedBy nat_cmp (keys_of es) → IsStrictlySortedBy nat_cmp (keys_of (before x es))
before_sorted x es h =
    subst (λ (ks : List ℕ). IsStrictlySortedBy nat_cmp ks) (sym (keys_filter (range_contains nat_cmp Unbounded (Excluded x)) es))
    (IsStrictlySortedBy-filter nat_cmp (range_contains nat_cmp Unbounded (Excluded x)) (keys_of es) h)

before_is : (x f : ℕ) → range_contains nat_cmp Unbounded (Excluded x) f ≡ ltb f x
before_is x f = grind (arith, nat_tests)

-- who is in the way by these entries stands before x, and is in the way by all
pub in_way_before : (m : Mode) (x : ℕ) (es : Held) (f : ℕ) → in_way m (before x es) f ≡ (ltb f x && in_way m es f)
in_way_before m x es f =
    let p : ℕ → Bool = range_contains nat_cmp Unbounded (Excluded x) in
    let found = lookup-filter-keys (is_at (nat_cmp f)) p (p f) (λ k t. ap p (sym (eqb-true f k (sym (unsigned_tied f k) ∙ t)))) es in
    grind (arith, found, before_is x f)
