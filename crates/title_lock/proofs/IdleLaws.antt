-- Who is idle at a node, and which holders are used, after one change and after several.
use Rattle.std.proofs.Common.{◌≡◌, ◌≢◌, ℕ, Bool, true, false, cond, not, ◌&&◌, ◌||◌, [], ◌∷◌, length, Option, Some, None, is_some, eqb}
use Rattle.std.proofs.{Common.{refl, sym, ◌∙◌, true≢false, arith}, lemmas.Bool.{ne_eqb, or_left, Decides.{nat_tests}}}
use Rattle.title_land.specs.declared.node.Node.{Node}
use Rattle.title_lock.specs.{declared.modes.Mode.{Mode}, Modes.{bound}, Holders.{Modes, holder_mode, has_room, idles, is_free}}
use Rattle.title_lock.specs.Tables.{HeldAt, is_idle, IdleMore, IdleLess}

-- ---- the holders of one node

-- the first of a node's holders has room
first_room : (p : ℕ × Option Mode) (h : Modes) → has_room (p ∷ h) p.0 ≡ true
first_room p h = grind (arith, nat_tests)

-- a node where somebody has room isn't free
pub room_used : (h : Modes) (e : ℕ) → has_room h e ≡ true → is_free h ≡ false
room_used [] e room = absurd (true≢false (sym room))
room_used (p ∷ h) e room = ne_eqb (length (p ∷ h)) 0 (λ none. omega arith)

-- a node that isn't free stays so where each keeps room
pub rooms_used : (h g : Modes) → ((e : ℕ) → has_room h e ≡ true → has_room g e ≡ true) → is_free h ≡ false → is_free g ≡ false
rooms_used [] g keeps used = absurd (true≢false used)
rooms_used (p ∷ h) g keeps used = room_used g p.0 (keeps p.0 (first_room p h))

-- who gets room may be idle, and nobody else is but who was
pub idles_more : (h g : Modes) (f e : ℕ) → holder_mode g f ≡ holder_mode h f → (f ≢ e → has_room g f ≡ has_room h f) → idles g f ≡ true
    → (idles h f || (eqb f e && true)) ≡ true
idles_more h g f e mode room idle = grind (arith, nat_tests)

-- where nobody had room, only who gets it may be idle
pub idles_first : (h g : Modes) (f e : ℕ) → has_room h f ≡ false → holder_mode g f ≡ holder_mode h f → (f ≢ e → has_room g f ≡ has_room h f)
    → idles g f ≡ true → (eqb f e && true) ≡ true
idles_first h g f e none mode room idle = grind (arith, nat_tests)

-- who is given a mode isn't idle
pub idles_raised : (h g : Modes) (f e : ℕ) (a : Mode) → holder_mode g f ≡ bound (holder_mode h f) (cond (eqb f e) (Some a) None)
    → has_room g f ≡ has_room h f → idles g f ≡ (idles h f && not (eqb f e && true))
idles_raised h g f e a mode room = grind arith

-- who is taken out isn't idle
pub idles_released : (h g : Modes) (f e : ℕ) → holder_mode g f ≡ cond (eqb f e) None (holder_mode h f)
    → has_room g f ≡ (not (eqb f e) && has_room h f) → idles g f ≡ true → idles h f ≡ true
idles_released h g f e mode room idle = grind arith

-- who loses its room isn't idle
pub idles_dropped : (h g : Modes) (f e : ℕ) → holder_mode g f ≡ holder_mode h f
    → has_room g f ≡ cond (eqb f e) (is_some (holder_mode h f)) (has_room h f) → idles g f ≡ (idles h f && not (eqb f e && true))
idles_dropped h g f e mode room = grind arith

-- nobody is idle at a free node
pub free_idles : (h : Modes) → is_free h ≡ true → (e : ℕ) → idles h e ≡ false
free_idles [] free e = refl
free_idles (p ∷ h) free e = absurd (true≢false (sym free ∙ ne_eqb (length (p ∷ h)) 0 (λ none. omega arith)))

-- ---- tables

-- the same table has nobody more idle
pub more_same : (t : HeldAt) (e : ℕ) (asks : Node → Bool) → IdleMore t t e asks
more_same t e asks = record { more = λ f n idle. or_left (is_idle t f n) (eqb f e && asks n) idle }

-- what may be idle by two changes in turn
pub more_join : (t u v : HeldAt) (e : ℕ) (p r : Node → Bool) → ((n : Node) → p n ≡ true → r n ≡ true) → IdleMore t u e r → IdleMore u v e p
    → IdleMore t v e r
more_join t u v e p r wide first then = record {
  more = λ f n idle. grind (arith, first.more f n, then.more f n, wide n);
}

-- what may be idle by one test may be by a wider one
pub more_wider : (t u : HeldAt) (e : ℕ) (p r : Node → Bool) → ((n : Node) → p n ≡ true → r n ≡ true) → IdleMore t u e p → IdleMore t u e r
more_wider t u e p r wide h = more_join t t u e p r wide (more_same t e r) h

-- the same table has nobody less idle by a test that passes no node
pub less_same : (t : HeldAt) (e : ℕ) (asks : Node → Bool) → ((n : Node) → asks n ≡ false) → IdleLess t t e asks
less_same t e asks none = record {
  less = λ f n. grind (arith, none n);
}

-- who is no more idle after two changes in turn
pub less_join : (t u v : HeldAt) (e : ℕ) (p q r : Node → Bool) → ((n : Node) → (p n || q n) ≡ r n) → IdleLess t u e p → IdleLess u v e q
    → IdleLess t v e r
less_join t u v e p q r parts first then = record {
  less = λ f n. grind (arith, first.less f n, then.less f n, parts n);
}
