-- Maps of the holders of nodes by their numbers, changed under one number at a time.
use Rattle.std.proofs.Common.{arith, ◌≡◌, ℕ, Bool, true, false, cond, not, ◌&&◌, ◌||◌, [], Option, Some, None, length, refl, sym, ap, ◌∙◌}
use Rattle.std.{proofs.Common.{subst}, proofs.lemmas.{Bool.{or_left, eqb-true}, List.{nil_from_length}}, specs.Prelude.{IsSome, is_some}}
use Rattle.std.specs.{Ordering.{nat_cmp}, BTreeMap.{BTreeMap, get, is_at}}
use mathlib.Core.Bool.{and-true, and-false}
use Rattle.title_land.specs.{declared.node.Node.{Node}, Nodes.{same_node}, NodeNumbers.{node_number}, Laws.NodeNumbers.{numbered_at}}
use Rattle.title_land.specs.Laws.SameNode.{same_node-to}
use Rattle.title_lock.specs.{declared.modes.Mode.{Mode}, Modes.{bound}, Holders.{Modes, holder_mode, idles, is_free}}
use Rattle.title_lock.{specs.Tables.{holders_at, mode_in, idle_in, unused_in}, proofs.{ModeLaws.{bound_none}, IdleLaws.{free_idles}}}

abbrev pub NodeMap : Type 0
NodeMap = BTreeMap ℕ Modes

-- the second map is the first with this under a number
abbrev pub Writes : NodeMap → NodeMap → ℕ → Option Modes → Type 0
Writes m n j w = (q : ℕ) → get nat_cmp n q ≡ cond (is_at (nat_cmp j) q) w (get nat_cmp m q)

-- of two writes under one number the second counts
pub rewritten : (m n o : NodeMap) (j : ℕ) (v w : Option Modes) → Writes m n j v → Writes n o j w → Writes m o j w
rewritten m n o j v w first then q = grind (arith, first q, then q)

-- what stood at the node that is written
pub stood : (m : NodeMap) (j : ℕ) (k : Node) (o : Option Modes) → j ≡ node_number k → o ≡ get nat_cmp m j → (q : Node)
    → same_node q k ≡ true → holders_at m q ≡ o
stood m j k o code had q same = ap (holders_at m) (same_node-to q k same) ∙ sym (had ∙ ap (get nat_cmp m) code)

-- what stands at each node then
pub stands : (m n : NodeMap) (j : ℕ) (k : Node) (w : Option Modes) → j ≡ node_number k → Writes m n j w → (q : Node)
    → holders_at n q ≡ cond (same_node q k) w (holders_at m q)
stands m n j k w code writes q = writes (node_number q) ∙ ap (λ (z : ℕ). cond (is_at (nat_cmp z) (node_number q)) w (holders_at m q)) code
    ∙ ap (λ (b : Bool). cond b w (holders_at m q)) (numbered_at k q)

-- what is so of what stood and what stands at the node that is written, and elsewhere of what stays, is so at each node
pub same_at : (f : ℕ) (s : Bool) {x y h : Option Modes} (w : Option Modes) → (s ≡ true → x ≡ h) → y ≡ cond s w x → mode_in f w ≡ mode_in f h
    → mode_in f y ≡ mode_in f x
same_at f true w was now at = rw (now, was refl) at
same_at f false w was now at = ap (mode_in f) now

pub raised_at : (f : ℕ) (b : Bool) (a : Mode) (s : Bool) {x y h : Option Modes} (w : Option Modes) → (s ≡ true → x ≡ h) → y ≡ cond s w x
    → mode_in f w ≡ bound (mode_in f h) (cond b (Some a) None) → mode_in f y ≡ bound (mode_in f x) (cond (b && s) (Some a) None)
raised_at f b a true w was now at = rw (now, was refl, and-true b) at
raised_at f b a false {x} w was now at = rw (now, and-false b) (sym (bound_none (mode_in f x)))

pub taken_at : (f : ℕ) (b s : Bool) {x y h : Option Modes} (w : Option Modes) → (s ≡ true → x ≡ h) → y ≡ cond s w x
    → mode_in f w ≡ cond b None (mode_in f h) → mode_in f y ≡ cond (b && s) None (mode_in f x)
taken_at f b true w was now at = rw (now, was refl, and-true b) at
taken_at f b false w was now at = rw (now, and-false b)

pub more_at : (f : ℕ) (b s : Bool) {x y h : Option Modes} (w : Option Modes) → (s ≡ true → x ≡ h) → y ≡ cond s w x
    → (idle_in f w ≡ true → (idle_in f h || (b && true)) ≡ true) → idle_in f y ≡ true → (idle_in f x || (b && s)) ≡ true
more_at f b true w was now at = rw (now, was refl) at
more_at f b false {x} w was now at = λ idle. or_left (idle_in f x) (b && false) (ap (idle_in f) (sym now) ∙ idle)

pub less_at : (f : ℕ) (b s : Bool) {x y h : Option Modes} (w : Option Modes) → (s ≡ true → x ≡ h) → y ≡ cond s w x
    → idle_in f w ≡ (idle_in f h && not (b && true)) → idle_in f y ≡ (idle_in f x && not (b && s))
less_at f b true w was now at = rw (now, was refl) at
less_at f b false {x} w was now at = rw (now, and-false b) (sym (and-true (idle_in f x)))

pub no_more_at : (f : ℕ) (s : Bool) {x y h : Option Modes} (w : Option Modes) → (s ≡ true → x ≡ h) → y ≡ cond s w x
    → (idle_in f w ≡ true → idle_in f h ≡ true) → idle_in f y ≡ true → idle_in f x ≡ true
no_more_at f true w was now at = rw (now, was refl) at
no_more_at f false w was now at = rw now (λ idle. idle)

-- ---- holders among whom nobody is

-- nobody has a mode among free holders
pub free_none : (h : Modes) → is_free h ≡ true → (e : ℕ) → holder_mode h e ≡ None
free_none h free e = let none : h ≡ [] = nil_from_length h (eqb-true (length h) 0 free) in rw none refl

-- a node's holders are kept where somebody is among them
pub left_of : Modes → Option Modes
left_of h = cond (is_free h) None (Some h)

left_or : (P : Option Modes → Type 0) (h : Modes) (b : Bool) → is_free h ≡ b → (is_free h ≡ true → P None)
    → (is_free h ≡ false → P (Some h)) → P (left_of h)
unfolding left_of
left_or P h true is free kept = subst (λ (b : Bool). P (cond b None (Some h))) (sym is) (free is)
left_or P h false is free kept = subst (λ (b : Bool). P (cond b None (Some h))) (sym is) (kept is)

pub left_modes : (h : Modes) (f : ℕ) → mode_in f (left_of h) ≡ holder_mode h f
left_modes h f = left_or (λ o. mode_in f o ≡ holder_mode h f) h (is_free h) refl (λ free. sym (free_none h free f)) (λ kept. refl)

pub left_idle : (h : Modes) (f : ℕ) → idle_in f (left_of h) ≡ idles h f
left_idle h f = left_or (λ o. idle_in f o ≡ idles h f) h (is_free h) refl (λ free. sym (free_idles h free f)) (λ kept. refl)

pub left_used : (h : Modes) → unused_in (left_of h) ≡ false
left_used h = left_or (λ o. unused_in o ≡ false) h (is_free h) refl (λ free. refl) (λ kept. kept)

-- free holders are removed after they are written, and others stay
pub removed : (m n o : NodeMap) (j : ℕ) (h : Modes) → is_free h ≡ true → Writes m n j (Some h) → Writes n o j None
    → Writes m o j (left_of h)
unfolding left_of
removed m n o j h free first then =
    subst (λ (b : Bool). Writes m o j (cond b None (Some h))) (sym free) (rewritten m n o j (Some h) None first then)

pub kept : (m n : NodeMap) (j : ℕ) (h : Modes) → is_free h ≡ false → Writes m n j (Some h) → Writes m n j (left_of h)
unfolding left_of
kept m n j h stay first = subst (λ (b : Bool). Writes m n j (cond b None (Some h))) (sym stay) first

-- what was borrowed of a map was found there
pub is_found : {V : Type 0} (v : V) (o : Option V) → Some v ≡ o → IsSome o
is_found v o h = sym (ap is_some h)
