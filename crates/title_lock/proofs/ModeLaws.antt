-- The finite laws of the tables.
use Rattle.std.proofs.{Common.{◌≡◌, Bool, true, ◌&&◌, Option, None, refl, arith}, lemmas.Bool.{and_parts, and_from}}
use mathlib.Core.Bool.{beq}
use Rattle.title_lock.specs.{declared.modes.Mode.{Mode, TheVariants.{Is, Ix, S, Six, X}}, Modes.{compat, sup, bound, allows}}
use Rattle.title_lock.specs.Holders.{same_mode}

-- a test at each mode
abbrev pub at_all : (Mode → Bool) → Bool
at_all test = test Is && (test Ix && (test S && (test Six && test X)))

pub at_each : (test : Mode → Bool) → at_all test ≡ true → (m : Mode) → test m ≡ true
at_each test h m =
    let a = and_parts (test Is) (test Ix && (test S && (test Six && test X))) h in
    let b = and_parts (test Ix) (test S && (test Six && test X)) a.1 in
    let c = and_parts (test S) (test Six && test X) b.1 in
    let d = and_parts (test Six) (test X) c.1 in
    elim m as (λ k. test k ≡ true) [ Is ↦ a.0 | Ix ↦ b.0 | S ↦ c.0 | Six ↦ d.0 | X ↦ d.1 ]

pub at_two : (test : Mode → Mode → Bool) → at_all (λ x. at_all (λ y. test x y)) ≡ true → (a b : Mode) → test a b ≡ true
at_two test h a b = at_each (λ y. test a y) (at_each (λ x. at_all (λ y. test x y)) h a) b

pub at_three : (test : Mode → Mode → Mode → Bool) → at_all (λ x. at_all (λ y. at_all (λ z. test x y z))) ≡ true → (a b c : Mode)
    → test a b c ≡ true
at_three test h a b c = at_two (λ y z. test a y z) (at_each (λ x. at_all (λ y. at_all (λ z. test x y z))) h a) b c

-- and the other way round
pub from_each : (test : Mode → Bool) → ((m : Mode) → test m ≡ true) → at_all test ≡ true
from_each test h = and_from _ _ (h Is) (and_from _ _ (h Ix) (and_from _ _ (h S) (and_from _ _ (h Six) (h X))))

agree : (a b : Bool) → beq a b ≡ true → a ≡ b
agree a b h = grind arith

pub sup_compat : (a b c : Mode) → compat (sup a b) c ≡ (compat a c && compat b c)
sup_compat a b c = agree (compat (sup a b) c) (compat a c && compat b c)
    (at_three (λ x y z. beq (compat (sup x y) z) (compat x z && compat y z)) refl a b c)

pub compat_turn : (a b : Mode) → compat a b ≡ compat b a
compat_turn a b = agree (compat a b) (compat b a) (at_two (λ x y. beq (compat x y) (compat y x)) refl a b)

pub bound_allows : (a b c : Option Mode) → allows (bound a b) c ≡ (allows a c && allows b c)
bound_allows a b c = grind (arith, sup_compat)

pub allows_turn : (a b : Option Mode) → allows a b ≡ allows b a
allows_turn a b = grind (arith, compat_turn)

-- ---- the bound as an operation

pub same_mode_true : (a b : Mode) → same_mode a b ≡ true → a ≡ b
same_mode_true a b h = grind arith

sup_assoc : (a b c : Mode) → sup (sup a b) c ≡ sup a (sup b c)
sup_assoc a b c = same_mode_true (sup (sup a b) c) (sup a (sup b c))
    (at_three (λ x y z. same_mode (sup (sup x y) z) (sup x (sup y z))) refl a b c)

sup_turn : (a b : Mode) → sup a b ≡ sup b a
sup_turn a b = same_mode_true (sup a b) (sup b a) (at_two (λ x y. same_mode (sup x y) (sup y x)) refl a b)

pub sup_self : (a : Mode) → sup a a ≡ a
sup_self a = same_mode_true (sup a a) a (at_each (λ x. same_mode (sup x x) x) refl a)

pub bound_none : (a : Option Mode) → bound a None ≡ a
bound_none a = grind arith

pub bound_assoc : (a b c : Option Mode) → bound (bound a b) c ≡ bound a (bound b c)
bound_assoc a b c = grind (arith, sup_assoc)

pub bound_turn : (a b : Option Mode) → bound a b ≡ bound b a
bound_turn a b = grind (arith, sup_turn)
