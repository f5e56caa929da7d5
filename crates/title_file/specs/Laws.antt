-- How what a crash may leave goes on with each call.
use Rattle.std.{specs.Prelude.{ℕ, ◌≤◌, true, false, List, [], ◌∷◌, length}, proofs.Common.{inl, inr, refl, sym, subst, arith}}
use Rattle.title_disk.specs.{Crashes.{Torn, Cut, Follows}, Laws.KeptCalls.{torn_from_Holds, cut_by_itself}}
use Rattle.title_file.specs.Calls.{Call, written, cut, after, seen, Leaves, MayLeave, LeftSince}

-- a crash may leave what is there
pub stays : (calls : List Call) → MayLeave calls (seen calls)
stays [] = refl
stays (call ∷ earlier) = inl refl

pub counts_now : (calls : List Call) (number : ℕ) (content : List ℕ) → MayLeave calls content → LeftSince calls number content
counts_now [] number content may = may
counts_now (call ∷ earlier) number content may = inl may

pub only_now : (calls : List Call) (content : List ℕ) → LeftSince calls (length calls) content → MayLeave calls content
only_now [] content left = left
only_now (call ∷ earlier) content (inl may) = may
only_now (call ∷ earlier) content (inr past) = absurd (omega arith)

-- ---- what a crash may leave after each call

goes_on : (step : List ℕ → List ℕ → Type 0) (call : Call) (calls : List Call) → step (seen calls) (seen (call ∷ calls))
    → ((d c : List ℕ) → Leaves call d c → step d c) → Follows step (MayLeave calls) (MayLeave (call ∷ calls))
goes_on step call calls done torn c (inl here) = (seen calls, stays calls, subst (step (seen calls)) (sym here) done)
goes_on step call calls done torn c (inr from) = (from.0, from.1, torn from.0 c from.2)

pub written_follows : (calls : List Call) (at : ℕ) (bytes : List ℕ) → at ≤ length (seen calls)
    → Follows (Torn at (length bytes)) (MayLeave calls) (MayLeave (written at bytes true ∷ calls))
written_follows calls at bytes within = goes_on (Torn at (length bytes)) (written at bytes true) calls
    (torn_from_Holds (seen calls) at bytes (after (written at bytes true) (seen calls)) within refl) (λ d c torn. torn)

pub uncut_follows : (calls : List Call) (len : ℕ) → Follows (Cut len) (MayLeave calls) (MayLeave (cut len false ∷ calls))
uncut_follows calls len = goes_on (Cut len) (cut len false) calls (cut_by_itself len (seen calls)) (λ d c torn. torn)
