-- Texts that are written one after another, until all are or the sink fails.
use Rattle.std.proofs.Common.{◌≡◌, ◌++◌, ℕ, Bool, true, false, List, Option, Result, OnOk, OnErr, sym, subst}
use Rattle.std.{specs.Result.{IsErr}, proofs.lemmas.{Result.{IfOk-from_err, on_err_weaker, on_ok_weaker}, Grind.{flat_map-append}}}
use Rattle.title_page.specs.{Pages.{Stopped, Written}, Rows.{row, rows_text}, Laws.InTurn.{on_err, stopped_then, written_then}}
use Rattle.title_report.specs.Puts.{IsPut}

-- a call that says of each of its ends what it does
pub put_done : {T E : Type 0} {r : Result T E} {a b : Option (List ℕ)} {p q s : List ℕ} {f : Bool} → OnOk r (Written a p b q s)
    → OnOk r (f ≡ false) → OnErr r (Stopped a p b s) → OnErr r (f ≡ true) → IsPut r a p b q f s
put_done w v x y = record { written = w; well = v; stopped = x; failed = y }

-- a text by another name
pub put_as : {T E : Type 0} {r : Result T E} {a b : Option (List ℕ)} {p q : List ℕ} {f : Bool} {s t : List ℕ}
    → t ≡ s → IsPut r a p b q f s → IsPut r a p b q f t
put_as {T} {E} {r} {a} {b} {p} {q} {f} e h = subst (λ (x : List ℕ). IsPut r a p b q f x) (sym e) h

-- a text behind one that was written
pub put_then : {T E : Type 0} {r : Result T E} {a b c : Option (List ℕ)} {p q u : List ℕ} {f : Bool} (s t : List ℕ)
    → Written a p b q s → IsPut r b q c u f t → IsPut r a p c u f (s ++ t)
put_then {T} {E} {r} s t w k = record {
  written = on_ok_weaker r (λ v. written_then s t w v) k.written;
  well = k.well;
  stopped = on_err_weaker r (λ v. stopped_then s t w v) k.stopped;
  failed = k.failed;
}

-- rows behind some that were written
pub rows_put_then : {T E : Type 0} {r : Result T E} {a b c : Option (List ℕ)} {p q u : List ℕ} {f : Bool} (xs ys : List (List (List ℕ)))
    → Written a p b q (rows_text xs) → IsPut r b q c u f (rows_text ys) → IsPut r a p c u f (rows_text (xs ++ ys))
rows_put_then xs ys w k = put_as (flat_map-append row xs ys) (put_then (rows_text xs) (rows_text ys) w k)

-- the sink failed
pub put_failed : {T E : Type 0} {r : Result T E} {a b : Option (List ℕ)} {p q s : List ℕ} {f : Bool}
    → IsErr r → Stopped a p b s → f ≡ true → IsPut r a p b q f s
put_failed {T} {E} {r} {a} {b} {p} {q} {s} {f} is v fails = record {
  written = IfOk-from_err r (λ _. Written a p b q s) is;
  well = IfOk-from_err r (λ _. f ≡ false) is;
  stopped = on_err r v;
  failed = on_err r fails;
}
