-- The test of a sheet tells what its land has.
use Rattle.std.proofs.Common.{◌≡◌, ◌<◌, ◌+◌, ◌∙◌, ◌&&◌, ◌==◌, ℕ, Bool, true, List, length, get_or, refl, sym, subst, sum_by, arith}
use Rattle.std.proofs.lemmas.Bool.Decides.{Decides-and, Decides-by_and, Decides-eqb, Decides-like}
use Rattle.std.proofs.lemmas.List.{Elements.{All-from_get_or}, FromFn.{get_or-range_with_len, length-range_with_len}}
use Rattle.std.specs.{Bool.{Decides}, List.{All, list_all, range_with_len}}
use Rattle.title_instrument.specs.declared.parts.Estate.{Estate, TheVariants.{S, O, M}}
use Rattle.title_land.specs.declared.survey.{Section.{Section}, Township.{Township}}
use Rattle.title_land.specs.{Depth.{depth}, CellLists.{sections_of}, Survey.{side}}
use Rattle.title_share.specs.Rows.{whole_units}
use Rattle.title_plat.specs.{declared.{parts.Part.{Part}, row.Row.{Row}}, Parts.{owners_of, parts_of}}
use Rattle.title_plat.specs.Drawn.{Drawn, one_section, some_townships, everything, land_drawn}
use Rattle.title_plat.specs.Once.{is_once, is_once_on, is_whole, row_is_once, section_is_once, township_is_once, parts_in}
use Rattle.title_plat.specs.Laws.{IsOnceIn, IsOnceOn, IsWhole, SheetsHaveEachCellOnce}

-- a test of all in a list
of_all : {X : Type 0} (p : X → Bool) (P : X → Type 0) → ((x : X) → Decides (p x) (P x)) → (xs : List X) → Decides (list_all p xs) (All P xs)
of_all p P each = Decides-by_and p P (list_all p) each refl (λ _ _. refl)

-- the numbers below another stand each at its own place
number_at : (n k : ℕ) → k < n → get_or (range_with_len 0 n) k 0 ≡ k
number_at n k inside = let same : 0 + k ≡ k = omega arith in get_or-range_with_len 0 n k 0 inside ∙ same

-- a test of all numbers below another
of_range : (p : ℕ → Bool) (P : ℕ → Type 0) → ((k : ℕ) → Decides (p k) (P k)) → (n : ℕ)
    → Decides (list_all p (range_with_len 0 n)) ((k : ℕ) → k < n → P k)
of_range p P each n =
    let long = length-range_with_len 0 n in
    Decides-like (list_all p (range_with_len 0 n))
    (λ (h : All P (range_with_len 0 n)) (k : ℕ) (inside : k < n).
    subst P (number_at n k inside) (h k 0 (omega (arith, long))))
    (λ (h : (k : ℕ) → k < n → P k). All-from_get_or P (range_with_len 0 n) 0 (λ (k : ℕ) (within : k < length (range_with_len 0 n)).
    let inside : k < n = omega (arith, long) in subst P (sym (number_at n k inside)) (h k inside)))
    (of_all p P each (range_with_len 0 n))

-- a test of each estate
of_estates : (p : Estate → Bool) (P : Estate → Type 0) → ((e : Estate) → Decides (p e) (P e))
    → Decides (p S && p O && p M) ((e : Estate) → P e)
of_estates p P each =
    Decides-like (p S && p O && p M) spread (λ (h : (e : Estate) → P e). ((h S, h O), h M))
    (Decides-and (p S && p O) (p M) (Decides-and (p S) (p O) (each S) (each O)) (each M))
  where
    spread : (P S × P O) × P M → (e : Estate) → P e
    spread h S = h.0.0
    spread h O = h.0.1
    spread h M = h.1

-- the tests of a section, of a township, and of the land
of_section : (parts : List Part) (s : Section) → Decides (section_is_once parts s) (IsOnceIn parts s)
of_section parts s =
    of_range (row_is_once parts s)
    (λ (row : ℕ). (column : ℕ) → column < side depth → is_once parts (record { section = s; row = row; column = column }) ≡ true)
    (λ (row : ℕ). of_range (λ (column : ℕ). is_once parts (record { section = s; row = row; column = column }))
    (λ (column : ℕ). is_once parts (record { section = s; row = row; column = column }) ≡ true)
    (λ (column : ℕ). ((λ e. e), (λ e. e))) (side depth))
    (side depth)

of_township : (parts : List Part) (t : Township) → Decides (township_is_once parts t) (All (IsOnceIn parts) (sections_of t))
of_township parts t = of_all (section_is_once parts) (IsOnceIn parts) (of_section parts) (sections_of t)

of_land : (parts : List Part) (land : Drawn) → Decides (is_once_on parts land) (IsOnceOn parts land)
of_land parts (one_section s) = of_section parts s
of_land parts (some_townships townships) =
    of_all (township_is_once parts) (λ (t : Township). All (IsOnceIn parts) (sections_of t)) (of_township parts) townships
of_land parts everything =
    of_estates (λ (e : Estate). parts_in parts e == 1) (λ (e : Estate). parts_in parts e ≡ 1)
    (λ (e : Estate). Decides-eqb (parts_in parts e) 1)

-- the shares of each part
of_parts : (rows : List Row) (parts : List Part) → Decides (list_all (is_whole rows) parts) (All (IsWhole rows) parts)
of_parts rows =
    of_all (is_whole rows) (IsWhole rows) (λ (part : Part). Decides-eqb (sum_by (λ row. row.share) (owners_of rows part)) whole_units)

pub sheets_tell : SheetsHaveEachCellOnce
sheets_tell rows =
    let parts = parts_of rows in
    Decides-and (list_all (is_whole rows) parts) (is_once_on parts (land_drawn parts)) (of_parts rows parts)
    (of_land parts (land_drawn parts))
