-- Steps of the loops that make sheets.
use Rattle.std.proofs.Common.{◌≡◌, ℕ, zero, suc, ◌+◌, ◌-◌, ◌<◌, ◌≤◌, Bool, true, false, cond, ◌&&◌, List, [], ◌∷◌, drop, get_or, length}
use Rattle.std.proofs.{Common.{Option, Some, None, refl, sym, ap, ◌∙◌, ◌↔◌, arith, true≢false}, lemmas.Bool.{false_from_ne_true}}
use Rattle.std.{proofs.lemmas.List.{drop_more, drop_all}, specs.List.{list_all, flat_map}}
use Rattle.title_share.specs.Division.{Division}
use Rattle.title_land.specs.{declared.{survey.{Township.{Township}, Cell.{Cell}}, node.Node.{Node}}, CellLists.{node_cells, children_of}}
use Rattle.title_instrument.specs.{declared.parts.Estate.{Estate}, Owners.{holding_of}}
use Rattle.title_store.specs.{Plants.{Plant}, Sheets.{same_division, one_holding, holding_rows, rows_or, sheet_below}}
use Rattle.title_store.specs.Laws.SheetLaws.{same_divisions_are_equal}

-- a test that answers whether two divisions are equal is the sheet's
pub same_test : (d e : Division) (b : Bool) → (b ≡ true) ↔ (d ≡ e) → same_division d e ≡ b
same_test d e true h = (same_divisions_are_equal d e).1 (h.0 refl)
same_test d e false h = false_from_ne_true _ (λ k. true≢false (sym (h.1 ((same_divisions_are_equal d e).0 k))))

pub all_on : (p : Cell → Bool) (cells : List Cell) (i : ℕ) (d : Cell) → i < length cells → list_all p cells ≡ list_all p (drop i cells)
    → p (get_or cells i d) ≡ true → list_all p cells ≡ list_all p (drop (i + 1) cells)
all_on p cells i d l h e = h ∙ ap (list_all p) (drop_more cells i d l) ∙ ap (λ (b : Bool). b && list_all p (drop (i + 1) cells)) e

pub all_stops : (p : Cell → Bool) (cells : List Cell) (i : ℕ) (d : Cell) → i < length cells → list_all p cells ≡ list_all p (drop i cells)
    → p (get_or cells i d) ≡ false → list_all p cells ≡ false
all_stops p cells i d l h e = h ∙ ap (list_all p) (drop_more cells i d l) ∙ ap (λ (b : Bool). b && list_all p (drop (i + 1) cells)) e

pub all_done : (p : Cell → Bool) (cells : List Cell) (i : ℕ) → length cells ≤ i → list_all p cells ≡ list_all p (drop i cells)
    → list_all p cells ≡ true
all_done p cells i l h = h ∙ ap (list_all p) (drop_all i cells l)

-- the one holding of cells, from a test of all but the first
pub one_at : (e : Estate) (p : Plant) (first : Cell) (others cells : List Cell) (held : Division) (b : Bool) → cells ≡ first ∷ others
    → held ≡ holding_of e (p first)
    → list_all (λ c. same_division (holding_of e (p c)) held) others ≡ b → one_holding e p cells ≡ cond b (Some held) None
one_at e p first others cells held b ce he al =
    ap (one_holding e p) ce
    ∙ ap (λ (h : Division). cond (list_all (λ c. same_division (holding_of e (p c)) h) others) (Some h) None) (sym he)
    ∙ ap (λ (t : Bool). cond t (Some held) None) al

-- the sheet of a node whose cells have one holding, of one without levels below it, and of any other
pub sheet_one : (levels d : ℕ) (ts : List Township) (p : Plant) (e : Estate) (n : Node) (held : Division)
    → one_holding e p (node_cells d ts n) ≡ Some held → sheet_below levels d ts p e n ≡ holding_rows n e held
sheet_one zero d ts p e n held h = ap (λ (o : Option Division). rows_or n e o []) h
sheet_one (suc levels) d ts p e n held h = ap (λ (o : Option Division).
    rows_or n e o (flat_map (sheet_below levels d ts p e) (children_of d ts n))) h

pub sheet_none : (levels d : ℕ) (ts : List Township) (p : Plant) (e : Estate) (n : Node) → levels ≡ 0
    → one_holding e p (node_cells d ts n) ≡ None → sheet_below levels d ts p e n ≡ []
sheet_none zero d ts p e n l h = ap (λ (o : Option Division). rows_or n e o []) h
sheet_none (suc levels) d ts p e n l h = absurd (omega arith)

pub sheet_parts : (levels d : ℕ) (ts : List Township) (p : Plant) (e : Estate) (n : Node) → (levels ≡ 0 → ⊥)
    → one_holding e p (node_cells d ts n) ≡ None
    → sheet_below levels d ts p e n ≡ flat_map (sheet_below (levels - 1) d ts p e) (children_of d ts n)
sheet_parts zero d ts p e n l h = absurd (l refl)
sheet_parts (suc levels) d ts p e n l h =
    let k : suc levels - 1 ≡ levels = omega arith in
    rw k (ap (λ (o : Option Division). rows_or n e o (flat_map (sheet_below levels d ts p e) (children_of d ts n))) h)
