-- The rows at the end of a level of clap's parse: an argument with a default has one, and a getter reads a value of it that fits.
use Rattle.std.proofs.Common.{◌≡◌, ◌<◌, ◌||◌, subst, true, false, true≢false, refl, sym, ap, arith, List, [], ◌∷◌, ◌++◌, Bool, length}
use Rattle.std.{proofs.{Common.{◌⊎◌, inl, inr, Option, Some, None}, lemmas.Slice.Eq.{bytes_eq-Decides}}, specs.Str.{bytes_eq}}
use Rattle.std.specs.Prelude.{if◌then◌else◌, find, fold, option_and_then, option_map, slice_get}
use Rattle.clap.specs.{Walk.{Row, Rule, Text, default_rows, first_of, one_of, reading_by, row_text, has_row, more_values}, Values.{read_as}}
use Rattle.clap.specs.Walk.{nothing_held, rows_after, settled, walk, with_default, with_values}
use Rattle.clap.specs.declared.{builder.value_parser.Reading.{Reading}, parser.matches.ValueSource.{ValueSource}}
use Rattle.clap.specs.declared.parser.matches.ValueSource.TheVariants.{DefaultValue}
use Rattle.title_command.proofs.ValueRows.{Each, Fit, HasValues}

-- ---- rows by default

-- an argument keeps its row when another, or it itself, gets values
still_has : (id k : Text) (how : Reading) (s : ValueSource) (vs : List Text) (rows : List Row)
    → has_row id rows ≡ true → has_row id (with_values k how s vs rows) ≡ true
still_has id k how s vs [] e = absurd (true≢false (sym e))
still_has id k how s vs (r ∷ rs) e = go (bytes_eq r.id id) (bytes_eq r.id k) refl (still_has id k how s vs rs) e
  where
    go : (is other : Bool) → bytes_eq r.id id ≡ is → (has_row id rs ≡ true → has_row id (with_values k how s vs rs) ≡ true)
        → (is || has_row id rs) ≡ true
        → has_row id (if other then more_values s vs r ++ rs else r ∷ with_values k how s vs rs) ≡ true
    go true true eq rest has = rw eq refl
    go true false eq rest has = rw eq refl
    go false true eq rest has = rw eq has
    go false false eq rest has = rw eq (rest has)

-- an argument that gets values has a row
has_given : (k : Text) (how : Reading) (s : ValueSource) (vs : List Text) (rows : List Row)
    → has_row k (with_values k how s vs rows) ≡ true
has_given k how s vs [] = rw ((bytes_eq-Decides k k).1 refl) refl
has_given k how s vs (r ∷ rs) = go (bytes_eq r.id k) refl (has_given k how s vs rs)
  where
    go : (is : Bool) → bytes_eq r.id k ≡ is → has_row k (with_values k how s vs rs) ≡ true
        → has_row k (if is then more_values s vs r ++ rs else r ∷ with_values k how s vs rs) ≡ true
    go true eq rest = rw eq refl
    go false eq rest = rw eq rest

-- the default of another argument leaves each row
default_leaves : (id : Text) (a : Rule) (rows : List Row) → has_row id rows ≡ true → has_row id (with_default rows a) ≡ true
default_leaves id a rows e = go (has_row a.id rows) a.defaults
  where
    go : (b : Bool) (vs : List Text) → has_row id (if b then rows else default_rows a.id (reading_by a) vs rows) ≡ true
    go true vs = e
    go false [] = e
    go false (v ∷ vs) = still_has id a.id (reading_by a) DefaultValue (v ∷ vs) rows e

-- and so do those of others
defaults_leave : (id : Text) (c : List Rule) (rows : List Row) → has_row id rows ≡ true → has_row id (fold with_default rows c) ≡ true
defaults_leave id [] rows e = e
defaults_leave id (a ∷ rest) rows e = defaults_leave id rest (with_default rows a) (default_leaves id a rows e)

-- an argument with a default has a row after its default
default_gives : (a : Rule) (rows : List Row) → 0 < length a.defaults → has_row a.id (with_default rows a) ≡ true
default_gives a rows some = go (has_row a.id rows) refl a.defaults some
  where
    go : (b : Bool) → has_row a.id rows ≡ b → (vs : List Text) → 0 < length vs
        → has_row a.id (if b then rows else default_rows a.id (reading_by a) vs rows) ≡ true
    go true is vs more = is
    go false is [] more = absurd (omega arith)
    go false is (v ∷ vs) more = has_given a.id (reading_by a) DefaultValue (v ∷ vs) rows

-- so each argument with a default has a row at the end
defaults_give : (c : List Rule) (rows : List Row)
    → Each (λ (a : Rule). 0 < length a.defaults → has_row a.id (fold with_default rows c) ≡ true) c
defaults_give [] rows = tt
defaults_give (a ∷ rest) rows = (
  (λ some. defaults_leave a.id rest (with_default rows a) (default_gives a rows some)),
  defaults_give rest (with_default rows a),
)

-- also after the words of a level
pub level_gives : (c : List Rule) (words : List Text)
    → Each (λ (a : Rule). 0 < length a.defaults → has_row a.id (rows_after c [] words) ≡ true) c
level_gives c words = defaults_give c (settled c (walk c [] nothing_held words).held).rows

-- ---- what a getter reads

-- a value of an argument that has a row, as it is written, and it fits
pub first_read : (P : Fit) (id : Text) (rows : List Row) → has_row id rows ≡ true → HasValues P rows
    → (text : Text) × (first_of id rows ≡ Some text) × (one_of id rows ≡ Some text) × P id text
first_read P id [] e h = absurd (true≢false (sym e))
first_read P id (r ∷ rs) e h = go (bytes_eq r.id id) refl (first_read P id rs)
  where
    Read : Option Row → Type 0
    Read o = (text : Text) × (option_and_then (λ (x : Row). slice_get x.values 0) o ≡ Some text)
        × (option_and_then row_text o ≡ Some text) × P id text

    first : r.id ≡ id → (vs : List Text) → 0 < length vs → Each (P r.id) vs
        → (text : Text) × (slice_get vs 0 ≡ Some text)
        × (option_map (read_as r.reading) (slice_get vs 0) ≡ Some text) × P id text
    first is [] some fit = absurd (omega arith)
    first is (v ∷ vs) some fit = (
      v,
      refl,
      ap (λ (how : Reading). Some (read_as how v)) h.0.1,
      subst (λ (t : Text). P t v) is fit.0,
    )

    go : (b : Bool) → bytes_eq r.id id ≡ b → (has_row id rs ≡ true → HasValues P rs → Read (find (λ (x : Row). bytes_eq x.id id) rs))
        → Read (find (λ (x : Row). bytes_eq x.id id) (r ∷ rs))
    go true is rest = rw is (first ((bytes_eq-Decides r.id id).0 is) r.values h.0.0 h.0.2)
    go false is rest =
        let there : has_row id rs ≡ true = rw is at e in
        rw is (rest there h.1)

-- an argument that has no row has no value
none_read : (id : Text) (rows : List Row) → has_row id rows ≡ false → (first_of id rows ≡ None) × (one_of id rows ≡ None)
none_read id [] e = (refl, refl)
none_read id (r ∷ rs) e = go (bytes_eq r.id id) refl (none_read id rs) e
  where
    Unread : Option Row → Type 0
    Unread o =
        (option_and_then (λ (x : Row). slice_get x.values 0) o ≡ None) × (option_and_then row_text o ≡ None)

    go : (b : Bool) → bytes_eq r.id id ≡ b → (has_row id rs ≡ false → (first_of id rs ≡ None) × (one_of id rs ≡ None))
        → (b || has_row id rs) ≡ false → Unread (find (λ (x : Row). bytes_eq x.id id) (r ∷ rs))
    go true is rest none = absurd (true≢false none)
    go false is rest none = rw is (rest none)

-- an argument has no value, or its first value is as it is written, and it fits
pub maybe_read : (P : Fit) (id : Text) (rows : List Row) → HasValues P rows
    → ((first_of id rows ≡ None) × (one_of id rows ≡ None))
    ⊎ ((text : Text) × (first_of id rows ≡ Some text) × (one_of id rows ≡ Some text) × P id text)
maybe_read P id rows h = go (has_row id rows) refl
  where
    go : (b : Bool) → has_row id rows ≡ b → ((first_of id rows ≡ None) × (one_of id rows ≡ None))
        ⊎ ((text : Text) × (first_of id rows ≡ Some text) × (one_of id rows ≡ Some text) × P id text)
    go true is = inr (first_read P id rows is h)
    go false is = inl (none_read id rows is)
