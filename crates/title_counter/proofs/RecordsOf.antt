-- A record is read byte by byte, and the records of a text one after another.
use Rattle.std.proofs.Common.{◌≡◌, ◌<◌, ◌≤◌, ◌+◌, ◌∷◌, ◌++◌, ◌∙◌, [], refl, sym, ap, subst, ℕ, zero, suc, List, Option, None, Some}
use Rattle.std.{proofs.Common.{true, false, Bool, add-one, cond, drop, get_or, length, nat_eq, take}, specs.Cmp.Lexicographic.{pointwise}}
use Rattle.std.{specs.{Prelude.{◌==◌, ◌&&◌, is_some, option_map}, List.{list_any}}, proofs.lemmas.List.{drop_all, drop_more}}
use Rattle.csv.specs.{Machine.{Read, next_record, step, is_end, fields_after, field_after, ends_at_end}, declared.parser.Action.{Action}}
use Rattle.csv.specs.{Reading.{default_config, records, records_from, strip_bom}, declared.parser.State.{State}}
use Rattle.csv.specs.declared.parser.State.TheVariants as st
use Rattle.title_plan.specs.Plans.{rows_in}
use Rattle.title_counter.specs.{Founds.{found_among, has_line_feed}, Positions.{read_in}, declared.reading.Taken.{Taken}}
use Rattle.title_counter.specs.declared.found.Found.TheVariants as found

-- ---- a byte order mark

abbrev mark : List ℕ
mark = 0xEF ∷ 0xBB ∷ 0xBF ∷ []

same_test : (p q r : Bool) → (p && q && r) ≡ (p && (q && (r && true)))
same_test false q r = refl
same_test true false r = refl
same_test true true false = refl
same_test true true true = refl

never : (p : Bool) → (p && false) ≡ false
never false = refl
never true = refl

none_short : (p q : Bool) → (p && (q && false)) ≡ false
none_short false q = refl
none_short true false = refl
none_short true true = refl

strips : (xs : List ℕ) → strip_bom xs ≡ cond (pointwise nat_eq (take 3 xs) mark) (drop 3 xs) xs
unfolding strip_bom
strips [] = refl
strips (a ∷ []) = rw (never (a == 0xEF)) refl
strips (a ∷ b ∷ []) = rw (none_short (a == 0xEF) (b == 0xBB)) refl
strips (a ∷ b ∷ c ∷ xs) = rw (same_test (a == 0xEF) (b == 0xBB) (c == 0xBF)) refl

-- a text that begins with the mark is read behind it, and any other from its first byte on
pub marked : (xs : List ℕ) → pointwise nat_eq (take 3 xs) mark ≡ true → drop 3 xs ≡ strip_bom xs
marked xs e = rw (strips xs) (rw e refl)

pub unmarked : (xs : List ℕ) → pointwise nat_eq (take 3 xs) mark ≡ false → xs ≡ strip_bom xs
unmarked xs e = rw (strips xs) (rw e refl)

-- ---- one record

-- a byte does a to the fields and to the field at hand, and leaves the reading at t
module _ (s t : State) (a : Action) (fields fields2 : List (List ℕ)) (field field2 xs : List ℕ) (i : ℕ) (lt : i < length xs)
    (position : t ≡ (step default_config s (get_or xs i 0)).0) (act : a ≡ (step default_config s (get_or xs i 0)).1)
    (got : fields2 ≡ fields_after a fields field) where
  -- one that ends no record: the reading goes on behind it
  pub goes_on : is_end a ≡ false → field2 ≡ field_after a (get_or xs i 0) field
      → next_record default_config s fields field (drop i xs) ≡ next_record default_config t fields2 field2 (drop (i + 1) xs)
  unfolding next_record
  goes_on e at_hand =
      let no : is_end (step default_config s (get_or xs i 0)).1 ≡ false = rw act at e in
      rw (drop_more xs i 0 lt) (rw at_hand (rw got (rw position (rw act (rw no refl)))))

  -- one that ends a record
  pub ends_here : is_end a ≡ true
      → next_record default_config s fields field (drop i xs) ≡ Some (fields2, t, drop (i + 1) xs)
  unfolding next_record
  ends_here e =
      let yes : is_end (step default_config s (get_or xs i 0)).1 ≡ true = rw act at e in
      rw (drop_more xs i 0 lt) (rw got (rw position (rw act (rw yes refl))))

nothing_behind : (xs : List ℕ) → drop (length xs) xs ≡ []
nothing_behind [] = refl
nothing_behind (x ∷ xs) = nothing_behind xs

-- at the end of the text a record ends too, or there is none
module _ (s : State) (fields : List (List ℕ)) (field xs : List ℕ) (i : ℕ) (end : length xs ≤ i) where
  pub ends_at_last : (fields2 : List (List ℕ)) → ends_at_end s ≡ true → fields2 ≡ fields ++ field ∷ []
      → next_record default_config s fields field (drop i xs) ≡ Some (fields2, st.StartRecord, drop (length xs) xs)
  unfolding next_record
  ends_at_last fields2 e got = rw (drop_all i xs end) (rw (nothing_behind xs) (rw got (rw e refl)))

  pub none_at_last : ends_at_end s ≡ false → next_record default_config s fields field (drop i xs) ≡ None
  unfolding next_record
  none_at_last e = rw (drop_all i xs end) (rw e refl)

-- ---- all records

-- where no record is left, none comes
none_from : (count : ℕ) (s : State) (xs : List ℕ) → next_record default_config s [] [] xs ≡ None
    → records_from default_config count s xs ≡ []
unfolding records_from
none_from zero s xs e = refl
none_from (suc count) s xs e = rw e refl

no_records : (xs : List ℕ) → next_record default_config st.StartRecord [] [] xs ≡ None → records default_config xs ≡ []
no_records xs e = none_from (length xs + 1) st.StartRecord xs e

one_from : (count : ℕ) (s : State) (xs : List ℕ) (p : Read) → next_record default_config s [] [] xs ≡ Some p
    → records_from default_config (suc count) s xs ≡ p.0 ∷ records_from default_config count p.1 p.2
unfolding records_from
one_from count s xs p e = rw e refl

one_record : (xs : List ℕ) (p : Read) → next_record default_config st.StartRecord [] [] xs ≡ Some p
    → next_record default_config p.1 [] [] p.2 ≡ None → records default_config xs ≡ p.0 ∷ []
one_record xs p e none =
    let all = one_from (length xs) st.StartRecord xs p e in
    let rest = none_from (length xs) p.1 p.2 none in
    subst (λ (n : ℕ). records_from default_config n st.StartRecord xs ≡ p.0 ∷ []) (sym (add-one (length xs))) (rw (← rest) all)

nothing_in : next_record default_config st.StartRecord [] [] [] ≡ None
unfolding next_record
nothing_in = refl

-- a text without a byte has no record, so there is room to count a second one
two_records : (xs : List ℕ) (p q : Read) → next_record default_config st.StartRecord [] [] xs ≡ Some p
    → next_record default_config p.1 [] [] p.2 ≡ Some q → (more : List (List (List ℕ))) × (records default_config xs ≡ p.0 ∷ q.0 ∷ more)
two_records [] p q e f = absurd (let no : None ≡ Some p = sym nothing_in ∙ e in cc no)
two_records (x ∷ xs) p q e f =
    let all = one_from (suc (length xs)) st.StartRecord (x ∷ xs) p e in
    let next = one_from (length xs) p.1 p.2 q f in (
      records_from default_config (length xs) q.1 q.2,
      subst (λ (n : ℕ). records_from default_config n st.StartRecord (x ∷ xs) ≡ p.0 ∷ q.0 ∷ records_from default_config (length xs) q.1 q.2)
          (sym (add-one (length (x ∷ xs)))) (rw (← next) all),
    )

-- ---- what is found

none_among : (rows : List (List (List ℕ))) → rows ≡ [] → found.Blank ≡ found_among rows
none_among rows e = rw e refl

more_among : (rows more : List (List (List ℕ))) (fields next : List (List ℕ)) → rows ≡ fields ∷ next ∷ more
    → found.Spoilt ≡ found_among rows
more_among rows more fields next e = rw e refl

over_among : (rows : List (List (List ℕ))) (fields : List (List ℕ)) → rows ≡ fields ∷ [] → list_any has_line_feed fields ≡ true
    → found.Spoilt ≡ found_among rows
over_among rows fields e over = rw e (rw over refl)

row_among : (rows : List (List (List ℕ))) (fields : List (List ℕ)) → rows ≡ fields ∷ [] → list_any has_line_feed fields ≡ false
    → found.Row fields ≡ found_among rows
row_among rows fields e closed = rw e (rw closed refl)

same_rows : (text xs : List ℕ) → xs ≡ strip_bom text → rows_in text ≡ records default_config xs
same_rows text xs bare = ap (λ (l : List ℕ). records default_config l) (sym bare)

-- a text without its mark has no first record
module _ (text xs : List ℕ) (bare : xs ≡ strip_bom text) where
  pub found_none : None ≡ next_record default_config st.StartRecord [] [] xs → found.Blank ≡ found_among (rows_in text)
  found_none none = none_among (rows_in text) (same_rows text xs bare ∙ no_records xs (sym none))

-- it has a first record, and what is read behind it is known
module _ (text xs : List ℕ) (bare : xs ≡ strip_bom text)
    (p : Read) (first : Some p ≡ next_record default_config st.StartRecord [] [] xs) where
  pub found_more : (second : Option Taken) → option_map (read_in xs) second ≡ next_record default_config p.1 [] [] p.2
      → is_some second ≡ true → found.Spoilt ≡ found_among (rows_in text)
  found_more None next some = absurd (cc some)
  found_more (Some taken) next some =
      let (more, rows) = two_records xs p (read_in xs taken) (sym first) (sym next) in
      more_among (rows_in text) more p.0 (read_in xs taken).0 (same_rows text xs bare ∙ rows)

  alone : (second : Option Taken) → option_map (read_in xs) second ≡ next_record default_config p.1 [] [] p.2
      → is_some second ≡ false → rows_in text ≡ p.0 ∷ []
  alone None next none = same_rows text xs bare ∙ one_record xs p (sym first) (sym next)
  alone (Some taken) next none = absurd (cc none)

  pub found_over : (second : Option Taken) → option_map (read_in xs) second ≡ next_record default_config p.1 [] [] p.2
      → is_some second ≡ false → list_any has_line_feed p.0 ≡ true → found.Spoilt ≡ found_among (rows_in text)
  found_over second next none over = over_among (rows_in text) p.0 (alone second next none) over

  pub found_row : (second : Option Taken) → option_map (read_in xs) second ≡ next_record default_config p.1 [] [] p.2
      → is_some second ≡ false → list_any has_line_feed p.0 ≡ false → found.Row p.0 ≡ found_among (rows_in text)
  found_row second next none closed = row_among (rows_in text) p.0 (alone second next none) closed
