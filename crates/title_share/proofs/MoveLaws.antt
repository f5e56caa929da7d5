-- One walk over the rows makes those after a move.
use Rattle.std.proofs.Common.{◌≡◌, ◌<◌, ◌≤◌, ◌+◌, ◌-◌, ◌&&◌, ◌||◌, ◌++◌, ◌∙◌, ℕ, zero, suc, length, get_or, Bool, true, false, not}
use Rattle.std.proofs.Common.{cond, refl, sym, ap, eqb, leb, List, [], ◌∷◌, drop, append-nil, add-one, arith, inl, inr}
use Rattle.std.proofs.lemmas.Bool.{cond-false, or_from, le-leb, lt-leb, lt-ltb, le-ltb, eq-eqb, ne_eqb, cases_order, cases_eq}
use Rattle.std.proofs.{lemmas.List.{append_assoc}, Math.{ListN.{drop_of_length-le}, Seq.{drop-cons}}}
use Rattle.title_share.specs.{Rows.{units_in, total, in_order, with_front, with_units, moved_rows}, Laws.Cases.{case_eqb}}
use Rattle.title_share.specs.Laws.RowLaws.{row_fits, units_absent}

-- what a row has left
abbrev pub left_of : ℕ → ℕ → ℕ → ℕ × ℕ → ℕ
left_of from to n r = cond (eqb r.0 from) (r.1 - n) (cond (eqb r.0 to) 0 r.1)

-- the rows still to come in a walk, by whether the grantee has its row
abbrev pub walk : ℕ → ℕ → ℕ → Bool → List (ℕ × ℕ) → List (ℕ × ℕ)
walk from to n given [] = cond given [] ((to, n) ∷ [])
walk from to n given (r ∷ rs) =
    cond (not given && leb to r.0)
    ((to, cond (eqb r.0 to) r.1 0 + n) ∷ with_front r.0 (left_of from to n r) (walk from to n true rs))
    (with_front r.0 (left_of from to n r) (walk from to n given rs))

-- rows of later parties stay
walk_rest : (from to n least : ℕ) (rows : List (ℕ × ℕ)) → from < least → to < least → in_order least rows ≡ true →
    walk from to n true rows ≡ rows
walk_rest from to n least [] a b h = refl
walk_rest from to n least (r ∷ rs) a b h =
    let f = row_fits least r rs h in
    let party : least ≤ r.0 = f.party in
    let some : 0 < r.1 = f.units in
    rw (ne_eqb r.0 from (λ e. omega arith), ne_eqb r.0 to (λ e. omega arith), ne_eqb r.1 0 (λ e. omega arith))
    (ap (λ (x : List (ℕ × ℕ)). r ∷ x) (walk_rest from to n (suc r.0) rs (omega arith) (omega arith) f.rest))

-- a party's units are those of a later row
units_later : (p u : ℕ) (r : ℕ × ℕ) (rs : List (ℕ × ℕ)) → (r.0 ≡ p → ⊥) → u ≡ units_in p (r ∷ rs) → u ≡ units_in p rs
units_later p u r rs differs is = rw (ne_eqb r.0 p differs) at is

-- or those of the first
units_here : (p u : ℕ) (r : ℕ × ℕ) (rs : List (ℕ × ℕ)) → r.0 ≡ p → u ≡ units_in p (r ∷ rs) → u ≡ r.1
units_here p u r rs same is = rw (eq-eqb r.0 p same) at is

-- a party before all has none
units_before : (p u : ℕ) (r : ℕ × ℕ) (rs : List (ℕ × ℕ)) → p < r.0 → in_order (suc r.0) rs ≡ true → u ≡ units_in p (r ∷ rs) → u ≡ 0
units_before p u r rs low h is =
    units_later p u r rs (λ e. omega arith) is ∙ units_absent p (suc r.0) rs (omega arith) h

-- rows behind the grantee's lose the grantor's units
walk_given : (from to n least u : ℕ) (rows : List (ℕ × ℕ)) → to < least → 0 < n → n ≤ u → u ≡ units_in from rows →
    in_order least rows ≡ true →
    walk from to n true rows ≡ with_units from (u - n) rows
walk_given from to n least u [] b some enough is h = absurd (omega arith)
walk_given from to n least u (r ∷ rs) b some enough is h =
    let f = row_fits least r rs h in
    let party : least ≤ r.0 = f.party in
    let has : 0 < r.1 = f.units in
    let not_to : eqb r.0 to ≡ false = ne_eqb r.0 to (λ e. omega arith) in
    let kept : eqb r.1 0 ≡ false = ne_eqb r.1 0 (λ e. omega arith) in
    elim (cases_order r.0 from) [
      | inl same ↦ (let rest = walk_rest from to n (suc r.0) rs (omega arith) (omega arith) f.rest in
          rw (units_here from u r rs same is, eq-eqb r.0 from same, le-ltb r.0 from (omega arith), rest)
          (ap (λ (p : ℕ). with_front p (r.1 - n) rs) same))
      | inr other ↦ elim other [
        | inl below ↦ (let later = units_later from u r rs (λ e. omega arith) is in
            let rest = walk_given from to n (suc r.0) u rs (omega arith) some enough later f.rest in
            rw (ne_eqb r.0 from (λ e. omega arith), not_to, kept, lt-ltb r.0 from below) (ap (λ (x : List (ℕ × ℕ)). r ∷ x) rest))
        | inr above ↦ (let none = units_before from u r rs above f.rest is in absurd (omega arith))
      ]
    ]

-- rows behind the grantor's gain the grantee's units
walk_taken : (from to n least v : ℕ) (rows : List (ℕ × ℕ)) → from < least → 0 < n → v ≡ units_in to rows → in_order least rows ≡ true →
    walk from to n false rows ≡ with_units to (v + n) rows
walk_taken from to n least v [] a some is h =
    let all : v + n ≡ n = omega arith in
    rw (all, ne_eqb n 0 (λ e. omega arith)) refl
walk_taken from to n least v (r ∷ rs) a some is h =
    let f = row_fits least r rs h in
    let party : least ≤ r.0 = f.party in
    let has : 0 < r.1 = f.units in
    let not_from : eqb r.0 from ≡ false = ne_eqb r.0 from (λ e. omega arith) in
    let kept : eqb r.1 0 ≡ false = ne_eqb r.1 0 (λ e. omega arith) in
    let given : eqb (v + n) 0 ≡ false = ne_eqb (v + n) 0 (λ e. omega arith) in
    elim (cases_order r.0 to) [
      | inl same ↦ (let rest = walk_rest from to n (suc r.0) rs (omega arith) (omega arith) f.rest in
          let own = units_here to v r rs same is in
          rw (not_from, eq-eqb r.0 to same, le-leb to r.0 (omega arith), le-ltb r.0 to (omega arith), given, ← own)
          (ap (λ (x : List (ℕ × ℕ)). (to, v + n) ∷ x) rest))
      | inr other ↦ elim other [
        | inl below ↦ (let later = units_later to v r rs (λ e. omega arith) is in
            let rest = walk_taken from to n (suc r.0) v rs (omega arith) some later f.rest in
            rw (not_from, ne_eqb r.0 to (λ e. omega arith), kept, lt-leb to r.0 below, lt-ltb r.0 to below)
            (ap (λ (x : List (ℕ × ℕ)). r ∷ x) rest))
        | inr above ↦ (let none = units_before to v r rs above f.rest is in
            let all : 0 + n ≡ v + n = omega arith in
            let rest = walk_rest from to n (suc r.0) rs (omega arith) (omega arith) f.rest in
            rw (not_from, ne_eqb r.0 to (λ e. omega arith), kept, le-leb to r.0 (omega arith), le-ltb r.0 to (omega arith), given, all)
            (ap (λ (x : List (ℕ × ℕ)). (to, v + n) ∷ r ∷ x) rest))
      ]
    ]

-- a row put in front of later ones
set_front : (p n least : ℕ) (rows : List (ℕ × ℕ)) → p < least → in_order least rows ≡ true → with_units p n rows ≡ with_front p n rows
set_front p n least [] low h = refl
set_front p n least (r ∷ rs) low h =
    let party : least ≤ r.0 = (row_fits least r rs h).party in
    rw (le-ltb r.0 p (omega arith), ne_eqb r.0 p (λ e. omega arith)) refl

-- the grantor's row, and those behind it, in the walk
walk_from : (from to n v : ℕ) (r : ℕ × ℕ) (rs : List (ℕ × ℕ)) → r.0 ≡ from → (from ≡ to → ⊥) → 0 < n → v ≡ units_in to rs →
    in_order (suc r.0) rs ≡ true →
    walk from to n false (r ∷ rs) ≡ with_units to (v + n) (with_front from (r.1 - n) rs)
walk_from from to n v r rs same apart some is h =
    let given : eqb (v + n) 0 ≡ false = ne_eqb (v + n) 0 (λ e. omega arith) in
    elim (cases_order from to) [
      | inl e ↦ absurd (apart e)
      | inr other ↦ elim other [
        | inl below ↦ rw (eq-eqb r.0 from same, lt-leb to r.0 (omega arith), walk_taken from to n (suc r.0) v rs (omega arith) some is h)
            (elim (cases_eq (r.1 - n) 0) [
              | inl none ↦ rw (eq-eqb (r.1 - n) 0 none) refl
              | inr left ↦ rw (ne_eqb (r.1 - n) 0 left, lt-ltb from to below) (ap (λ (p : ℕ). (p, r.1 - n) ∷ with_units to (v + n) rs) same)
            ])
        | inr above ↦ (let none : v ≡ 0 = is ∙ units_absent to (suc r.0) rs (omega arith) h in
            let all : 0 + n ≡ v + n = omega arith in
            let rest = walk_rest from to n (suc r.0) rs (omega arith) (omega arith) h in
            rw (eq-eqb r.0 from same, le-leb to r.0 (omega arith), ne_eqb r.0 to (λ e. omega arith), rest, all)
            (elim (cases_eq (r.1 - n) 0) [
              | inl gone ↦ rw (eq-eqb (r.1 - n) 0 gone, set_front to (v + n) (suc r.0) rs (omega arith) h, given) refl
              | inr left ↦ rw (ne_eqb (r.1 - n) 0 left, le-ltb from to (omega arith), ne_eqb from to apart, given)
                  (ap (λ (p : ℕ). (to, v + n) ∷ (p, r.1 - n) ∷ rs) same)
            ]))
      ]
    ]

-- a row before the grantor's, in the walk
walk_before : (from to n u v : ℕ) (r : ℕ × ℕ) (rs : List (ℕ × ℕ)) → r.0 < from → 0 < r.1 → 0 < n → n ≤ u → u ≡ units_in from rs →
    v ≡ units_in to (r ∷ rs) → in_order (suc r.0) rs ≡ true →
    ((r.0 ≡ to → ⊥) → walk from to n false rs ≡ with_units to (v + n) (with_units from (u - n) rs)) →
    walk from to n false (r ∷ rs) ≡ with_units to (v + n) (r ∷ with_units from (u - n) rs)
walk_before from to n u v r rs before has some enough has_from has_to h rest =
    let not_from : eqb r.0 from ≡ false = ne_eqb r.0 from (λ e. omega arith) in
    let kept : eqb r.1 0 ≡ false = ne_eqb r.1 0 (λ e. omega arith) in
    let given : eqb (v + n) 0 ≡ false = ne_eqb (v + n) 0 (λ e. omega arith) in
    elim (cases_order r.0 to) [
      | inl same ↦ (let later = walk_given from to n (suc r.0) u rs (omega arith) some enough has_from h in
          let own = units_here to v r rs same has_to in
          rw (not_from, eq-eqb r.0 to same, le-leb to r.0 (omega arith), le-ltb r.0 to (omega arith), given, ← own)
          (ap (λ (x : List (ℕ × ℕ)). (to, v + n) ∷ x) later))
      | inr other ↦ elim other [
        | inl below ↦ rw (not_from, ne_eqb r.0 to (λ e. omega arith), kept, lt-leb to r.0 below, lt-ltb r.0 to below)
            (ap (λ (x : List (ℕ × ℕ)). r ∷ x) (rest (λ e. omega arith)))
        | inr above ↦ (let none = units_before to v r rs above h has_to in
            let all : 0 + n ≡ v + n = omega arith in
            let later = walk_given from to n (suc r.0) u rs (omega arith) some enough has_from h in
            rw (not_from, ne_eqb r.0 to (λ e. omega arith), kept, le-leb to r.0 (omega arith), le-ltb r.0 to (omega arith), given, all)
            (ap (λ (x : List (ℕ × ℕ)). (to, v + n) ∷ r ∷ x) later))
      ]
    ]

-- the walk makes the rows after a move
pub walk_is : (from to n least u v : ℕ) (rows : List (ℕ × ℕ)) → (from ≡ to → ⊥) → 0 < n → n ≤ u → u ≡ units_in from rows →
    v ≡ units_in to rows → in_order least rows ≡ true →
    walk from to n false rows ≡ with_units to (v + n) (with_units from (u - n) rows)
walk_is from to n least u v [] apart some enough has_from has_to h = absurd (omega arith)
walk_is from to n least u v (r ∷ rs) apart some enough has_from has_to h =
    let f = row_fits least r rs h in
    let has : 0 < r.1 = f.units in
    elim (cases_order r.0 from) [
      | inl same ↦ (let front : with_units from (u - n) (r ∷ rs) ≡ with_front from (r.1 - n) rs =
          rw (units_here from u r rs same has_from, eq-eqb r.0 from same, le-ltb r.0 from (omega arith)) refl in
          let later = units_later to v r rs (λ e. apart (sym same ∙ e)) has_to in
          walk_from from to n v r rs same apart some later f.rest ∙ ap (with_units to (v + n)) (sym front))
      | inr other ↦ elim other [
        | inl below ↦ (let later = units_later from u r rs (λ e. omega arith) has_from in
            rw (lt-ltb r.0 from below)
            (walk_before from to n u v r rs below has some enough later has_to f.rest
            (λ differs. walk_is from to n (suc r.0) u v rs apart some enough later (units_later to v r rs differs has_to) f.rest)))
        | inr above ↦ (let none = units_before from u r rs above f.rest has_from in absurd (omega arith))
      ]
    ]

-- a row in front, as a list of its own
front_split : (p n : ℕ) (rows : List (ℕ × ℕ)) → with_front p n rows ≡ with_front p n [] ++ rows
front_split p n rows = case_eqb (λ b. cond b rows ((p, n) ∷ rows) ≡ cond b [] ((p, n) ∷ []) ++ rows) n 0 (λ _. refl) (λ _. refl)

-- what the grantee's row has, where it comes before a row or is it
abbrev pub gained_of : ℕ → ℕ → Bool → ℕ × ℕ → ℕ
gained_of to n given r = cond (not given && leb to r.0) (cond (eqb r.0 to) r.1 0 + n) 0

-- a step of the walk: at most two rows
pub walk_step : (from to n : ℕ) (given : Bool) (r : ℕ × ℕ) (rs : List (ℕ × ℕ)) → 0 < n →
    walk from to n given (r ∷ rs) ≡ with_front to (gained_of to n given r) [] ++
    (with_front r.0 (left_of from to n r) [] ++ walk from to n (given || leb to r.0) rs)
walk_step from to n given r rs some = go given (leb to r.0)
  where
    go : (g t : Bool) →
        cond (not g && t) ((to, cond (eqb r.0 to) r.1 0 + n) ∷ with_front r.0 (left_of from to n r) (walk from to n true rs))
        (with_front r.0 (left_of from to n r) (walk from to n g rs))
        ≡ with_front to (cond (not g && t) (cond (eqb r.0 to) r.1 0 + n) 0) [] ++
        (with_front r.0 (left_of from to n r) [] ++ walk from to n (g || t) rs)
    go true t = front_split r.0 (left_of from to n r) (walk from to n true rs)
    go false true =
        rw (ne_eqb (cond (eqb r.0 to) r.1 0 + n) 0 (λ e. omega arith))
        (ap (λ (x : List (ℕ × ℕ)). (to, cond (eqb r.0 to) r.1 0 + n) ∷ x) (front_split r.0 (left_of from to n r) (walk from to n true rs)))
    go false false = front_split r.0 (left_of from to n r) (walk from to n false rs)

-- the same at an index of the rows
pub walk_on : (from to n : ℕ) (given : Bool) (rows done mid end all : List (ℕ × ℕ)) (i : ℕ) (d : ℕ × ℕ) → 0 < n → i < length rows →
    mid ≡ done ++ with_front to (gained_of to n given (get_or rows i d)) [] →
    end ≡ mid ++ with_front (get_or rows i d).0 (left_of from to n (get_or rows i d)) [] →
    done ++ walk from to n given (drop i rows) ≡ all →
    end ++ walk from to n (given || leb to (get_or rows i d).0) (drop (i + 1) rows) ≡ all
walk_on from to n given rows done mid end all i d some low m e h =
    let r = get_or rows i d in
    let one = with_front to (gained_of to n given r) [] in
    let two = with_front r.0 (left_of from to n r) [] in
    let rest = walk from to n (given || leb to r.0) (drop (suc i) rows) in
    ap (λ (j : ℕ). end ++ walk from to n (given || leb to r.0) (drop j rows)) (add-one i)
    ∙ ap (λ (x : List (ℕ × ℕ)). x ++ rest) (e ∙ ap (λ (x : List (ℕ × ℕ)). x ++ two) m)
    ∙ append_assoc (done ++ one) two rest
    ∙ append_assoc done one (two ++ rest)
    ∙ ap (λ (x : List (ℕ × ℕ)). done ++ x)
    (sym (walk_step from to n given r (drop (suc i) rows) some) ∙ ap (walk from to n given) (sym (drop-cons rows i d low)))
    ∙ h

-- no row's party is before the least
later_row : (least : ℕ) (rows : List (ℕ × ℕ)) (i : ℕ) (d : ℕ × ℕ) → in_order least rows ≡ true → i < length rows →
    least ≤ (get_or rows i d).0
later_row least [] i d h low = absurd (omega arith)
later_row least (r ∷ rs) zero d h low = (row_fits least r rs h).party
later_row least (r ∷ rs) (suc i) d h low =
    let f = row_fits least r rs h in
    let party : least ≤ r.0 = f.party in
    let rest = later_row (suc r.0) rs i d f.rest (omega arith) in
    omega arith

-- a row in order has its party's units
pub units_there : (p least : ℕ) (rows : List (ℕ × ℕ)) (i : ℕ) (d : ℕ × ℕ) → in_order least rows ≡ true → i < length rows →
    (get_or rows i d).0 ≡ p → units_in p rows ≡ (get_or rows i d).1
units_there p least [] i d h low e = absurd (omega arith)
units_there p least (r ∷ rs) zero d h low e = rw (eq-eqb r.0 p e) refl
units_there p least (r ∷ rs) (suc i) d h low e =
    let f = row_fits least r rs h in
    let there : units_in p rs ≡ (get_or rs i d).1 = units_there p (suc r.0) rs i d f.rest (omega arith) e in
    let later = later_row (suc r.0) rs i d f.rest (omega arith) in
    rw (ne_eqb r.0 p (λ same. omega arith)) there

-- no row has more than all
pub each_within : (rows : List (ℕ × ℕ)) (i : ℕ) (d : ℕ × ℕ) → i < length rows → (get_or rows i d).1 ≤ total rows
each_within [] i d low = absurd (omega arith)
each_within (r ∷ rs) zero d low = omega arith
each_within (r ∷ rs) (suc i) d low = let rest = each_within rs i d (omega arith) in omega arith

-- at the end of the rows the grantee has its row, or is given one
walk_ends : (from to n : ℕ) (given : Bool) (rows done all : List (ℕ × ℕ)) (i : ℕ) → length rows ≤ i →
    done ++ walk from to n given (drop i rows) ≡ all →
    done ++ cond given [] ((to, n) ∷ []) ≡ all
walk_ends from to n given rows done all i low h =
    ap (λ (xs : List (ℕ × ℕ)). done ++ walk from to n given xs) (sym (drop_of_length-le rows low)) ∙ h

-- there it is given one
pub walk_gives : (from to n : ℕ) (given : Bool) (rows done end all : List (ℕ × ℕ)) (i : ℕ) → 0 < n → length rows ≤ i → given ≡ false →
    end ≡ done ++ with_front to n [] →
    done ++ walk from to n given (drop i rows) ≡ all → end ≡ all
walk_gives from to n given rows done end all i some low g e h =
    let last : with_front to n [] ≡ cond given [] ((to, n) ∷ []) = rw (ne_eqb n 0 (λ z. omega arith), g) refl in
    e ∙ ap (λ (x : List (ℕ × ℕ)). done ++ x) last ∙ walk_ends from to n given rows done all i low h

-- there it has one
pub walk_gave : (from to n : ℕ) (given : Bool) (rows done all : List (ℕ × ℕ)) (i : ℕ) → length rows ≤ i → given ≡ true →
    done ++ walk from to n given (drop i rows) ≡ all → done ≡ all
walk_gave from to n given rows done all i low g h =
    let none : [] ≡ cond given [] ((to, n) ∷ []) = rw g refl in
    sym (append-nil done) ∙ ap (λ (x : List (ℕ × ℕ)). done ++ x) none ∙ walk_ends from to n given rows done all i low h

-- the whole walk is the move
pub walk_moves : (from to n : ℕ) (rows : List (ℕ × ℕ)) → (from ≡ to → ⊥) → 0 < n → n ≤ units_in from rows → in_order 0 rows ≡ true →
    walk from to n false rows ≡ moved_rows from to n rows
walk_moves from to n rows apart some enough h =
    let none = ne_eqb n 0 (λ e. omega arith) in
    let other = ne_eqb from to apart in
    walk_is from to n 0 (units_in from rows) (units_in to rows) rows apart some enough refl refl h
    ∙ sym (cond-false (eqb n 0 || eqb from to) _ _ (or_from (eqb n 0) (eqb from to) none other))
