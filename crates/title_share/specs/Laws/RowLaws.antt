-- Laws of rows.
use Rattle.std.proofs.Common.{◌≡◌, ◌<◌, ◌≤◌, ◌+◌, ℕ, suc, true, cond, refl, sym, ap, ◌∙◌, subst, eqb, List, [], ◌∷◌, arith, inl, inr}
use Rattle.std.proofs.lemmas.Bool.{and_parts, and_from, le-leb, leb-true, lt-ltb, ltb-true, eq-eqb, ne_eqb, cases_order, cases_eq}
use Rattle.title_share.specs.{Rows.{units_in, total, in_order, with_front, with_units}, Laws.Cases.{case_ltb, case_eqb}}

-- what it is for a first row to fit the order
pub record RowFits (least : ℕ) (r : ℕ × ℕ) (rs : List (ℕ × ℕ)) : Type 0 where
  pub party : least ≤ r.0
  pub units : 0 < r.1
  pub rest : in_order (suc r.0) rs ≡ true

-- what the test of order says of a first row
pub row_fits : (least : ℕ) (r : ℕ × ℕ) (rs : List (ℕ × ℕ)) → in_order least (r ∷ rs) ≡ true → RowFits least r rs
row_fits least r rs h =
    let outer = and_parts _ _ h in
    let inner = and_parts _ _ outer.1 in
    record { party = leb-true least r.0 outer.0; units = ltb-true 0 r.1 inner.0; rest = inner.1 }

-- and the other way round
pub fits_row : (least : ℕ) (r : ℕ × ℕ) (rs : List (ℕ × ℕ)) → RowFits least r rs → in_order least (r ∷ rs) ≡ true
fits_row least r rs f = and_from _ _ (le-leb least r.0 f.party) (and_from _ _ (lt-ltb 0 r.1 f.units) f.rest)

-- rows in order from b on are in order from each a below
pub order_lower : (a b : ℕ) (rows : List (ℕ × ℕ)) → a ≤ b → in_order b rows ≡ true → in_order a rows ≡ true
order_lower a b [] low h = refl
order_lower a b (r ∷ rs) low h =
    let f = row_fits b r rs h in
    let party : b ≤ r.0 = f.party in
    fits_row a r rs (record { party = omega arith; units = f.units; rest = f.rest })

-- a party below all has nothing
pub units_absent : (p least : ℕ) (rows : List (ℕ × ℕ)) → p < least → in_order least rows ≡ true → units_in p rows ≡ 0
units_absent p least [] low h = refl
units_absent p least (r ∷ rs) low h =
    let f = row_fits least r rs h in
    let party : least ≤ r.0 = f.party in
    case_eqb (λ b. cond b r.1 (units_in p rs) ≡ 0) r.0 p (λ same. absurd (omega arith))
    (λ other. units_absent p (suc r.0) rs (omega arith) f.rest)

-- a party has no more than all
pub units_within : (p : ℕ) (rows : List (ℕ × ℕ)) → units_in p rows ≤ total rows
units_within p [] = omega arith
units_within p (r ∷ rs) =
    let rest = units_within p rs in
    case_eqb (λ b. cond b r.1 (units_in p rs) ≤ r.1 + total rs) r.0 p (λ _. omega arith) (λ _. omega arith)

-- a row in front keeps the order
order_front : (p n least : ℕ) (rs : List (ℕ × ℕ)) → least ≤ p → in_order (suc p) rs ≡ true → in_order least (with_front p n rs) ≡ true
order_front p n least rs low h =
    case_eqb (λ b. in_order least (cond b rs ((p, n) ∷ rs)) ≡ true) n 0
    (λ _. order_lower least (suc p) rs (omega arith) h)
    (λ some. fits_row least (p, n) rs (record { party = low; units = omega arith; rest = h }))

-- a party's row set keeps the order
pub order_with : (p n least : ℕ) (rows : List (ℕ × ℕ)) → least ≤ p → in_order least rows ≡ true
    → in_order least (with_units p n rows) ≡ true
order_with p n least [] low h = order_front p n least [] low refl
order_with p n least (r ∷ rs) low h =
    let f = row_fits least r rs h in
    case_ltb (λ b. in_order least (cond b (r ∷ with_units p n rs) (cond (eqb r.0 p) (with_front p n rs) (with_front p n (r ∷ rs)))) ≡ true)
    r.0 p
    (λ below. fits_row least r (with_units p n rs) (record
    { party = f.party; units = f.units; rest = order_with p n (suc r.0) rs (omega arith) f.rest }))
    (λ above. case_eqb (λ b. in_order least (cond b (with_front p n rs) (with_front p n (r ∷ rs))) ≡ true) r.0 p
    (λ same. order_front p n least rs low (subst (λ (x : ℕ). in_order (suc x) rs ≡ true) same f.rest))
    (λ other. order_front p n least (r ∷ rs) low (fits_row (suc p) r rs (record { party = omega arith; units = f.units; rest = f.rest }))))

-- all units with a row in front
total_front : (p n : ℕ) (rs : List (ℕ × ℕ)) → total (with_front p n rs) ≡ n + total rs
total_front p n rs = case_eqb (λ b. total (cond b rs ((p, n) ∷ rs)) ≡ n + total rs) n 0 (λ none. omega arith) (λ _. refl)

-- all units with a party's row set
pub total_with : (p n least : ℕ) (rows : List (ℕ × ℕ)) → in_order least rows ≡ true
    → total (with_units p n rows) + units_in p rows ≡ total rows + n
total_with p n least [] h = let e = total_front p n [] in omega arith
total_with p n least (r ∷ rs) h =
    let f = row_fits least r rs h in
    case_ltb (λ b. total (cond b (r ∷ with_units p n rs) (cond (eqb r.0 p) (with_front p n rs) (with_front p n (r ∷ rs)))) + cond
    (eqb r.0 p) r.1 (units_in p rs) ≡ r.1 + total rs + n) r.0 p
    (λ below. let rest = total_with p n (suc r.0) rs f.rest in
    rw (ne_eqb r.0 p (λ same. omega arith)) (omega arith))
    (λ above. case_eqb (λ b. total (cond b (with_front p n rs) (with_front p n (r ∷ rs))) + cond b r.1 (units_in p rs) ≡ r.1 + total rs + n)
    r.0 p
    (λ same. let e = total_front p n rs in omega arith)
    (λ other. let e = total_front p n (r ∷ rs) in
    let none : units_in p rs ≡ 0 = units_absent p (suc r.0) rs (omega arith) f.rest in
    omega arith))

-- a party's units with a row in front
units_front : (q p n : ℕ) (rs : List (ℕ × ℕ)) → units_in p rs ≡ 0 → units_in q (with_front p n rs) ≡ cond (eqb p q) n (units_in q rs)
units_front q p n rs none =
    case_eqb (λ b. units_in q (cond b rs ((p, n) ∷ rs)) ≡ cond (eqb p q) n (units_in q rs)) n 0
    (λ zero_is. case_eqb (λ b. units_in q rs ≡ cond b n (units_in q rs)) p q
    (λ same. ap (λ (x : ℕ). units_in x rs) (sym same) ∙ none ∙ sym zero_is) (λ _. refl))
    (λ _. refl)

-- a party's units with a row set
pub units_with : (q p n least : ℕ) (rows : List (ℕ × ℕ)) → in_order least rows ≡ true
    → units_in q (with_units p n rows) ≡ cond (eqb p q) n (units_in q rows)
units_with q p n least [] h = units_front q p n [] refl
units_with q p n least (r ∷ rs) h =
    let f = row_fits least r rs h in
    case_ltb (λ b. units_in q (cond b (r ∷ with_units p n rs) (cond (eqb r.0 p) (with_front p n rs) (with_front p n (r ∷ rs))))
    ≡ cond (eqb p q) n (cond (eqb r.0 q) r.1 (units_in q rs))) r.0 p
    (λ below. case_eqb (λ b. cond b r.1 (units_in q (with_units p n rs)) ≡ cond (eqb p q) n (cond b r.1 (units_in q rs))) r.0 q
    (λ here. rw (ne_eqb p q (λ same. omega arith)) refl)
    (λ there. units_with q p n (suc r.0) rs f.rest))
    (λ above. case_eqb (λ b. units_in q (cond b (with_front p n rs) (with_front p n (r ∷ rs)))
    ≡ cond (eqb p q) n (cond (eqb r.0 q) r.1 (units_in q rs))) r.0 p
    (λ same. units_front q p n rs (units_absent p (suc r.0) rs (omega arith) f.rest)
    ∙ case_eqb (λ b. cond b n (units_in q rs) ≡ cond b n (cond (eqb r.0 q) r.1 (units_in q rs))) p q (λ _. refl)
    (λ differs. rw (ne_eqb r.0 q (λ e. differs (sym same ∙ e))) refl))
    (λ other. units_front q p n (r ∷ rs) (units_absent p (suc p) (r ∷ rs) (omega arith)
    (fits_row (suc p) r rs (record { party = omega arith; units = f.units; rest = f.rest })))))

-- rows in order are told apart by what each party has
first_units : (r : ℕ × ℕ) (rs : List (ℕ × ℕ)) → units_in r.0 (r ∷ rs) ≡ r.1
first_units r rs = rw (eq-eqb r.0 r.0 refl) refl

-- a party before the first has nothing
later_first : (x : ℕ × ℕ) (y : ℕ × ℕ) (ys : List (ℕ × ℕ)) → x.0 < y.0 → in_order (suc y.0) ys ≡ true → units_in x.0 (y ∷ ys) ≡ 0
later_first x y ys low k = rw (ne_eqb y.0 x.0 (λ same. omega arith)) (units_absent x.0 (suc y.0) ys (omega arith) k)

-- where each party has the same, the first rows are of one party
first_party : (x : ℕ × ℕ) (xs : List (ℕ × ℕ)) (y : ℕ × ℕ) (ys : List (ℕ × ℕ)) → 0 < x.1 → 0 < y.1 → in_order (suc x.0) xs ≡ true
    → in_order (suc y.0) ys ≡ true
    → ((q : ℕ) → units_in q (x ∷ xs) ≡ units_in q (y ∷ ys)) → x.0 ≡ y.0
first_party x xs y ys some more h k same =
    elim (cases_order x.0 y.0) [
      | inl e ↦ e
      | inr other ↦ elim other [
        | inl low ↦ (let e : x.1 ≡ 0 = sym (first_units x xs) ∙ same x.0 ∙ later_first x y ys low k in absurd (omega arith))
        | inr high ↦ (let e : 0 ≡ y.1 = sym (later_first y x xs high h) ∙ same y.0 ∙ first_units y ys in absurd (omega arith))
      ]
    ]

-- and the other rows tell each party the same
rest_same : (x : ℕ × ℕ) (xs : List (ℕ × ℕ)) (y : ℕ × ℕ) (ys : List (ℕ × ℕ)) → x.0 ≡ y.0 → in_order (suc x.0) xs ≡ true
    → in_order (suc y.0) ys ≡ true
    → ((q : ℕ) → units_in q (x ∷ xs) ≡ units_in q (y ∷ ys)) → (q : ℕ) → units_in q xs ≡ units_in q ys
rest_same x xs y ys party h k same q =
    elim (cases_eq x.0 q) [
      | inl e ↦ units_absent q (suc x.0) xs (omega arith) h ∙ sym (units_absent q (suc y.0) ys (omega arith) k)
      | inr ne ↦ (let left : units_in q (x ∷ xs) ≡ units_in q xs = rw (ne_eqb x.0 q ne) refl in
          let right : units_in q (y ∷ ys) ≡ units_in q ys = rw (ne_eqb y.0 q (λ s. ne (party ∙ s))) refl in
          sym left ∙ same q ∙ right)
    ]

-- rows in order in which each party has the same are equal
pub rows_same : (a b : ℕ) (xs ys : List (ℕ × ℕ)) → in_order a xs ≡ true → in_order b ys ≡ true → ((q : ℕ) → units_in q xs ≡ units_in q ys)
    → xs ≡ ys
rows_same a b [] [] h k same = refl
rows_same a b [] (y ∷ ys) h k same =
    let f = (row_fits b y ys k).units in
    let e : 0 ≡ y.1 = same y.0 ∙ first_units y ys in
    absurd (omega arith)
rows_same a b (x ∷ xs) [] h k same =
    let f = (row_fits a x xs h).units in
    let e : x.1 ≡ 0 = sym (first_units x xs) ∙ same x.0 in
    absurd (omega arith)
rows_same a b (x ∷ xs) (y ∷ ys) h k same =
    let f = row_fits a x xs h in
    let g = row_fits b y ys k in
    let party : x.0 ≡ y.0 = first_party x xs y ys f.units g.units f.rest g.rest same in
    let units : x.1 ≡ y.1 = sym (first_units x xs) ∙ same x.0 ∙ ap (λ (q : ℕ). units_in q (y ∷ ys)) party ∙ first_units y ys in
    let rest : xs ≡ ys = rows_same (suc x.0) (suc y.0) xs ys f.rest g.rest (λ q. rest_same x xs y ys party f.rest g.rest same q) in
    λ i. (party i, units i) ∷ rest i
