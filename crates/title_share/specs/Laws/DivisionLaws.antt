-- Laws of divisions.
use Rattle.std.proofs.Common.{◌≡◌, ◌↔◌, ◌≤◌, ◌+◌, ◌-◌, ◌∙◌, ◌||◌, ℕ, Bool, true, false, cond, refl, sym, ap, subst, eqb, List, [], ◌∷◌}
use Rattle.std.proofs.{Common.{arith}, lemmas.Bool.Decides.{nat_tests}}
use Rattle.std.proofs.lemmas.Bool.{and_parts, and_from, eqb-true, eq-eqb, ne_eqb, or_parts, eqb-false, cond-false, cond-true}
use Rattle.title_share.specs.Rows.{units_in, total, in_order, is_division, with_units, moved_rows, whole_units}
use Rattle.title_share.specs.Division.{Division, rows_of, rows_divide, same_rows, all_to, checked, division_or, division_of, units_of}
use Rattle.title_share.specs.{Division.{units_after, moved}, Laws.RowLaws.{order_with, total_with, units_with, units_within, rows_same}}

-- the rows of the division in which a party has the whole
pub rows-all_to : (party : ℕ) → rows_of (all_to party) ≡ (party, whole_units) ∷ []
unfolding rows_of all_to
rows-all_to party = refl

-- what each party has where one has the whole
pub units-all_to : (q party : ℕ) → units_of q (all_to party) ≡ cond (eqb party q) whole_units 0
units-all_to q party = ap (units_in q) (rows-all_to party)

-- rows that pass the test are those of the division
rows-checked : (rows : List (ℕ × ℕ)) (b : Bool) (e : is_division rows ≡ b) (other : Division) → b ≡ true
    → rows_of (checked rows b e other) ≡ rows
unfolding rows_of checked
rows-checked rows true e other h = refl
rows-checked rows false e other h = absurd (cc)

-- rows that divide the whole are those of their division
pub rows-division_or : (other : Division) (rows : List (ℕ × ℕ)) → is_division rows ≡ true → rows_of (division_or other rows) ≡ rows
unfolding division_or
rows-division_or other rows h = rows-checked rows _ refl other h

-- what it is to divide the whole
pub record Divides (rows : List (ℕ × ℕ)) : Type 0 where
  pub ordered : in_order 0 rows ≡ true
  pub sum : total rows ≡ whole_units

-- what the test of a division says
pub divides : (rows : List (ℕ × ℕ)) → is_division rows ≡ true → Divides rows
divides rows h = let parts = and_parts _ _ h in record { ordered = parts.0; sum = eqb-true _ _ parts.1 }

-- and the other way round
pub divides_from : (rows : List (ℕ × ℕ)) → Divides rows → is_division rows ≡ true
divides_from rows d = and_from _ _ d.ordered (eq-eqb _ _ d.sum)

-- rows of a division are those of that division alone
pub division_is : (d : Division) (rows : List (ℕ × ℕ)) → rows ≡ rows_of d → division_of rows ≡ d
division_is d rows e =
    let h : is_division rows ≡ true = subst (λ (x : List (ℕ × ℕ)). is_division x ≡ true) (sym e) (rows_divide d) in
    same_rows _ _ (rows-division_or _ rows h ∙ e)

-- a division's rows are in order
pub ordered_rows : (d : Division) → in_order 0 (rows_of d) ≡ true
ordered_rows d = (divides (rows_of d) (rows_divide d)).ordered

-- no party has more than the whole
pub units_bound : (party : ℕ) (d : Division) → units_of party d ≤ whole_units
units_bound party d = subst (λ (n : ℕ). units_of party d ≤ n) (divides (rows_of d) (rows_divide d)).sum (units_within party (rows_of d))

-- both parts of a move
both_moves : (from to n : ℕ) (rows : List (ℕ × ℕ)) → Divides rows → n ≤ units_in from rows → (from ≡ to → ⊥) →
    Divides (with_units to (units_in to rows + n) (with_units from (units_in from rows - n) rows))
both_moves from to n rows d enough apart =
    let lower : in_order 0 (with_units from (units_in from rows - n) rows) ≡ true =
    order_with from (units_in from rows - n) 0 rows (omega arith) d.ordered in
    let taken = total_with from (units_in from rows - n) 0 rows d.ordered in
    let added = total_with to (units_in to rows + n) 0 (with_units from (units_in from rows - n) rows) lower in
    let stays : units_in to (with_units from (units_in from rows - n) rows) ≡ units_in to rows =
    units_with to from (units_in from rows - n) 0 rows d.ordered ∙ cond-false (eqb from to) _ _ (ne_eqb from to apart) in
    let sum = d.sum in
    record {
      ordered = order_with to (units_in to rows + n) 0 (with_units from (units_in from rows - n) rows) (omega arith) lower;
      sum = omega arith;
    }

-- rows after a move divide the whole
pub moved_divides : (from to n : ℕ) (rows : List (ℕ × ℕ)) → is_division rows ≡ true → n ≤ units_in from rows
    → is_division (moved_rows from to n rows) ≡ true
moved_divides from to n rows h enough = go (eqb n 0 || eqb from to) refl
  where
    go : (b : Bool) → (eqb n 0 || eqb from to) ≡ b → is_division
        (cond b rows (with_units to (units_in to rows + n) (with_units from (units_in from rows - n) rows))) ≡ true
    go true e = h
    go false e = divides_from _ (both_moves from to n rows (divides rows h) enough (eqb-false from to (or_parts _ _ e).1))

-- the rows of a division after a move
pub rows-moved : (from to n : ℕ) (d : Division) → n ≤ units_of from d → rows_of (moved from to n d) ≡ moved_rows from to n (rows_of d)
rows-moved from to n d enough = rows-division_or d _ (moved_divides from to n (rows_of d) (rows_divide d) enough)

-- what the view of rows is
pub viewed_rows : (rows : List (ℕ × ℕ)) (d : Division) → is_division rows ≡ true → division_of rows ≡ d → rows_of d ≡ rows
viewed_rows rows d h e = ap rows_of (sym e) ∙ rows-division_or _ rows h

-- a move of 0 units, or to the same party, changes nothing
pub moved_none : (from to n : ℕ) (d : Division) → (eqb n 0 || eqb from to) ≡ true → moved from to n d ≡ d
moved_none from to n d e =
    let same : moved_rows from to n (rows_of d) ≡ rows_of d = cond-true _ _ _ e in
    same_rows _ _ (rows-division_or d _ (subst (λ (x : List (ℕ × ℕ)). is_division x ≡ true) (sym same) (rows_divide d)) ∙ same)

-- rows after a move are those of the division after it
pub moved_is : (from to n : ℕ) (d : Division) (start rows : List (ℕ × ℕ)) → n ≤ units_of from d → rows_of d ≡ start
    → rows ≡ moved_rows from to n start →
    (division_of rows ≡ moved from to n d) × (is_division rows ≡ true)
moved_is from to n d start rows enough s e =
    let all : rows ≡ rows_of (moved from to n d) = e ∙ ap (moved_rows from to n) (sym s) ∙ sym (rows-moved from to n d enough) in
    (division_is _ rows all, subst (λ (x : List (ℕ × ℕ)). is_division x ≡ true) (sym all) (rows_divide (moved from to n d)))

-- the two rows that a move sets, in the words of `units_after`
in_units : (from to n q : ℕ) (had : ℕ → ℕ) →
    cond (eqb n 0 || eqb from to) (had q) (cond (eqb to q) (had to + n) (cond (eqb from q) (had from - n) (had q)))
    ≡ units_after from to n had q
in_units from to n q had = grind (arith, nat_tests)

-- a party's units in one of two lists of rows
units_either : (b : Bool) (q : ℕ) (xs ys : List (ℕ × ℕ)) → units_in q (cond b xs ys) ≡ cond b (units_in q xs) (units_in q ys)
units_either true q xs ys = refl
units_either false q xs ys = refl

-- what each party has after a move
pub units-moved : (q from to n : ℕ) (d : Division) → n ≤ units_of from d
    → units_of q (moved from to n d) ≡ units_after from to n (λ p. units_of p d) q
units-moved q from to n d enough =
    let rows = rows_of d in
    let ordered = ordered_rows d in
    let lower : in_order 0 (with_units from (units_in from rows - n) rows) ≡ true =
    order_with from (units_in from rows - n) 0 rows (omega arith) ordered in
    ap (units_in q) (rows-moved from to n d enough)
    ∙ units_either (eqb n 0 || eqb from to) q rows (with_units to (units_in to rows + n) (with_units from (units_in from rows - n) rows))
    ∙ ap (cond (eqb n 0 || eqb from to) (units_of q d))
    (units_with q to (units_in to rows + n) 0 (with_units from (units_in from rows - n) rows) lower
    ∙ ap (cond (eqb to q) (units_in to rows + n)) (units_with q from (units_in from rows - n) 0 rows ordered))
    ∙ in_units from to n q (λ p. units_in p rows)

-- divisions in which each party has the same are equal
pub same_units : (d e : Division) → ((q : ℕ) → units_of q d ≡ units_of q e) → d ≡ e
same_units d e same = same_rows d e (rows_same 0 0 (rows_of d) (rows_of e) (ordered_rows d) (ordered_rows e) same)

-- divisions are equal exactly where their rows are
pub same_rows_iff : (d e : Division) → (rows_of d ≡ rows_of e) ↔ (d ≡ e)
same_rows_iff d e = (same_rows d e, λ h. ap rows_of h)
