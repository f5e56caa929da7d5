-- The letters of numbers and quarters as a node's text has them, and that the grammar has these.
use Rattle.std.proofs.Common.{◌≡◌, ◌∙◌, ℕ, ◌<◌, ◌==◌, ◌&&◌, Bool, true, false, List, [], ◌∷◌, ◌++◌, map, filter, refl, sym, ap, inl, inr}
use Rattle.std.{proofs.Common.{arith}, specs.{Prelude.{codes, not}, Char.{to_ascii_lowercase}, List.{list_all}}}
use Rattle.std.{specs.Fmt.{decimal as decimal_text, digits as base_digits}, proofs.lemmas.Bool.{and_parts, eqb-true}}
use Rattle.std.proofs.lemmas.List.{append-nil, map-append, Elements.{filter-append}}
use Rattle.title_land.specs.declared.rectangle.{Quarter.{Quarter, TheVariants.{Northeast, Northwest, Southwest, Southeast}}, Step.{Step}}
use Rattle.title_land.specs.{Grids.{range_all}, Texts.{quarter_text, quarters_text, path_text}, Laws.Filling.{range_all_at}}
use Rattle.title_land.specs.declared.rectangle.Step.TheVariants as step
use Rattle.title_grammar.specs.Language.{Language, member, OneOf, Many, Word, Maybe, ◌*>◌}
use Rattle.title_aliquot.specs.{Grammar.{digits, decimal, Number, StepText, Part, Parts}, Letters.{passed_over, letters}}

pub letters-append : (xs ys : List ℕ) → letters (xs ++ ys) ≡ letters xs ++ letters ys
letters-append xs ys =
    ap (λ (z : List ℕ). map to_ascii_lowercase z) (filter-append (λ c. not (passed_over c)) xs ys)
    ∙ map-append to_ascii_lowercase (filter (λ c. not (passed_over c)) xs) (filter (λ c. not (passed_over c)) ys)

-- ---- numbers below 100

abbrev value_of : List ℕ → ℕ
value_of [] = 100
value_of (c ∷ cs) = decimal c cs

abbrev same_list : List ℕ → List ℕ → Bool
same_list [] [] = true
same_list [] (d ∷ ys) = false
same_list (c ∷ xs) [] = false
same_list (c ∷ xs) (d ∷ ys) = c == d && same_list xs ys

same_list-is : (xs ys : List ℕ) → same_list xs ys ≡ true → xs ≡ ys
same_list-is [] [] h = refl
same_list-is [] (d ∷ ys) h = absurd cc
same_list-is (c ∷ xs) [] h = absurd cc
same_list-is (c ∷ xs) (d ∷ ys) h =
    let k = and_parts (c == d) (same_list xs ys) h in
    rw (eqb-true c d k.0, same_list-is xs ys k.1) refl

-- the digits of k are digits, are read as k, and are their own letters
abbrev is_spelled : ℕ → Bool
is_spelled k =
    list_all (λ c. member c digits) (decimal_text k)
    && (value_of (decimal_text k) == k && same_list (letters (decimal_text k)) (decimal_text k))

all_spelled : range_all is_spelled 0 100 ≡ true
unfolding base_digits
all_spelled = refl

one_spelled : (k : ℕ) → k < 100 → is_spelled k ≡ true
one_spelled k h = range_all_at is_spelled 0 100 k all_spelled (omega arith) (omega arith)

digits_many : (cs : List ℕ) → list_all (λ c. member c digits) cs ≡ true → Many (OneOf digits) cs cs
digits_many [] h = refl
digits_many (c ∷ cs) h =
    let k = and_parts (member c digits) (list_all (λ c. member c digits) cs) h in
    (c ∷ [], cs, refl, (k.0, refl), digits_many cs k.1)

digits_number : (ds : List ℕ) (k : ℕ) → list_all (λ c. member c digits) ds ≡ true → value_of ds ≡ k → k < 100 → Number k ds
digits_number [] k h e l = absurd (omega arith)
digits_number (c ∷ cs) k h e l =
    let m = and_parts (member c digits) (list_all (λ c. member c digits) cs) h in
    (c, cs, c ∷ [], cs, sym e, refl, (m.0, refl), digits_many cs m.1)

pub number_spelled : (k : ℕ) → k < 100 → Number k (decimal_text k)
number_spelled k l =
    let h = and_parts _ _ (one_spelled k l) in
    let m = and_parts _ _ h.1 in
    digits_number (decimal_text k) k h.0 (eqb-true _ _ m.0) l

pub number_letters : (k : ℕ) → k < 100 → letters (decimal_text k) ≡ decimal_text k
number_letters k l =
    let h = and_parts _ _ (one_spelled k l) in
    let m = and_parts _ _ h.1 in
    same_list-is _ _ m.1

-- ---- quarters

abbrev pub quarter_spelling : Quarter → List ℕ
quarter_spelling Northeast = codes "ne1/4"
quarter_spelling Northwest = codes "nw1/4"
quarter_spelling Southwest = codes "sw1/4"
quarter_spelling Southeast = codes "se1/4"

abbrev pub path_spelling : List Quarter → List ℕ
path_spelling [] = []
path_spelling (q ∷ quarters) = quarter_spelling q ++ path_spelling quarters

quarter_letters : (q : Quarter) → letters (quarter_text q) ≡ quarter_spelling q
quarter_letters Northeast = refl
quarter_letters Northwest = refl
quarter_letters Southwest = refl
quarter_letters Southeast = refl

quarters_letters : (p : List Quarter) → letters (quarters_text p) ≡ path_spelling p
quarters_letters [] = refl
quarters_letters (q ∷ p) = letters-append (quarter_text q) (quarters_text p) ∙ rw (quarter_letters q, quarters_letters p) refl

pub path_letters : (p : List Quarter) → letters (path_text p) ≡ path_spelling p
path_letters [] = refl
path_letters (q ∷ p) = letters-append (codes " ") (quarters_text (q ∷ p)) ∙ quarters_letters (q ∷ p)

step_spelled : (q : Quarter) → StepText (step.Quarter q) (quarter_spelling q)
step_spelled Northeast = inl (Northeast, tt, codes "ne", codes "1/4", refl, refl, inl (refl, refl), inl (refl, refl))
step_spelled Northwest = inl (Northwest, tt, codes "nw", codes "1/4", refl, refl, inr (inl (refl, refl)), inl (refl, refl))
step_spelled Southwest = inl (Southwest, tt, codes "sw", codes "1/4", refl, refl, inr (inr (inl (refl, refl))), inl (refl, refl))
step_spelled Southeast = inl (Southeast, tt, codes "se", codes "1/4", refl, refl, inr (inr (inr (refl, refl))), inl (refl, refl))

abbrev pub steps_of : List Quarter → List Step
steps_of p = map (λ q. step.Quarter q) p

abbrev Joined : Language Step
Joined = Maybe (Word (codes "of") *> Maybe (Word (codes "the"))) *> StepText

joined_spelled : (q : Quarter) → Joined (step.Quarter q) (quarter_spelling q)
joined_spelled q = (tt, step.Quarter q, [], quarter_spelling q, refl, refl, inr (refl, refl), step_spelled q)

many_spelled : (p : List Quarter) → Many Joined (steps_of p) (path_spelling p)
many_spelled [] = refl
many_spelled (q ∷ p) = (quarter_spelling q, path_spelling p, refl, joined_spelled q, many_spelled p)

part_spelled : (q : Quarter) (p : List Quarter) → Part (steps_of (q ∷ p)) (path_spelling (q ∷ p))
part_spelled q p = (step.Quarter q, steps_of p, quarter_spelling q, path_spelling p, refl, refl, step_spelled q, many_spelled p)

pub parts_spelled : (q : Quarter) (p : List Quarter) → Parts (steps_of (q ∷ p) ∷ []) (path_spelling (q ∷ p))
parts_spelled q p = inr (
  steps_of (q ∷ p),
  [],
  path_spelling (q ∷ p),
  [],
  refl,
  sym (append-nil (path_spelling (q ∷ p))),
  part_spelled q p,
  refl,
)
