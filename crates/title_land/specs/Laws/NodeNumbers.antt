-- Nodes have one number exactly where they are one, and the number of the node above comes from a node's own and is less.
use Rattle.std.{proofs.Common.{◌≡◌, ◌≢◌, ◌<◌, ◌+◌, ◌*◌, ◌/◌, ◌%◌, ◌||◌, ℕ, Bool, true, false, eqb, lt-ltb, le-ltb}, specs.Prelude.{nat_le}}
use Rattle.std.{proofs.Common.{List, [], ◌∷◌, Option, Some, unwrap_or, inl, inr, refl, sym, ap, ◌∙◌, arith}, specs.Ordering.{nat_cmp}}
use Rattle.std.proofs.lemmas.Bool.{and_from, or_cases, eqb-true, eq-eqb, leb-true, le-leb, false_from_ne_true, true≢false}
use Rattle.std.{proofs.lemmas.Map.Lookups.{exact_unsigned}, specs.{Cmp.{tied_itself, nat_cmp_total}, BTreeMap.{is_at}}}
use Rattle.title_land.specs.declared.{survey.{Township.{Township}, Section.{Section}}, rectangle.Quarter.{Quarter}, node.Node.{Node}}
use Rattle.title_land.specs.{Survey.{same_flag, same_township, same_section}, Nodes.{is_square, parent_of, above, is_above}}
use Rattle.title_land.specs.Laws.{PathNumbers.{quarter_below, path_positive, path_number-is}, Keys.{found_at}, CoverSet.{above_by_parent}}
use Rattle.title_land.specs.{Laws.SameNode.{same_node-is, same_node-self, same_path-is, same_path-self}, Nodes.{same_path, same_node}}
use Rattle.title_land.specs.NodeNumbers.{township_step, square_step, flag_number, township_number, section_number, node_number}
use Rattle.title_land.specs.{NodeNumbers.{number_above, NumbersTellNodes, NumbersGoUp}, Paths.{path_number, quarter_number}}
use Rattle.title_land.specs.declared.node.Node.TheVariants as node

flag_below : (b : Bool) → flag_number b < 2
flag_below true = omega arith
flag_below false = omega arith

flag_is : (a b : Bool) → flag_number a ≡ flag_number b → same_flag a b ≡ true
flag_is true true e = refl
flag_is true false e = absurd (omega (arith, e))
flag_is false true e = absurd (omega (arith, e))
flag_is false false e = refl

-- ---- a number of two parts gives them back

two_parts : (a b g h : ℕ) → g < 2 → h < 2 → a * 2 + g ≡ b * 2 + h → (a ≡ b) × (g ≡ h)
two_parts a b g h l m e = (omega arith, omega arith)

range_parts : (a b g h : ℕ) → g < 128 → h < 128 → a * 128 + g ≡ b * 128 + h → (a ≡ b) × (g ≡ h)
range_parts a b g h l m e = (omega arith, omega arith)

number_parts : (a b g h : ℕ) → g < township_step → h < township_step → a * township_step + g ≡ b * township_step + h
    → (a ≡ b) × (g ≡ h)
number_parts a b g h l m e = (omega arith, omega arith)

path_parts : (a b g h : ℕ) → g < square_step → h < square_step → a * square_step + g ≡ b * square_step + h → (a ≡ b) × (g ≡ h)
path_parts a b g h l m e = (omega arith, omega arith)

-- ---- townships and sections

pub township_below : (t : Township) → township_number t < 65536
township_below t = omega (arith, t.numbered.1, t.ranged.1, flag_below t.north, flag_below t.east)

township_positive : (t : Township) → 0 < township_number t
township_positive t = omega (arith, t.numbered.0)

range_below : (t : Township) → t.range < 128
range_below t = omega (arith, t.ranged.1)

township_is : (t u : Township) → township_number t ≡ township_number u → same_township t u ≡ true
township_is t u e =
    let east = two_parts ((t.number * 2 + flag_number t.north) * 128 + t.range) ((u.number * 2 + flag_number u.north) * 128 + u.range)
    (flag_number t.east) (flag_number u.east) (flag_below t.east) (flag_below u.east) e in
    let range = range_parts (t.number * 2 + flag_number t.north) (u.number * 2 + flag_number u.north) t.range u.range (range_below t)
    (range_below u) east.0 in
    let north = two_parts t.number u.number (flag_number t.north) (flag_number u.north) (flag_below t.north) (flag_below u.north) range.0 in
    and_from _ _ (and_from _ _ (and_from _ _ (eq-eqb t.number u.number north.0) (flag_is t.north u.north north.1))
    (eq-eqb t.range u.range range.1)) (flag_is t.east u.east east.1)

number_below : (s : Section) → s.number < township_step
number_below s = omega (arith, s.numbered.1)

section_below : (s : Section) → section_number s < square_step
section_below s = omega (arith, township_below s.township, number_below s)

section_is : (s u : Section) → section_number s ≡ section_number u → same_section s u ≡ true
section_is s u e =
    let parts = number_parts (township_number s.township) (township_number u.township) s.number u.number (number_below s)
    (number_below u) e in
    and_from _ _ (township_is s.township u.township parts.0) (eq-eqb s.number u.number parts.1)

-- ---- paths

-- numbers are one exactly where paths are
pub path_number_at : (p q : List Quarter) → eqb (path_number p) (path_number q) ≡ same_path p q
path_number_at p q = go (same_path p q) refl
  where
    one : eqb (path_number p) (path_number q) ≡ true → same_path p q ≡ true
    one h = ap (same_path p) (sym (path_number-is p q (eqb-true (path_number p) (path_number q) h))) ∙ same_path-self p

    go : (t : Bool) → same_path p q ≡ t → eqb (path_number p) (path_number q) ≡ t
    go true e = eq-eqb (path_number p) (path_number q) (ap path_number (same_path-is p q e))
    go false e = false_from_ne_true _ (λ h. true≢false (sym (one h) ∙ e))

-- ---- nodes

same_times : (a b : ℕ) → a * township_step ≡ b * township_step → a ≡ b
same_times a b e = omega arith

node_is : (a b : Node) → node_number a ≡ node_number b → same_node a b ≡ true
node_is node.Everything node.Everything e = refl
node_is node.Everything (node.Township u) e = absurd (omega (arith, township_positive u, e))
node_is node.Everything (node.Part u w) e = absurd (omega (arith, path_positive w, e))
node_is (node.Township t) node.Everything e = absurd (omega (arith, township_positive t, e))
node_is (node.Township t) (node.Township u) e = township_is t u (same_times (township_number t) (township_number u) e)
node_is (node.Township t) (node.Part u w) e = absurd (omega (arith, township_below t, path_positive w, e))
node_is (node.Part s v) node.Everything e = absurd (omega (arith, path_positive v, e))
node_is (node.Part s v) (node.Township u) e = absurd (omega (arith, township_below u, path_positive v, e))
node_is (node.Part s v) (node.Part u w) e =
    let parts = path_parts (path_number v) (path_number w) (section_number s) (section_number u) (section_below s) (section_below u) e in
    let same : v ≡ w = path_number-is v w parts.0 in
    and_from _ _ (section_is s u parts.1) (rw same (same_path-self w))

-- no two nodes have one number
pub numbers_tell_nodes : NumbersTellNodes
numbers_tell_nodes a b e = (same_node-is a b).0 (node_is a b e)

-- numbers are one exactly where nodes are
pub number_at : (k q : Node) → eqb (node_number k) (node_number q) ≡ same_node q k
number_at k q = go (same_node q k) refl
  where
    go : (t : Bool) → same_node q k ≡ t → eqb (node_number k) (node_number q) ≡ t
    go true e = eq-eqb (node_number k) (node_number q) (ap node_number (sym ((same_node-is q k).0 e)))
    go false e = false_from_ne_true _
        (λ h. true≢false (sym (node_is q k (sym (eqb-true (node_number k) (node_number q) h))) ∙ e))

-- a map by numbers finds a node exactly at that node
pub numbered_at : (k q : Node) → is_at (nat_cmp (node_number k)) (node_number q) ≡ same_node q k
numbered_at k q = found_at (λ a b. nat_cmp (node_number a) (node_number b)) same_node k q ((same_node-is q k).0)
    (λ h. numbers_tell_nodes k q (exact_unsigned (node_number k) (node_number q) h)) (tied_itself nat_cmp_total (node_number k))
    (same_node-self k)

-- the node whose number is 0 is the whole plant
pub whole_is : (n : Node) → node_number n ≡ 0 → n ≡ node.Everything
whole_is n e = (same_node-is n node.Everything).0 (node_is n node.Everything e)

-- a square has one number, by its section's township, its section's number in it, and its quarters
pub same_square_number : (s u : Section) (w : List Quarter) → s.township ≡ u.township → s.number ≡ u.number
    → node_number (node.Part s w) ≡ node_number (node.Part u w)
same_square_number s u w a b = λ i. path_number w * square_step + (township_number (a i) * township_step + b i)

-- squares have the numbers from a square's step on
pub square_at : (n : Node) → nat_le square_step (node_number n) ≡ is_square n
square_at node.Everything = refl
square_at (node.Township t) = false_from_ne_true (nat_le square_step (township_number t * township_step))
    (λ e. let h = leb-true square_step (township_number t * township_step) e in absurd (omega (arith, township_below t, h)))
square_at (node.Part s w) = le-leb square_step (path_number w * square_step + section_number s) (omega (arith, path_positive w))

-- a square's number less its own part is its section's
pub section_at : (k : ℕ) (s : Section) (w : List Quarter) → k ≡ node_number (node.Part s w) → k % square_step ≡ section_number s
section_at k s w is = omega (arith, section_below s)

-- a section's number less its own part is its township's
pub township_at : (k : ℕ) (s : Section) → k ≡ section_number s
    → k / township_step * township_step ≡ node_number (node.Township s.township)
township_at k s is = omega (arith, number_below s)

-- ---- the node above

-- a township's number is below any square's
above_low : (k : ℕ) → k < square_step → number_above k ≡ 0
above_low k low = rw (lt-ltb k square_step low) refl

-- above a section's own square is its township
above_mid : (k t n : ℕ) → k ≡ 1 * square_step + (t * township_step + n) → n < township_step → t * township_step + n < square_step
    → number_above k ≡ t * township_step
above_mid k t n is few low =
    let rest : k % square_step / township_step * township_step ≡ t * township_step = omega arith in
    rw (le-ltb k square_step (omega arith)) (rw (lt-ltb k (4 * square_step) (omega arith)) rest)

-- above a quarter is the square that it is a quarter of
above_high : (k p q s : ℕ) → k ≡ (p * 4 + q) * square_step + s → 0 < p → q < 4 → s < square_step
    → number_above k ≡ p * square_step + s
above_high k p q s is some few low =
    let square : k / (4 * square_step) ≡ p = omega arith in
    let rest : k % square_step ≡ s = omega arith in
    rw (le-ltb k square_step (omega arith)) (rw (le-ltb k (4 * square_step) (omega arith))
    (λ i. square i * square_step + rest i))

-- the node above a node that isn't the whole plant, with its number
pub record HasAbove (n : Node) (k : ℕ) : Type 0 where
  pub parent : Node
  pub is : Some parent ≡ parent_of n
  pub numbered : number_above k ≡ node_number parent

pub node_above : (n : Node) (k : ℕ) → k ≡ node_number n → k ≢ 0 → HasAbove n k
node_above node.Everything k is positive = absurd (positive is)
node_above (node.Township t) k is positive = record {
  parent = node.Everything;
  is = refl;
  numbered = above_low k (omega (arith, township_below t, is));
}
node_above (node.Part s []) k is positive = record {
  parent = node.Township s.township;
  is = refl;
  numbered = above_mid k (township_number s.township) s.number is (number_below s) (section_below s);
}
node_above (node.Part s (q ∷ w)) k is positive = record {
  parent = node.Part s w;
  is = refl;
  numbered = above_high k (path_number w) (quarter_number q) (section_number s) is (path_positive w) (quarter_below q) (section_below s);
}

some_is : (a b : Node) → Some a ≡ Some b → a ≡ b
some_is a b h = ap (λ (o : Option Node). unwrap_or o a) h

-- the number of a node's parent, from its own
pub numbers_go_up : NumbersGoUp
numbers_go_up node.Everything p h = absurd cc
numbers_go_up (node.Township t) p h =
    above_low (township_number t * township_step) (omega (arith, township_below t)) ∙ ap node_number (some_is node.Everything p h)
numbers_go_up (node.Part s []) p h =
    above_mid (node_number (node.Part s [])) (township_number s.township) s.number refl (number_below s) (section_below s)
    ∙ ap node_number (some_is (node.Township s.township) p h)
numbers_go_up (node.Part s (q ∷ w)) p h =
    above_high (node_number (node.Part s (q ∷ w))) (path_number w) (quarter_number q) (section_number s) refl (path_positive w)
    (quarter_below q) (section_below s)
    ∙ ap node_number (some_is (node.Part s w) p h)

-- nodes below one that isn't the whole plant have the same nodes above
pub one_above : (a b : Node) (k : ℕ) → k ≢ 0 → number_above (node_number a) ≡ k → number_above (node_number b) ≡ k → above a ≡ above b
one_above a b k positive h j =
    let p = node_above a (node_number a) refl (is_below a h) in
    let q = node_above b (node_number b) refl (is_below b j) in
    let same : p.parent ≡ q.parent = (same_node-is p.parent q.parent).0
    (node_is p.parent q.parent (sym p.numbered ∙ h ∙ sym j ∙ q.numbered)) in
    above_by_parent.1 a p.parent (sym p.is) ∙ ap (λ (z : Node). z ∷ above z) same ∙ sym (above_by_parent.1 b q.parent (sym q.is))
  where
    is_below : (n : Node) → number_above (node_number n) ≡ k → node_number n ≢ 0
    is_below n e none = positive (sym e ∙ ap number_above none ∙ above_low 0 (omega arith))

-- ---- numbers fall on the way up

pub same_numbers : (n c : Node) → same_node n c ≡ true → node_number n ≡ node_number c
same_numbers n c same = ap node_number ((same_node-is n c).0 same)

square_higher : (s : Section) (w : List Quarter) (n : Node) → is_above n (node.Part s w) ≡ true
    → node_number n < node_number (node.Part s w)
square_higher s [] n up = elim (or_cases (same_node n (node.Township s.township)) (same_node n node.Everything || false) up) [
  | inl same ↦
      let e : node_number n ≡ township_number s.township * township_step = same_numbers n (node.Township s.township) same in
      omega (arith, e, township_below s.township)
  | inr more ↦ elim (or_cases (same_node n node.Everything) false more) [
    | inl same ↦ let e : node_number n ≡ 0 = same_numbers n node.Everything same in omega (arith, e)
    | inr never ↦ absurd (true≢false (sym never))
  ]
]
square_higher s (q ∷ w) n up = elim (or_cases (same_node n (node.Part s w)) (is_above n (node.Part s w)) up) [
  | inl same ↦
      let e : node_number n ≡ node_number (node.Part s w) = same_numbers n (node.Part s w) same in
      omega (arith, e, path_positive w)
  | inr more ↦ omega (arith, square_higher s w n more, path_positive w)
]

-- a node above has a lesser number
pub above_less : (a n : Node) → is_above n a ≡ true → node_number n < node_number a
above_less node.Everything n up = absurd cc
above_less (node.Township t) n up = elim (or_cases (same_node n node.Everything) false up) [
  | inl same ↦
      let e : node_number n ≡ 0 = same_numbers n node.Everything same in
      omega (arith, e, t.numbered.0)
  | inr never ↦ absurd (true≢false (sym never))
]
above_less (node.Part s w) n up = square_higher s w n up
