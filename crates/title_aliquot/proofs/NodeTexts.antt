-- The letters of a node's text are in the grammar, and say the node.
use Rattle.std.proofs.Common.{◌≡◌, ◌∙◌, ℕ, zero, suc, ◌+◌, ◌*◌, ◌<◌, ◌≤◌, Bool, true, false, List, [], ◌∷◌, ◌++◌, length, Option, None}
use Rattle.std.{proofs.Common.{refl, sym, ap, subst, inl, inr, arith, append_assoc, cond, length-append}, specs.Prelude.{codes, nat_lt}}
use Rattle.std.{specs.{List.{list_all}, Fmt.{decimal as decimal_text}, Str.{IsAscii}}, proofs.lemmas.{List.{append-nil}, Bool.{and_parts}}}
use Rattle.std.proofs.lemmas.{Fmt.{IsAscii-decimal, length-decimal-le}, Bool.Decides.{nat_tests}, Str.{chars-IsAscii, IsAscii-append}}
use Rattle.std.proofs.lemmas.Str.Ascii.{IsAscii-nil}
use Rattle.title_land.specs.declared.rectangle.{Quarter.{Quarter, TheVariants.{Northeast, Northwest, Southwest, Southeast}}, Step.{Step}}
use Rattle.title_land.specs.{declared.{survey.{Township.{Township}, Section.{Section}}, node.Node.{Node}}, Depth.{depth}, Nodes.{IsNode}}
use Rattle.title_land.specs.Laws.PathNumbers.{depth_fits}
use Rattle.title_land.specs.Texts.{township_text, section_text, quarter_text, quarters_text, path_text, node_text}
use Rattle.title_land.specs.declared.node.Node.TheVariants as node
use Rattle.title_grammar.specs.Language.{Gives, ◌<|>◌}
use Rattle.title_aliquot.specs.Grammar.{Syntax, Everything, SectionSyntax, Description, LandText, TownshipText, RangeText, SectionText}
use Rattle.title_aliquot.specs.{Grammar.{SectionParts, section_of, syntax_of}, Letters.{letters}, Describes.{Says}}
use Rattle.title_aliquot.proofs.Spellings.{letters-append, number_spelled, number_letters, path_spelling, path_letters, parts_spelled}
use Rattle.title_aliquot.proofs.Spellings.{steps_of}

-- ---- letters

flag_letters : (b : Bool) (x y u v : List ℕ) → letters x ≡ u → letters y ≡ v → letters (cond b x y) ≡ cond b u v
flag_letters true x y u v h k = h
flag_letters false x y u v h k = k

abbrev township_spelling : ℕ → Bool → List ℕ
township_spelling n north = codes "t" ++ (decimal_text n ++ cond north (codes "n") (codes "s"))

abbrev range_spelling : ℕ → Bool → List ℕ
range_spelling n east = codes "r" ++ (decimal_text n ++ cond east (codes "e") (codes "w"))

letters_two : (a b u v : List ℕ) → letters a ≡ u → letters b ≡ v → letters (a ++ b) ≡ u ++ v
letters_two a b u v h k = letters-append a b ∙ ap (λ (z : List ℕ). z ++ letters b) h ∙ ap (λ (z : List ℕ). u ++ z) k

letters_six : (a b c d e f u v w x y z : List ℕ) → letters a ≡ u → letters b ≡ v → letters c ≡ w → letters d ≡ x → letters e ≡ y
    → letters f ≡ z →
    letters (((((a ++ b) ++ c) ++ d) ++ e) ++ f) ≡ ((((u ++ v) ++ w) ++ x) ++ y) ++ z
letters_six a b c d e f u v w x y z ha hb hc hd he hf =
    letters_two ((((a ++ b) ++ c) ++ d) ++ e) f ((((u ++ v) ++ w) ++ x) ++ y) z
    (letters_two (((a ++ b) ++ c) ++ d) e (((u ++ v) ++ w) ++ x) y
    (letters_two ((a ++ b) ++ c) d ((u ++ v) ++ w) x
    (letters_two (a ++ b) c (u ++ v) w (letters_two a b u v ha hb) hc) hd) he) hf

regrouped : (a b c d e f : List ℕ) → ((((a ++ b) ++ c) ++ d) ++ e) ++ f ≡ (a ++ (b ++ c)) ++ (d ++ (e ++ f))
regrouped a b c d e f = simp append_assoc refl

township_letters : (t : Township) → letters (township_text t) ≡ township_spelling t.number t.north ++ range_spelling t.range t.east
township_letters t =
    let n : t.number < 100 = omega arith in
    let r : t.range < 100 = omega arith in
    letters_six (codes "T") (decimal_text t.number) (cond t.north (codes "N") (codes "S")) (codes " R") (decimal_text t.range)
    (cond t.east (codes "E") (codes "W"))
    (codes "t") (decimal_text t.number) (cond t.north (codes "n") (codes "s")) (codes "r") (decimal_text t.range)
    (cond t.east (codes "e") (codes "w"))
    refl (number_letters t.number n) (flag_letters t.north (codes "N") (codes "S") (codes "n") (codes "s") refl refl)
    refl (number_letters t.range r) (flag_letters t.east (codes "E") (codes "W") (codes "e") (codes "w") refl refl)
    ∙ regrouped (codes "t") (decimal_text t.number) (cond t.north (codes "n") (codes "s")) (codes "r") (decimal_text t.range)
    (cond t.east (codes "e") (codes "w"))

abbrev section_spelling : ℕ → List Quarter → List ℕ
section_spelling n p = (codes "sec" ++ decimal_text n) ++ path_spelling p

regrouped_section : (a b c d e : List ℕ) → (((a ++ b) ++ c) ++ d) ++ e ≡ a ++ (b ++ ((c ++ d) ++ e))
regrouped_section a b c d e = simp append_assoc refl

part_letters : (s : Section) (p : List Quarter) → letters (section_text s ++ path_text p)
    ≡ township_spelling s.township.number s.township.north
    ++ (range_spelling s.township.range s.township.east ++ section_spelling s.number p)
part_letters s p =
    let n : s.number < 100 = omega arith in
    let a = township_spelling s.township.number s.township.north in
    let b = range_spelling s.township.range s.township.east in
    letters_two (section_text s) (path_text p) (((a ++ b) ++ codes "sec") ++ decimal_text s.number) (path_spelling p)
    (letters_two (township_text s.township ++ codes " sec ") (decimal_text s.number) ((a ++ b) ++ codes "sec") (decimal_text s.number)
    (letters_two (township_text s.township) (codes " sec ") (a ++ b) (codes "sec") (township_letters s.township) refl)
    (number_letters s.number n))
    (path_letters p)
    ∙ regrouped_section a b (codes "sec") (decimal_text s.number) (path_spelling p)

-- ---- the grammar has these letters

side_spelled : (b : Bool) (x y : List ℕ) → (Gives true x <|> Gives false y) b (cond b x y)
side_spelled true x y = inl (refl, refl)
side_spelled false x y = inr (refl, refl)

township_spelled : (n : ℕ) (north : Bool) → n < 100 → TownshipText (n, north) (township_spelling n north)
township_spelled n north l = (
  tt,
  (n, north),
  codes "t",
  decimal_text n ++ cond north (codes "n") (codes "s"),
  refl,
  refl,
  (refl, refl),
  (
    n,
    north,
    decimal_text n,
    cond north (codes "n") (codes "s"),
    refl,
    refl,
    number_spelled n l,
    side_spelled north (codes "n") (codes "s"),
  ),
)

range_spelled : (n : ℕ) (east : Bool) → n < 100 → RangeText (n, east) (range_spelling n east)
range_spelled n east l = (
  tt,
  (n, east),
  codes "r",
  decimal_text n ++ cond east (codes "e") (codes "w"),
  refl,
  refl,
  (refl, refl),
  (n, east, decimal_text n, cond east (codes "e") (codes "w"), refl, refl, number_spelled n l, side_spelled east (codes "e") (codes "w")),
)

-- the parts that a node's quarters name
abbrev pub parts_named : List Quarter → List (List Step)
parts_named p = steps_of p ∷ []

section_parts_spelled : (p : List Quarter) → SectionParts (parts_named p) (path_spelling p)
section_parts_spelled [] = inr (refl, refl)
section_parts_spelled (q ∷ p) = inl (
  tt,
  parts_named (q ∷ p),
  [],
  path_spelling (q ∷ p),
  refl,
  refl,
  inr (inr (refl, refl)),
  parts_spelled q p,
)

section_spelled : (n : ℕ) (p : List Quarter) → n < 100 → SectionText (section_of n (parts_named p)) (section_spelling n p)
section_spelled n p l =
    inl (
      tt,
      section_of n (parts_named p),
      [],
      section_spelling n p,
      refl,
      refl,
      inr (refl, refl),
      (
        n,
        parts_named p,
        codes "sec" ++ decimal_text n,
        path_spelling p,
        refl,
        refl,
        (tt, n, codes "sec", decimal_text n, refl, refl, inr (refl, refl), number_spelled n l),
        section_parts_spelled p,
      ),
    )

land_spelled : (n : ℕ) (north : Bool) (r : ℕ) (east : Bool) (s : Option SectionSyntax) (x : List ℕ) → n < 100 → r < 100 → SectionText s x →
    LandText (syntax_of (n, north) ((r, east), s)) (township_spelling n north ++ (range_spelling r east ++ x))
land_spelled n north r east s x l m h = (
  (n, north),
  ((r, east), s),
  township_spelling n north,
  range_spelling r east ++ x,
  refl,
  refl,
  township_spelled n north l,
  (
    tt,
    ((r, east), s),
    [],
    range_spelling r east ++ x,
    refl,
    refl,
    inr (inr (refl, refl)),
    ((r, east), s, range_spelling r east, x, refl, refl, range_spelled r east m, h),
  ),
)

-- ---- what a node's text says

abbrev pub node_syntax : Node → Syntax
node_syntax node.Everything = Everything
node_syntax (node.Township t) = syntax_of (t.number, t.north) ((t.range, t.east), None)
node_syntax (node.Part s w) =
    syntax_of (s.township.number, s.township.north) ((s.township.range, s.township.east), section_of s.number (parts_named w))

node_spelled : (n : Node) → Description (node_syntax n) (letters (node_text n))
unfolding Description
node_spelled node.Everything = inl (refl, refl)
node_spelled (node.Township t) =
    let n : t.number < 100 = omega arith in
    let r : t.range < 100 = omega arith in
    let e = township_letters t ∙ ap (λ (z : List ℕ). township_spelling t.number t.north ++ z)
    (sym (append-nil (range_spelling t.range t.east))) in
    inr (subst (λ (z : List ℕ). LandText (node_syntax (node.Township t)) z) (sym e)
    (land_spelled t.number t.north t.range t.east None [] n r (inr (refl, refl))))
node_spelled (node.Part s w) =
    let n : s.township.number < 100 = omega arith in
    let r : s.township.range < 100 = omega arith in
    let m : s.number < 100 = omega arith in
    let t = s.township in
    inr (subst (λ (z : List ℕ). LandText (node_syntax (node.Part s w)) z) (sym (part_letters s w))
    (land_spelled t.number t.north t.range t.east (section_of s.number (parts_named w)) (section_spelling s.number w) n r
    (section_spelled s.number w m)))

-- ---- its bytes are ASCII, and few

-- a text of ASCII bytes, at most so many
record Plain (s : List ℕ) (n : ℕ) : Type 0 where
  ascii : IsAscii s
  few : length s ≤ n

plain_two : (s t : List ℕ) (m n : ℕ) → Plain s m → Plain t n → Plain (s ++ t) (m + n)
plain_two s t m n h k = record {
  ascii = IsAscii-append s t h.ascii k.ascii;
  few = let a = h.few in let b = k.few in
      omega (arith, length-append s t);
}

plain_flag : (b : Bool) (x y : List ℕ) (n : ℕ) → Plain x n → Plain y n → Plain (cond b x y) n
plain_flag true x y n h k = h
plain_flag false x y n h k = k

plain_number : (n : ℕ) → n < 100 → Plain (decimal_text n) 2
plain_number n l = record { ascii = IsAscii-decimal n (omega arith); few = length-decimal-le 2 n (omega arith) (omega arith) (omega arith) }

below_128 : (c : ℕ) → nat_lt c 128 ≡ true → c < 128
below_128 c h = grind (arith, nat_tests)

one_ascii : (c : ℕ) → c < 128 → IsAscii (c ∷ [])
one_ascii c h zero = h
one_ascii c h (suc i) = omega arith

-- an ASCII word
word_ascii : (s : List ℕ) → list_all (λ c. nat_lt c 128) s ≡ true → IsAscii s
word_ascii [] h = IsAscii-nil
word_ascii (c ∷ s) h =
    let k = and_parts (nat_lt c 128) (list_all (λ c. nat_lt c 128) s) h in
    IsAscii-append (c ∷ []) s (one_ascii c (below_128 c k.0)) (word_ascii s k.1)

plain_word : (s : List ℕ) → list_all (λ c. nat_lt c 128) s ≡ true → Plain s (length s)
plain_word s h = record { ascii = word_ascii s h; few = omega arith }

plain_quarter : (q : Quarter) → Plain (quarter_text q) 5
plain_quarter Northeast = plain_word (codes "NE1/4") refl
plain_quarter Northwest = plain_word (codes "NW1/4") refl
plain_quarter Southwest = plain_word (codes "SW1/4") refl
plain_quarter Southeast = plain_word (codes "SE1/4") refl

plain_more : (s : List ℕ) (m n : ℕ) → m ≤ n → Plain s m → Plain s n
plain_more s m n l h = record { ascii = h.ascii; few = let k = h.few in omega arith }

plain_quarters : (p : List Quarter) → Plain (quarters_text p) (5 * length p)
plain_quarters [] = plain_word [] refl
plain_quarters (q ∷ p) =
    plain_more (quarter_text q ++ quarters_text p) (5 + 5 * length p) (5 * length (q ∷ p)) (omega arith)
    (plain_two (quarter_text q) (quarters_text p) 5 (5 * length p) (plain_quarter q) (plain_quarters p))

plain_path : (p : List Quarter) → Plain (path_text p) (1 + 5 * length p)
plain_path [] = plain_more [] 0 (1 + 5 * length {A = Quarter} []) (omega arith) (plain_word [] refl)
plain_path (q ∷ p) =
    plain_two (codes " ") (quarters_text (q ∷ p)) 1 (5 * length (q ∷ p)) (plain_word (codes " ") refl) (plain_quarters (q ∷ p))

plain_township : (t : Township) → Plain (township_text t) 9
plain_township t =
    let n : t.number < 100 = omega arith in
    let r : t.range < 100 = omega arith in
    let a = codes "T" in
    let b = decimal_text t.number in
    let c = cond t.north (codes "N") (codes "S") in
    let d = codes " R" in
    let e = decimal_text t.range in
    let f = cond t.east (codes "E") (codes "W") in
    plain_two ((((a ++ b) ++ c) ++ d) ++ e) f 8 1
    (plain_two (((a ++ b) ++ c) ++ d) e 6 2
    (plain_two ((a ++ b) ++ c) d 4 2
    (plain_two (a ++ b) c 3 1 (plain_two a b 1 2 (plain_word a refl) (plain_number t.number n))
    (plain_flag t.north (codes "N") (codes "S") 1 (plain_word (codes "N") refl) (plain_word (codes "S") refl)))
    (plain_word d refl))
    (plain_number t.range r))
    (plain_flag t.east (codes "E") (codes "W") 1 (plain_word (codes "E") refl) (plain_word (codes "W") refl))

plain_section : (s : Section) → Plain (section_text s) 16
plain_section s =
    let n : s.number < 100 = omega arith in
    plain_two (township_text s.township ++ codes " sec ") (decimal_text s.number) 14 2
    (plain_two (township_text s.township) (codes " sec ") 9 5 (plain_township s.township) (plain_word (codes " sec ") refl))
    (plain_number s.number n)

plain_node : (n : Node) → IsNode depth n → Plain (node_text n) 1000
plain_node node.Everything h = plain_more (codes "everything") 10 1000 (omega arith) (plain_word (codes "everything") refl)
plain_node (node.Township t) h = plain_more (township_text t) 9 1000 (omega arith) (plain_township t)
plain_node (node.Part s w) h =
    let low = depth_fits in
    plain_more (section_text s ++ path_text w) (16 + (1 + 5 * length w)) 1000 (omega arith)
    (plain_two (section_text s) (path_text w) 16 (1 + 5 * length w) (plain_section s) (plain_path w))

-- the text of a node of the tree says the node
pub node_says : (n : Node) → IsNode depth n → Says (node_text n) (node_syntax n)
node_says n l =
    let h = plain_node n l in
    record {
      short = h.few;
      spells = subst (λ (z : List ℕ). Description (node_syntax n) (letters z)) (sym (chars-IsAscii (node_text n) h.ascii)) (node_spelled n);
    }
