-- Texts without control bytes.
use Rattle.std.proofs.Common.{◌≡◌, ◌∙◌, ℕ, ◌<◌, ◌^◌, Bool, true, false, List, [], ◌∷◌, ◌++◌, cond, refl, arith, Option, Some, None}
use Rattle.std.specs.{Prelude.{codes, nat_le}, Char.{digit_char}, Fmt.{decimal}, List.{flat_map, join_by, list_all}}
use Rattle.std.proofs.lemmas.{Bool.{and_parts, and_from, Decides.{nat_tests}}, List.Folds.{list_all-append}}
use Rattle.title_share.specs.{Share.{share_text}, Laws.ShareLaws.{lowest_fraction, part_fits}}
use Rattle.title_instrument.specs.declared.{kind.Kind.{Kind}, parts.{Estate.{Estate, TheVariants.{S, O, M}}, Estates.{Estates}}}
use Rattle.title_instrument.specs.{declared.parts.Quantum.{Quantum}, Estates.{estate_text, estates_text, letter_if, letter_of}}
use Rattle.title_instrument.specs.Kinds.{kind_word}
use Rattle.title_instrument.specs.declared.kind.Kind.TheVariants as kind
use Rattle.title_instrument.specs.declared.parts.Quantum.TheVariants as quantum
use Rattle.title_land.specs.{declared.{grid.Grid.{Grid}, node.Node.{Node}, survey.{Section.{Section}, Township.{Township}}}, Depth.{depth}}
use Rattle.title_land.specs.declared.rectangle.Quarter.{Quarter, TheVariants.{Northeast, Northwest, Southwest, Southeast}}
use Rattle.title_land.specs.{declared.tract.Land.{Land}, Grids.{grid_has, indices}, Lands.{cover_of}}
use Rattle.title_land.specs.Texts.{node_text, path_text, quarter_text, quarters_text, section_text, township_text}
use Rattle.title_land.specs.declared.node.Node.TheVariants as node
use Rattle.title_land.specs.declared.tract.Land.TheVariants as land
use Rattle.title_plan.specs.Fields.{is_name, is_name_byte}
use Rattle.title_spelling.specs.{Cells.{digit_at, row_text, spelled_cells}, Lands.{part_spelling, path_of, spelling}, Laws.{is_shown}}
use Rattle.title_spelling.specs.Posts.{and_item, item_text, quantum_text, reserve_text, IsQuantum, IsReserve, IsReserved, IsShare}
use Rattle.title_spelling.proofs.RowsRead.{is_digit, number_digits}

-- a text without control bytes
pub record Shown (text : List ℕ) : Type 0 where
  pub is : list_all is_shown text ≡ true

pub both : {s t : List ℕ} → Shown s → Shown t → Shown (s ++ t)
both {s} {t} h k = record { is = list_all-append is_shown s t ∙ and_from (list_all is_shown s) (list_all is_shown t) h.is k.is }

pub word : (s : List ℕ) → list_all is_shown s ≡ true → Shown s
word s h = record { is = h }

pub more : (b : ℕ) (s : List ℕ) → is_shown b ≡ true → Shown s → Shown (b ∷ s)
more b s h k = record { is = and_from (is_shown b) (list_all is_shown s) h k.is }

flag : (b : Bool) (x y : List ℕ) → Shown x → Shown y → Shown (cond b x y)
flag true x y h k = h
flag false x y h k = k

-- ---- numbers, words and names

digit_shown : (b : ℕ) → is_digit b ≡ true → is_shown b ≡ true
digit_shown b h = grind (arith, nat_tests)

digits_shown : (text : List ℕ) → list_all is_digit text ≡ true → list_all is_shown text ≡ true
digits_shown [] h = refl
digits_shown (b ∷ text) h =
    let k = and_parts (is_digit b) (list_all is_digit text) h in
    and_from (is_shown b) (list_all is_shown text) (digit_shown b k.0) (digits_shown text k.1)

pub number : (n : ℕ) → n < 2 ^ 64 → Shown (decimal n)
number n h = record { is = digits_shown (decimal n) (number_digits n h) }

name_bytes : (text : List ℕ) → list_all is_name_byte text ≡ true → list_all is_shown text ≡ true
name_bytes [] h = refl
name_bytes (b ∷ text) h =
    let k = and_parts (is_name_byte b) (list_all is_name_byte text) h in
    and_from (is_shown b) (list_all is_shown text) (and_parts (nat_le 32 b) _ k.0).0 (name_bytes text k.1)

pub name : (text : List ℕ) → is_name text ≡ true → Shown text
name text h = record { is = name_bytes text (and_parts _ (list_all is_name_byte text) h).1 }

pub kind_shown : (k : Kind) → Shown (kind_word k)
kind_shown kind.Deed = word (codes "deed") refl
kind_shown kind.Warranty = word (codes "warranty") refl
kind_shown kind.Release = word (codes "release") refl

letter : (e : Estate) → is_shown (letter_of e) ≡ true
letter S = refl
letter O = refl
letter M = refl

letter_there : (b : Bool) (e : Estate) → Shown (letter_if b e)
letter_there b e = flag b (estate_text e) [] (more (letter_of e) [] (letter e) (word [] refl)) (word [] refl)

pub estates : (e : Estates) → Shown (estates_text e)
estates e = both (both (letter_there e.s S) (letter_there e.o O)) (letter_there e.m M)

-- ---- shares

pub share : (units : ℕ) → IsShare units → Shown (share_text units)
share units h =
    let f = (lowest_fraction units h.0 h.1).0 in
    let most = f.most in
    let fits = part_fits _ f.part in
    both (number _ (omega arith)) (more 47 _ refl (number _ (omega arith)))

pub quantum_shown : (q : Quantum) → IsQuantum q → Shown (quantum_text q)
quantum_shown (quantum.Whole s) h = more 87 (share_text s) refl (share s h)
quantum_shown (quantum.Interest s) h = more 73 (share_text s) refl (share s h)

item : (e : Estate) (units : ℕ) → IsShare units → Shown (item_text e units)
item e units h = more (letter_of e) (share_text units) (letter e) (share units h)

with_item : (items : List ℕ) (e : Estate) (reserved : Option ℕ) → IsReserved reserved → Shown items → Shown (and_item items e reserved)
with_item items e None h k = k
with_item [] e (Some units) h k = item e units h
with_item (b ∷ items) e (Some units) h k = both k (more 59 (item_text e units) refl (item e units h))

pub reserve : (r : List (Option ℕ)) → IsReserve r → Shown (reserve_text r)
reserve (s ∷ o ∷ m ∷ []) h = with_item _ M m h.2 (with_item _ O o h.1 (with_item [] S s h.0 (word [] refl)))
reserve [] h = absurd h
reserve (s ∷ []) h = absurd h
reserve (s ∷ o ∷ []) h = absurd h
reserve (s ∷ o ∷ m ∷ n ∷ rest) h = absurd h

-- ---- land

pub township : (t : Township) → Shown (township_text t)
township t =
    let n : t.number < 2 ^ 64 = omega arith in
    let r : t.range < 2 ^ 64 = omega arith in
    let side = flag t.north (codes "N") (codes "S") (word (codes "N") refl) (word (codes "S") refl) in
    let hand = flag t.east (codes "E") (codes "W") (word (codes "E") refl) (word (codes "W") refl) in
    both (both (both (both (both (word (codes "T") refl) (number t.number n)) side) (word (codes " R") refl)) (number t.range r)) hand

section : (s : Section) → Shown (section_text s)
section s =
    let n : s.number < 2 ^ 64 = omega arith in
    both (both (township s.township) (word (codes " sec ") refl)) (number s.number n)

quarter : (q : Quarter) → Shown (quarter_text q)
quarter Northeast = word (codes "NE1/4") refl
quarter Northwest = word (codes "NW1/4") refl
quarter Southwest = word (codes "SW1/4") refl
quarter Southeast = word (codes "SE1/4") refl

quarters : (w : List Quarter) → Shown (quarters_text w)
quarters [] = word [] refl
quarters (q ∷ w) = both (quarter q) (quarters w)

path : (w : List Quarter) → Shown (path_text w)
path [] = word [] refl
path (q ∷ w) = both (word (codes " ") refl) (quarters (q ∷ w))

node_shown : (n : Node) → Shown (node_text n)
node_shown node.Everything = word (codes "everything") refl
node_shown (node.Township t) = township t
node_shown (node.Part s w) = both (section s) (path w)

path_there : (n : Node) → Shown (path_of n)
path_there node.Everything = word [] refl
path_there (node.Township t) = word [] refl
path_there (node.Part s w) = path w

paths_more : (nodes : List Node) → Shown (flat_map (λ n. codes "," ++ path_of n) nodes)
paths_more [] = word [] refl
paths_more (n ∷ nodes) = both (both (word (codes ",") refl) (path_there n)) (paths_more nodes)

paths : (nodes : List Node) → Shown (join_by path_of (codes ",") nodes)
paths [] = word [] refl
paths (n ∷ nodes) = both (path_there n) (paths_more nodes)

hexadecimal : (n : ℕ) → is_shown (digit_char n) ≡ true
hexadecimal n = grind (arith, nat_tests)

row_shown : (has : ℕ → ℕ → Bool) (row : ℕ) → Shown (row_text has row)
row_shown has row =
    more 32 _ refl (more (digit_at has row 0) _ (hexadecimal _) (more (digit_at has row 4) _ (hexadecimal _)
    (more (digit_at has row 8) _ (hexadecimal _) (more (digit_at has row 12) [] (hexadecimal _) (word [] refl)))))

rows : (has : ℕ → ℕ → Bool) (numbers : List ℕ) → Shown (flat_map (row_text has) numbers)
rows has [] = word [] refl
rows has (row ∷ numbers) = both (row_shown has row) (rows has numbers)

cells : (s : Section) (g : Grid) → Shown (spelled_cells s g)
cells s g = both (both (section s) (word (codes " cells") refl)) (rows (grid_has g) (indices depth))

part : (s : Section) (g : Grid) (nodes : List Node) → Shown (part_spelling s g nodes)
part s g [] = flag _ _ _ (both (section s) (paths [])) (cells s g)
part s g (n ∷ []) = node_shown n
part s g (n ∷ m ∷ nodes) = flag _ _ _ (both (section s) (paths (n ∷ m ∷ nodes))) (cells s g)

pub land_shown : (l : Land) → Shown (spelling l)
land_shown land.Everything = node_shown node.Everything
land_shown (land.Township t) = township t
land_shown (land.Part s g) = part s g (cover_of depth (land.Part s g))
