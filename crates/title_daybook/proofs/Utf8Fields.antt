-- The fields of rows are UTF-8.
use Rattle.std.proofs.{Common.{◌≡◌, ℕ, ◌<◌, ◌^◌, Bool, true, false, List, [], ◌∷◌, ◌++◌, cond, refl, arith}, lemmas.Bool.{and_parts}}
use Rattle.std.{proofs.Common.{Option, Some, None, zero, suc, length}, specs.{Prelude.{codes, nat_lt}, Char.{digit_char}, Fmt.{decimal}}}
use Rattle.std.{specs.{List.{flat_map, join_by, list_all}, Str.{IsAscii, IsUtf8, is_utf8}}, proofs.lemmas.Bool.Decides.{nat_tests}}
use Rattle.std.proofs.lemmas.{Fmt.{IsAscii-decimal}, Str.{IsUtf8-append, IsUtf8-from_ascii, IsUtf8-from_is_utf8, is_utf8-from_IsUtf8}}
use Rattle.title_instrument.specs.{declared.{instrument.Instrument.{Instrument}, kind.Kind.{Kind}}, Kinds.{kind_of}, Parties.{estates_of}}
use Rattle.title_instrument.specs.declared.parts.{Estate.{Estate, TheVariants.{S, O, M}}, Estates.{Estates}, Quantum.{Quantum}}
use Rattle.title_instrument.specs.{Estates.{estate_text, estates_text, letter_if, letter_of}, Kinds.{kind_word}}
use Rattle.title_instrument.specs.declared.instrument.Instrument.TheVariants as i
use Rattle.title_spelling.specs.Rows.{fields_of, Begin, Commit, End, IsPlantRow, Party, PlantRow, Post, Township as TownshipRow}
use Rattle.title_spelling.specs.{Cells.{digit_at, number_of, row_text, spelled_cells}, Lands.{part_spelling, path_of, spelling}}
use Rattle.title_spelling.specs.Posts.{and_item, item_text, name_of, quantum_text, reserve_text, terms_fields, HasShares, IsQuantum}
use Rattle.title_spelling.specs.Posts.{IsReserve, IsReserved, IsShare}
use Rattle.title_share.specs.{Share.{share_text}, Laws.ShareLaws.{lowest_fraction, part_fits}}
use Rattle.title_instrument.specs.declared.kind.Kind.TheVariants as kind
use Rattle.title_instrument.specs.declared.parts.Quantum.TheVariants as quantum
use Rattle.title_land.specs.{declared.{grid.Grid.{Grid}, node.Node.{Node}, survey.{Section.{Section}, Township.{Township}}}, Depth.{depth}}
use Rattle.title_land.specs.declared.rectangle.Quarter.{Quarter, TheVariants.{Northeast, Northwest, Southwest, Southeast}}
use Rattle.title_land.specs.{declared.tract.Land.{Land}, Grids.{grid_has, indices}, Lands.{cover_of}}
use Rattle.title_land.specs.Texts.{node_text, path_text, quarter_text, quarters_text, section_text, township_text}
use Rattle.title_land.specs.declared.node.Node.TheVariants as node
use Rattle.title_land.specs.declared.tract.Land.TheVariants as land

-- a text
pub record IsText (text : List ℕ) : Type 0 where
  pub is : IsUtf8 text

pub both : {s t : List ℕ} → IsText s → IsText t → IsText (s ++ t)
both {s} {t} h k = record { is = IsUtf8-append s t h.is k.is }

-- bytes of ASCII
abbrev is_low : ℕ → Bool
is_low b = nat_lt b 128

all_low : (s : List ℕ) → list_all is_low s ≡ true → IsAscii s
all_low [] h zero = omega arith
all_low [] h (suc i) = omega arith
all_low (b ∷ s) h zero = let first = (and_parts (is_low b) (list_all is_low s) h).0 in grind (arith, nat_tests)
all_low (b ∷ s) h (suc i) = all_low s (and_parts (is_low b) (list_all is_low s) h).1 i

pub word : (s : List ℕ) → list_all is_low s ≡ true → IsText s
word s h = record { is = IsUtf8-from_ascii s (all_low s h) }

pub more : (b : ℕ) (s : List ℕ) → is_low b ≡ true → IsText s → IsText (b ∷ s)
more b s h k = record { is = IsUtf8-append (b ∷ []) s (word (b ∷ []) (rw h refl)).is k.is }

given_text : (s : List ℕ) → is_utf8 s ≡ true → IsText s
given_text s h = record { is = IsUtf8-from_is_utf8 s h }

flag : (b : Bool) (x y : List ℕ) → IsText x → IsText y → IsText (cond b x y)
flag true x y h k = h
flag false x y h k = k

-- ---- numbers, words and names

pub number : (n : ℕ) → n < 2 ^ 64 → IsText (decimal n)
number n h = record { is = IsUtf8-from_ascii (decimal n) (IsAscii-decimal n h) }

pub kind_utf8 : (k : Kind) → IsText (kind_word k)
kind_utf8 kind.Deed = word (codes "deed") refl
kind_utf8 kind.Warranty = word (codes "warranty") refl
kind_utf8 kind.Release = word (codes "release") refl

letter : (e : Estate) → is_low (letter_of e) ≡ true
letter S = refl
letter O = refl
letter M = refl

letter_there : (b : Bool) (e : Estate) → IsText (letter_if b e)
letter_there b e = flag b (estate_text e) [] (more (letter_of e) [] (letter e) (word [] refl)) (word [] refl)

pub estates : (e : Estates) → IsText (estates_text e)
estates e = both (both (letter_there e.s S) (letter_there e.o O)) (letter_there e.m M)

-- ---- shares

pub share : (units : ℕ) → IsShare units → IsText (share_text units)
share units h =
    let f = (lowest_fraction units h.0 h.1).0 in
    let most = f.most in
    let fits = part_fits _ f.part in
    both (number _ (omega arith)) (more 47 _ refl (number _ (omega arith)))

pub quantum_utf8 : (q : Quantum) → IsQuantum q → IsText (quantum_text q)
quantum_utf8 (quantum.Whole s) h = more 87 (share_text s) refl (share s h)
quantum_utf8 (quantum.Interest s) h = more 73 (share_text s) refl (share s h)

item : (e : Estate) (units : ℕ) → IsShare units → IsText (item_text e units)
item e units h = more (letter_of e) (share_text units) (letter e) (share units h)

with_item : (items : List ℕ) (e : Estate) (reserved : Option ℕ) → IsReserved reserved → IsText items → IsText (and_item items e reserved)
with_item items e None h k = k
with_item [] e (Some units) h k = item e units h
with_item (b ∷ items) e (Some units) h k = both k (more 59 (item_text e units) refl (item e units h))

pub reserve : (r : List (Option ℕ)) → IsReserve r → IsText (reserve_text r)
reserve (s ∷ o ∷ m ∷ []) h = with_item _ M m h.2 (with_item _ O o h.1 (with_item [] S s h.0 (word [] refl)))
reserve [] h = absurd h
reserve (s ∷ []) h = absurd h
reserve (s ∷ o ∷ []) h = absurd h
reserve (s ∷ o ∷ m ∷ n ∷ rest) h = absurd h

-- ---- land

pub township : (t : Township) → IsText (township_text t)
township t =
    let n : t.number < 2 ^ 64 = omega arith in
    let r : t.range < 2 ^ 64 = omega arith in
    let side = flag t.north (codes "N") (codes "S") (word (codes "N") refl) (word (codes "S") refl) in
    let hand = flag t.east (codes "E") (codes "W") (word (codes "E") refl) (word (codes "W") refl) in
    both (both (both (both (both (word (codes "T") refl) (number t.number n)) side) (word (codes " R") refl)) (number t.range r)) hand

section : (s : Section) → IsText (section_text s)
section s =
    let n : s.number < 2 ^ 64 = omega arith in
    both (both (township s.township) (word (codes " sec ") refl)) (number s.number n)

quarter : (q : Quarter) → IsText (quarter_text q)
quarter Northeast = word (codes "NE1/4") refl
quarter Northwest = word (codes "NW1/4") refl
quarter Southwest = word (codes "SW1/4") refl
quarter Southeast = word (codes "SE1/4") refl

quarters : (w : List Quarter) → IsText (quarters_text w)
quarters [] = word [] refl
quarters (q ∷ w) = both (quarter q) (quarters w)

path : (w : List Quarter) → IsText (path_text w)
path [] = word [] refl
path (q ∷ w) = both (word (codes " ") refl) (quarters (q ∷ w))

node_utf8 : (n : Node) → IsText (node_text n)
node_utf8 node.Everything = word (codes "everything") refl
node_utf8 (node.Township t) = township t
node_utf8 (node.Part s w) = both (section s) (path w)

path_there : (n : Node) → IsText (path_of n)
path_there node.Everything = word [] refl
path_there (node.Township t) = word [] refl
path_there (node.Part s w) = path w

paths_more : (nodes : List Node) → IsText (flat_map (λ n. codes "," ++ path_of n) nodes)
paths_more [] = word [] refl
paths_more (n ∷ nodes) = both (both (word (codes ",") refl) (path_there n)) (paths_more nodes)

paths : (nodes : List Node) → IsText (join_by path_of (codes ",") nodes)
paths [] = word [] refl
paths (n ∷ nodes) = both (path_there n) (paths_more nodes)

hexadecimal : (a b c d : Bool) → is_low (digit_char (number_of a b c d)) ≡ true
hexadecimal true true true true = refl
hexadecimal true true true false = refl
hexadecimal true true false true = refl
hexadecimal true true false false = refl
hexadecimal true false true true = refl
hexadecimal true false true false = refl
hexadecimal true false false true = refl
hexadecimal true false false false = refl
hexadecimal false true true true = refl
hexadecimal false true true false = refl
hexadecimal false true false true = refl
hexadecimal false true false false = refl
hexadecimal false false true true = refl
hexadecimal false false true false = refl
hexadecimal false false false true = refl
hexadecimal false false false false = refl

row_utf8 : (has : ℕ → ℕ → Bool) (row : ℕ) → IsText (row_text has row)
row_utf8 has row =
    more 32 _ refl (more (digit_at has row 0) _ (hexadecimal _ _ _ _) (more (digit_at has row 4) _ (hexadecimal _ _ _ _)
    (more (digit_at has row 8) _ (hexadecimal _ _ _ _) (more (digit_at has row 12) [] (hexadecimal _ _ _ _) (word [] refl)))))

rows : (has : ℕ → ℕ → Bool) (numbers : List ℕ) → IsText (flat_map (row_text has) numbers)
rows has [] = word [] refl
rows has (row ∷ numbers) = both (row_utf8 has row) (rows has numbers)

cells : (s : Section) (g : Grid) → IsText (spelled_cells s g)
cells s g = both (both (section s) (word (codes " cells") refl)) (rows (grid_has g) (indices depth))

part : (s : Section) (g : Grid) (nodes : List Node) → IsText (part_spelling s g nodes)
part s g [] = flag _ _ _ (both (section s) (paths [])) (cells s g)
part s g (n ∷ []) = node_utf8 n
part s g (n ∷ m ∷ nodes) = flag _ _ _ (both (section s) (paths (n ∷ m ∷ nodes))) (cells s g)

pub land_utf8 : (l : Land) → IsText (spelling l)
land_utf8 land.Everything = node_utf8 node.Everything
land_utf8 (land.Township t) = township t
land_utf8 (land.Part s g) = part s g (cover_of depth (land.Part s g))

-- ---- the fields of each row

-- fields that are text
record AreTexts (fields : List (List ℕ)) : Type 0 where
  are : list_all is_utf8 fields ≡ true

no_more : AreTexts []
no_more = record { are = refl }

one_more : {f : List ℕ} {fields : List (List ℕ)} → IsText f → AreTexts fields → AreTexts (f ∷ fields)
one_more {f} {fields} h k = record { are = rw (is_utf8-from_IsUtf8 f h.is, k.are) refl }

terms_texts : (t : Instrument ℕ) (text : List ℕ) → HasShares t → IsText text → AreTexts (terms_fields t ++ text ∷ [])
terms_texts (i.Deed d) text h k = one_more (quantum_utf8 d.quantum h.0) (one_more (reserve d.reserve h.1) (one_more k no_more))
terms_texts (i.Release r) text h k = one_more k no_more

-- a name among names that are text
name_there : (names : List (List ℕ)) (party : ℕ) → list_all is_utf8 names ≡ true → party < length names → IsText (name_of names party)
name_there [] party h within = absurd (omega arith)
name_there (name ∷ names) zero h within = given_text name (and_parts (is_utf8 name) (list_all is_utf8 names) h).0
name_there (name ∷ names) (suc party) h within =
    name_there names party (and_parts (is_utf8 name) (list_all is_utf8 names) h).1 (omega arith)

-- a party that is declared is one of the names
abbrev pub IsNamed : List (List ℕ) → PlantRow → Type 0
IsNamed names (Party name) = is_utf8 name ≡ true
IsNamed names _ = Unit {0}

texts : (names : List (List ℕ)) (x : PlantRow) → list_all is_utf8 names ≡ true → IsNamed names x → IsPlantRow names x
    → AreTexts (fields_of names x)
texts names (TownshipRow t) are named h = one_more (word (codes "township") refl) (one_more (township t) no_more)
texts names (Party name) are named h = one_more (word (codes "party") refl) (one_more (given_text name named) no_more)
texts names (Begin e) are named h = one_more (number e (let most = h.1 in omega arith)) (one_more (word (codes "begin") refl) no_more)
texts names (Commit e) are named h = one_more (number e (let most = h.1 in omega arith)) (one_more (word (codes "commit") refl) no_more)
texts names (Post e post) are named h =
    one_more (number e (let most = h.examiner.1 in omega arith)) (one_more (kind_utf8 (kind_of post.instrument))
    (one_more (number post.doc (let most = h.last_document in omega arith)) (one_more (name_there names _ are h.grantor)
    (one_more (name_there names _ are h.grantee) (one_more (estates (estates_of post.instrument))
    (terms_texts post.instrument (spelling post.tract) h.shares (land_utf8 post.tract)))))))
texts names (End n) are named h = one_more (word (codes "end") refl) (one_more (number n h) no_more)

pub fields_text : (names : List (List ℕ)) (x : PlantRow) → list_all is_utf8 names ≡ true → IsNamed names x → IsPlantRow names x
    → list_all is_utf8 (fields_of names x) ≡ true
fields_text names x are named h = (texts names x are named h).are
