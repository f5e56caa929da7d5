-- Each text describes a land or has a fault.
use Rattle.std.proofs.Common.{◌≡◌, ◌∙◌, ℕ, ◌-◌, ◌==◌, ◌<◌, ◌≤◌, ◌⊎◌, inl, inr, Bool, true, false, ◌||◌, List, [], ◌∷◌, ◌++◌, length, take}
use Rattle.std.{proofs.Common.{drop, Option, Some, None, refl, sym, arith}, specs.{Bool.{Decides}, List.{list_any}, Prelude.{codes}}}
use Rattle.std.{specs.Str.{chars}, proofs.lemmas.Bool.Decides.{nat_tests}}
use Rattle.title_land.specs.{Depth.{depth}, declared.{rectangle.Rectangle.{Rectangle}, survey.{Township.{Township}, Section.{Section}}}}
use Rattle.title_land.specs.{declared.tract.Land.{Land}, Rectangles.{rectangles_meet}, Grids.{grid_of}}
use Rattle.title_grammar.specs.{Language.{Begins}, Reading.{Read, Got, Stuck, word_at}, Laws.Exact.{tells}}
use Rattle.title_grammar.specs.Laws.Faults.{FaultAfter, begins_decided}
use Rattle.title_land.specs.declared.tract.Land.TheVariants as land
use Rattle.title_aliquot.specs.declared.fault.DescFault.TheVariants as fault
use Rattle.title_aliquot.specs.{Grammar.{Syntax, Everything, InTownship, SectionSyntax, Description}, Letters.{letters, offset}}
use Rattle.title_aliquot.specs.Meaning.{IsNumbered, SectionIsNumbered, IsLandIn, IsLandOf, parts_of, parts_exist, rectangles, union}
use Rattle.title_aliquot.specs.{Meaning.{Overlap}, Describes.{Says, BadLetter, BeginsWithLot, IsLot}, Readers.{description_at}}
use Rattle.title_aliquot.specs.{TextLaws.{LandOrFault, EachTextIsAnswered}, Laws.Shapes.{overlap_none, overlap_next}}
use Rattle.title_aliquot.specs.Laws.{Texts.{lot_word, no_lot_word}, Whole.{words_found, left_after, stuck_after, found_begins}}

-- ---- what letters say

abbrev WordsOrFault : List ℕ → Type 0
WordsOrFault s = ((v : Syntax) × Description v s) ⊎ ((i : ℕ) × FaultAfter Description s i)

read_as : (s : List ℕ) (m : Read Syntax) → description_at s ≡ m → WordsOrFault s
read_as s (Got v []) e = inl (v, words_found s v [] e refl)
read_as s (Got v (c ∷ r)) e = inr (length s - length (c ∷ r), left_after s v (c ∷ r) (length (c ∷ r)) e refl (omega arith))
read_as s (Stuck r) e = inr (length s - length r, stuck_after s r (length r) e refl)

words_or_fault : (s : List ℕ) → WordsOrFault s
words_or_fault s = read_as s (description_at s) refl

decided : (b : Bool) (P : Type 0) → Decides b P → P ⊎ (P → ⊥)
decided b P d = elim (tells b) [
  | inl e ↦ inl (d.0 e)
  | inr e ↦ inr (λ h. let k = sym e ∙ d.1 h in absurd cc)
]

begins_or_not : (s : List ℕ) → Begins Description s ⊎ (Begins Description s → ⊥)
begins_or_not s = elim (words_or_fault s) [
  | inl w ↦ decided true (Begins Description s) (found_begins s w.0 w.1)
  | inr f ↦ decided (f.0 == length s) (Begins Description s) (begins_decided Description s f.0 f.1)
]

lot_as : (r : List ℕ) (m : Read (Unit {0})) → word_at (codes "lot") r ≡ m → BeginsWithLot r ⊎ (BeginsWithLot r → ⊥)
lot_as r (Got u t) e = inl (lot_word r t e)
lot_as r (Stuck t) e = inr (no_lot_word r t e)

lot_or_not : (p r : List ℕ) → IsLot p r ⊎ (IsLot p r → ⊥)
lot_or_not p r = elim (lot_as r (word_at (codes "lot") r) refl) [
  | inl h ↦ elim (begins_or_not (p ++ codes "n1/2")) [
    | inl b ↦ inl (b, h)
    | inr n ↦ inr (λ l. n l.0)
  ]
  | inr n ↦ inr (λ l. n l.1)
]

-- ---- what words stand for

le_or_more : (a b : ℕ) → (a ≤ b) ⊎ (b < a)
le_or_more a b = grind (arith, nat_tests)

number_or_not : (top n : ℕ) → ((1 ≤ n) × (n ≤ top)) ⊎ ((1 ≤ n) × (n ≤ top) → ⊥)
number_or_not top n = elim (le_or_more 1 n) [
  | inl l ↦ elim (le_or_more n top) [
    | inl m ↦ inl (l, m)
    | inr m ↦ inr (λ h. let k = h.1 in omega arith)
  ]
  | inr m ↦ inr (λ h. let k = h.0 in omega arith)
]

section_or_not : (s : Option SectionSyntax) → SectionIsNumbered s ⊎ (SectionIsNumbered s → ⊥)
section_or_not None = inl tt
section_or_not (Some s) = number_or_not 36 s.number

numbered_or_not : (s : Syntax) → IsNumbered s ⊎ (IsNumbered s → ⊥)
numbered_or_not Everything = inl tt
numbered_or_not (InTownship p) = elim (number_or_not 99 p.township) [
  | inl a ↦ elim (number_or_not 99 p.range) [
    | inl b ↦ elim (section_or_not p.section) [
      | inl c ↦ inl (a, b, c)
      | inr n ↦ inr (λ h. n h.2)
    ]
    | inr n ↦ inr (λ h. n h.1)
  ]
  | inr n ↦ inr (λ h. n h.0)
]

land_in : (t : Township) (s : Option SectionSyntax) → SectionIsNumbered s → (l : Land) × IsLandIn depth t s l
land_in t None h = (land.Township t, refl)
land_in t (Some s) h =
    let z : Section = record { township = t; number = s.number; numbered = h } in
    (land.Part z (grid_of depth (union (rectangles depth s.parts))), (z, record { township_is = refl; number_is = refl }, refl))

land_there : (s : Syntax) → IsNumbered s → (l : Land) × IsLandOf depth s l
land_there Everything h = (land.Everything, refl)
land_there (InTownship p) h =
    let t : Township = record { number = p.township; north = p.north; range = p.range; east = p.east; numbered = h.0; ranged = h.1 } in
    let k = land_in t p.section h.2 in
    (k.0, (t, record { number_is = refl; north_is = refl; range_is = refl; east_is = refl }, k.1))

overlaps : List Rectangle → Bool
overlaps [] = false
overlaps (r ∷ others) = list_any (rectangles_meet r) others || overlaps others

overlap_decides : (shapes : List Rectangle) → Decides (overlaps shapes) (Overlap shapes)
unfolding overlaps
overlap_decides [] = overlap_none
overlap_decides (r ∷ others) = overlap_next r others (list_any (rectangles_meet r) others) (overlaps others) refl (overlap_decides others)

overlap_or_not : (shapes : List Rectangle) → Overlap shapes ⊎ (Overlap shapes → ⊥)
overlap_or_not shapes = decided (overlaps shapes) (Overlap shapes) (overlap_decides shapes)

-- ---- each text

said : (text : List ℕ) (s : Syntax) → Says text s → LandOrFault depth text
said text s h = elim (numbered_or_not s) [
  | inr n ↦ inr (fault.Range, (s, h, n))
  | inl a ↦ elim (tells (parts_exist depth (parts_of s))) [
    | inr e ↦ inr (fault.TooSmall, (s, h, record { numbered = a; missing = e }))
    | inl e ↦ elim (overlap_or_not (rectangles depth (parts_of s))) [
      | inl o ↦ inr (fault.Overlap, (s, h, record { numbered = a; exist = e; overlap = o }))
      | inr n ↦ let l = land_there s a in inl (l.0, (s, h, record { numbered = a; exist = e; apart = n; land_is = l.1 }))
    ]
  ]
]

unsaid : (text : List ℕ) (i : ℕ) → BadLetter text i → LandOrFault depth text
unsaid text i b = elim (lot_or_not (take i (letters (chars text))) (drop i (letters (chars text)))) [
  | inl l ↦ inr (fault.Lots, (i, b, l))
  | inr n ↦ inr (fault.BadText (offset (chars text) i), inr (i, b, n, refl))
]

pub each_text : EachTextIsAnswered depth
each_text text = elim (le_or_more (length text) 1000) [
  | inr m ↦ inr (fault.BadText 1000, inl (m, refl))
  | inl l ↦ elim (words_or_fault (letters (chars text))) [
    | inl w ↦ said text w.0 (record { short = l; spells = w.1 })
    | inr f ↦ unsaid text f.0 (record { short = l; within = f.1.0; fault_at = f.1.1 })
  ]
]
