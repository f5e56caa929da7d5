-- A text describes one land at most, or has one fault.
use Rattle.std.{proofs.Common.{◌≡◌, ◌≢◌, ◌∙◌, ℕ, ◌⊎◌, inl, inr, true, false, List, drop, refl, sym, ap, subst, arith}, specs.Str.{chars}}
use Rattle.std.specs.Prelude.{Result, Ok, Err, IfOk, IfErr}
use Rattle.title_land.specs.{Depth.{depth}, declared.tract.Land.{Land}}
use Rattle.title_grammar.specs.Laws.{Repeat.{fault_none}, Faults.{FaultAfter, fault_there, one_fault_index, one_value}}
use Rattle.title_aliquot.specs.{declared.fault.DescFault.{DescFault}, Grammar.{Syntax, Description}, Letters.{letters, offset}}
use Rattle.title_aliquot.specs.{Meaning.{IsNumbered, parts_of, parts_exist, StandsFor}, Answers.{IsTractOf, IsFault}}
use Rattle.title_aliquot.specs.{Describes.{Says, Describes, FaultOf, BadLetter, LotAt, IsBadText, IsLots}, Laws.Grammar.{description_exact}}
use Rattle.title_aliquot.specs.Laws.Lands.{one_land_of}
use Rattle.title_aliquot.specs.declared.fault.DescFault.TheVariants as fault

-- what a text says is one thing
same_words : (text : List ℕ) (s t : Syntax) → Says text s → Says text t → s ≡ t
same_words text s t h k = one_value description_exact (letters (chars text)) s t h.spells k.spells

-- a text describes one land at most
pub one_land : (depth : ℕ) (text : List ℕ) (l m : Land) → Describes depth text l → Describes depth text m → l ≡ m
one_land depth text l m h k =
    let g = subst (λ (s : Syntax). StandsFor depth s l) (same_words text h.0 k.0 h.1 k.1) h.2 in
    one_land_of depth k.0 l m g.land_is k.2.land_is

-- ---- letters that are not in the grammar say nothing

fault_of_bad : (text : List ℕ) (i : ℕ) → BadLetter text i → FaultAfter Description (letters (chars text)) i
fault_of_bad text i b = (b.within, b.fault_at)

letter_unsaid : (text : List ℕ) (i : ℕ) (s : Syntax) → BadLetter text i → Says text s → ⊥
letter_unsaid text i s b h =
    fault_none Description (letters (chars text)) (drop i (letters (chars text)))
    (fault_there Description (letters (chars text)) i (fault_of_bad text i b)) s h.spells

bad_unsaid : (text : List ℕ) (byte : ℕ) (s : Syntax) → IsBadText text byte → Says text s → ⊥
bad_unsaid text byte s (inl b) h = let short = h.short in absurd (omega (arith, b.0, short))
bad_unsaid text byte s (inr b) h = letter_unsaid text b.0 s b.1 h

lots_unsaid : (text : List ℕ) (s : Syntax) → IsLots text → Says text s → ⊥
lots_unsaid text s b h = letter_unsaid text b.0 s b.1 h

same_letter : (text : List ℕ) (i j : ℕ) → BadLetter text i → BadLetter text j → i ≡ j
same_letter text i j b c = one_fault_index Description (letters (chars text)) i j (fault_of_bad text i b) (fault_of_bad text j c)

bad_no_lots : (text : List ℕ) (byte : ℕ) → IsBadText text byte → IsLots text → ⊥
bad_no_lots text byte (inl b) k = let short = k.1.short in absurd (omega (arith, b.0, short))
bad_no_lots text byte (inr b) k =
    let e = same_letter text k.0 b.0 k.1 b.1 in
    b.2 (subst (λ (i : ℕ). LotAt text i) e k.2)

one_byte : (text : List ℕ) (a b : ℕ) → IsBadText text a → IsBadText text b → a ≡ b
one_byte text a b (inl h) (inl k) = h.1 ∙ sym k.1
one_byte text a b (inl h) (inr k) = let short = k.1.short in absurd (omega (arith, h.0, short))
one_byte text a b (inr h) (inl k) = let short = h.1.short in absurd (omega (arith, k.0, short))
one_byte text a b (inr h) (inr k) = h.3 ∙ ap (λ (i : ℕ). offset (chars text) i) (same_letter text h.0 k.0 h.1 k.1) ∙ sym k.3

-- ---- one fault

apart : (depth : ℕ) (s t : Syntax) → s ≡ t → parts_exist depth (parts_of s) ≡ false → parts_exist depth (parts_of t) ≡ true → ⊥
apart depth s t e h k =
    let m = sym h ∙ ap (λ (x : Syntax). parts_exist depth (parts_of x)) e ∙ k in
    cc

pub one_fault : (depth : ℕ) (text : List ℕ) (f g : DescFault) → FaultOf depth text f → FaultOf depth text g → f ≡ g
one_fault d text (fault.BadText a) (fault.BadText b) h k = ap (λ (n : ℕ). fault.BadText n) (one_byte text a b h k)
one_fault d text (fault.BadText a) fault.Range h k = absurd (bad_unsaid text a k.0 h k.1)
one_fault d text (fault.BadText a) fault.TooSmall h k = absurd (bad_unsaid text a k.0 h k.1)
one_fault d text (fault.BadText a) fault.Lots h k = absurd (bad_no_lots text a h k)
one_fault d text (fault.BadText a) fault.Overlap h k = absurd (bad_unsaid text a k.0 h k.1)
one_fault d text (fault.BadText a) fault.Memory h k = absurd k
one_fault d text fault.Range (fault.BadText b) h k = absurd (bad_unsaid text b h.0 k h.1)
one_fault d text fault.Range fault.Range h k = refl
one_fault d text fault.Range fault.TooSmall h k = absurd (h.2 (subst IsNumbered (sym (same_words text h.0 k.0 h.1 k.1)) k.2.numbered))
one_fault d text fault.Range fault.Lots h k = absurd (lots_unsaid text h.0 k h.1)
one_fault d text fault.Range fault.Overlap h k = absurd (h.2 (subst IsNumbered (sym (same_words text h.0 k.0 h.1 k.1)) k.2.numbered))
one_fault d text fault.Range fault.Memory h k = absurd k
one_fault d text fault.TooSmall (fault.BadText b) h k = absurd (bad_unsaid text b h.0 k h.1)
one_fault d text fault.TooSmall fault.Range h k = absurd (k.2 (subst IsNumbered (same_words text h.0 k.0 h.1 k.1) h.2.numbered))
one_fault d text fault.TooSmall fault.TooSmall h k = refl
one_fault d text fault.TooSmall fault.Lots h k = absurd (lots_unsaid text h.0 k h.1)
one_fault d text fault.TooSmall fault.Overlap h k = absurd (apart d h.0 k.0 (same_words text h.0 k.0 h.1 k.1) h.2.missing k.2.exist)
one_fault d text fault.TooSmall fault.Memory h k = absurd k
one_fault d text fault.Lots (fault.BadText b) h k = absurd (bad_no_lots text b k h)
one_fault d text fault.Lots fault.Range h k = absurd (lots_unsaid text k.0 h k.1)
one_fault d text fault.Lots fault.TooSmall h k = absurd (lots_unsaid text k.0 h k.1)
one_fault d text fault.Lots fault.Lots h k = refl
one_fault d text fault.Lots fault.Overlap h k = absurd (lots_unsaid text k.0 h k.1)
one_fault d text fault.Lots fault.Memory h k = absurd k
one_fault d text fault.Overlap (fault.BadText b) h k = absurd (bad_unsaid text b h.0 k h.1)
one_fault d text fault.Overlap fault.Range h k = absurd (k.2 (subst IsNumbered (same_words text h.0 k.0 h.1 k.1) h.2.numbered))
one_fault d text fault.Overlap fault.TooSmall h k = absurd (apart d k.0 h.0 (sym (same_words text h.0 k.0 h.1 k.1)) k.2.missing h.2.exist)
one_fault d text fault.Overlap fault.Lots h k = absurd (lots_unsaid text h.0 k h.1)
one_fault d text fault.Overlap fault.Overlap h k = refl
one_fault d text fault.Overlap fault.Memory h k = absurd k
one_fault d text fault.Memory g h k = absurd h

-- a text that describes a land has no fault
pub no_fault : (depth : ℕ) (text : List ℕ) (l : Land) (f : DescFault) → Describes depth text l → FaultOf depth text f → ⊥
no_fault d text l (fault.BadText byte) h k = bad_unsaid text byte h.0 k h.1
no_fault d text l fault.Range h k = k.2 (subst IsNumbered (same_words text h.0 k.0 h.1 k.1) h.2.numbered)
no_fault d text l fault.TooSmall h k = apart d k.0 h.0 (same_words text k.0 h.0 k.1 h.1) k.2.missing h.2.exist
no_fault d text l fault.Lots h k = lots_unsaid text h.0 k h.1
no_fault d text l fault.Overlap h k =
    let g = subst (λ (s : Syntax). StandsFor d s l) (same_words text h.0 k.0 h.1 k.1) h.2 in
    g.apart k.2.overlap
no_fault d text l fault.Memory h k = k

-- ---- answers

memory_or : (e : DescFault) → (e ≡ fault.Memory) ⊎ (e ≢ fault.Memory)
memory_or (fault.BadText byte) = inr (λ q. cc)
memory_or fault.Range = inr (λ q. cc)
memory_or fault.TooSmall = inr (λ q. cc)
memory_or fault.Lots = inr (λ q. cc)
memory_or fault.Overlap = inr (λ q. cc)
memory_or fault.Memory = inl refl

-- an answer that is a tract of the text, or a fault of it, or want of memory, is that of its land
pub only_tract : (text : List ℕ) (r : Result Land DescFault) → IfOk r (λ t. Describes depth text t)
    → IfErr r (λ e. e ≢ fault.Memory → FaultOf depth text e) →
    (l : Land) → Describes depth text l → IsTractOf l r
only_tract text (Ok m) h k l d = one_land depth text m l h d
only_tract text (Err e) h k l d = elim (memory_or e) [
  | inl q ↦ q
  | inr q ↦ absurd (no_fault depth text l e d (k q))
]

-- or of its fault
pub only_fault : (text : List ℕ) (r : Result Land DescFault) → IfOk r (λ t. Describes depth text t)
    → IfErr r (λ e. e ≢ fault.Memory → FaultOf depth text e) →
    (f : DescFault) → FaultOf depth text f → IsFault f r
only_fault text (Ok m) h k f d = no_fault depth text m f h d
only_fault text (Err e) h k f d = elim (memory_or e) [
  | inl q ↦ inr q
  | inr q ↦ inl (one_fault depth text e f (k q) d)
]
