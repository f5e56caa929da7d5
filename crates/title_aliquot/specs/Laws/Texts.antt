-- What a text says, and the index of its fault, from its letters.
use Rattle.std.proofs.Common.{◌≡◌, ◌∙◌, ℕ, ◌≤◌, Bool, true, false, List, [], ◌∷◌, ◌++◌, take, drop, refl, sym, ap, subst, inr}
use Rattle.std.specs.{Bool.{Decides}, Str.{chars}, Prelude.{length, codes, IfOk, Result, Ok, Err}}
use Rattle.title_grammar.specs.{Reading.{Got, Stuck, starts, word_at}, Laws.{Combine.{word}, Faults.{FaultAfter}}}
use Rattle.title_aliquot.specs.{Grammar.{Syntax, Description}, Letters.{letters, offset}}
use Rattle.title_aliquot.specs.Describes.{Says, BadLetter, LotAt, IsLot, StepMayBegin, BeginsWithLot, IsLots, IsBadText}

pub says_from : (text : List ℕ) (v : Syntax) → length text ≤ 1000 → Description v (letters (chars text)) → Says text v
says_from text v l h = record { short = l; spells = h }

pub bad_letter : (text : List ℕ) (i : ℕ) → length text ≤ 1000 → FaultAfter Description (letters (chars text)) i → BadLetter text i
bad_letter text i l f = record { short = l; within = f.0; fault_at = f.1 }

pub not_lot : (p r : List ℕ) (b : Bool) → Decides b (IsLot p r) → b ≡ false → IsLot p r → ⊥
not_lot p r b d e h = let k = sym e ∙ d.1 h in absurd cc

pub is_lots : (text : List ℕ) (i : ℕ) (b : Bool) → BadLetter text i → Decides b (LotAt text i) → b ≡ true → IsLots text
is_lots text i b f d t = (i, f, d.0 t)

pub is_bad_text : (text : List ℕ) (i byte : ℕ) (b : Bool) → BadLetter text i → Decides b (LotAt text i) → b ≡ false →
    byte ≡ offset (chars text) i → IsBadText text byte
is_bad_text text i byte b f d t o =
    inr (i, f, not_lot (take i (letters (chars text))) (drop i (letters (chars text))) b d t, o)

-- ---- a lot is one word after letters behind which a step may begin

nothing_starts : (r : List ℕ) → starts [] r ≡ false
nothing_starts [] = refl
nothing_starts (c ∷ r) = refl

-- the word was read
pub lot_word : (r t : List ℕ) → word_at (codes "lot") r ≡ Got tt t → BeginsWithLot r
lot_word r t e =
    let g = (word (codes "lot")).got r tt t e in
    (t, g.whole ∙ ap (λ (z : List ℕ). z ++ t) g.spells.1)

-- it was not
pub no_lot_word : (r t : List ℕ) → word_at (codes "lot") r ≡ Stuck t → BeginsWithLot r → ⊥
no_lot_word r t e h =
    let k = (word (codes "lot")).complete tt (codes "lot") h.0 (refl, refl) (nothing_starts h.0) in
    let l = sym e ∙ ap (λ (z : List ℕ). word_at (codes "lot") z) h.1 ∙ k in
    absurd cc

lot_by_step : (p r : List ℕ) (may : Bool) → BeginsWithLot r → Decides may (StepMayBegin p) → Decides may (IsLot p r)
lot_by_step p r may l m = ((λ h. (m.0 h, l)), (λ h. m.1 h.0))

-- of letters that are parts of longer ones
pub lot_result : {E : Type 0} (r : Result Bool E) (p q s t u : List ℕ) → p ≡ s → q ≡ t → word_at (codes "lot") q ≡ Got tt u →
    IfOk r (λ may. Decides may (StepMayBegin p)) → IfOk r (λ lot. Decides lot (IsLot s t))
lot_result (Ok may) p q s t u e k h m =
    let lot = lot_by_step p q may (lot_word q u h) m in
    subst (λ (z : List ℕ). Decides may (IsLot z t)) e (subst (λ (z : List ℕ). Decides may (IsLot p z)) k lot)
lot_result (Err x) p q s t u e k h m = tt

pub no_lot : (q s t u : List ℕ) → q ≡ t → word_at (codes "lot") q ≡ Stuck u → Decides false (IsLot s t)
no_lot q s t u k h = ((λ e. absurd cc), (λ l. absurd (no_lot_word q u h (subst BeginsWithLot (sym k) l.1))))
