-- Fixed words, letter by letter.
use Rattle.std.proofs.Common.{◌≡◌, ℕ, suc, ◌+◌, ◌<◌, Bool, true, false, ◌==◌, List, [], ◌∷◌, length, get_or, drop, refl, ap, drop-cons}
use Rattle.std.proofs.Common.{add-one, cond}
use Rattle.title_grammar.specs.Reading.{Got, Stuck, and_then, gives_at, word_at}

word_cons_at : (b : Bool) (c d : ℕ) (w s : List ℕ) → (d == c) ≡ b
    → word_at (c ∷ w) (d ∷ s) ≡ and_then (word_at (c ∷ []) (d ∷ s)) (λ u r. word_at w r)
word_cons_at true c d w s h = rw h refl
word_cons_at false c d w s h = rw h refl

pub word_cons : (c : ℕ) (w s : List ℕ) → word_at (c ∷ w) s ≡ and_then (word_at (c ∷ []) s) (λ u r. word_at w r)
word_cons c w [] = refl
word_cons c w (d ∷ s) = word_cons_at (d == c) c d w s refl

pub word_drop : (items : List ℕ) (i : ℕ) (s : List ℕ) → i < length items
    → word_at (drop i items) s ≡ and_then (word_at (get_or items i 0 ∷ []) s) (λ u r. word_at (drop (i + 1) items) r)
word_drop items i s h = rw (drop-cons items i 0 h, add-one) (word_cons (get_or items i 0) (drop (suc i) items) s)

gives_by_cond : {V : Type 0} (v : V) (b : Bool) (w s r t : List ℕ) → (word_at w s ≡ Got tt r → gives_at v w s ≡ Got v r)
    → cond b (word_at w s) (Stuck t) ≡ Got tt r → cond b (gives_at v w s) (Stuck t) ≡ Got v r
gives_by_cond v true w s r t f h = f h
gives_by_cond v false w s r t f h = absurd cc

gives_not_cond : {V : Type 0} (v : V) (b : Bool) (w s r t : List ℕ) → (word_at w s ≡ Stuck r → gives_at v w s ≡ Stuck r)
    → cond b (word_at w s) (Stuck t) ≡ Stuck r → cond b (gives_at v w s) (Stuck t) ≡ Stuck r
gives_not_cond v true w s r t f h = f h
gives_not_cond v false w s r t f h = let k : t ≡ r = cc in ap (λ (z : List ℕ). Stuck z) k

pub gives_by_word : {V : Type 0} (v : V) (w s r : List ℕ) → word_at w s ≡ Got tt r → gives_at v w s ≡ Got v r
gives_by_word v [] s r h = let k : s ≡ r = cc in ap (λ (z : List ℕ). Got v z) k
gives_by_word v (c ∷ w) [] r h = absurd cc
gives_by_word v (c ∷ w) (d ∷ s) r h = gives_by_cond v (d == c) w s r (d ∷ s) (λ k. gives_by_word v w s r k) h

pub gives_not_word : {V : Type 0} (v : V) (w s r : List ℕ) → word_at w s ≡ Stuck r → gives_at v w s ≡ Stuck r
gives_not_word v [] s r h = absurd cc
gives_not_word v (c ∷ w) [] r h = let k : [] ≡ r = cc in ap (λ (z : List ℕ). Stuck z) k
gives_not_word v (c ∷ w) (d ∷ s) r h = gives_not_cond v (d == c) w s r (d ∷ s) (λ k. gives_not_word v w s r k) h
