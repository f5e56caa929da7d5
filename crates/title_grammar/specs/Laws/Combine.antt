-- The readers' exactness, built along the lines of a grammar.
use Rattle.std.proofs.Common.{◌≡◌, ℕ, Bool, true, false, ◌&&◌, List, [], ◌++◌, refl}
use Rattle.title_grammar.specs.{Language.{Language, Then, Or, Many, Word, Maybe, ◌*>◌}, Laws.Heads.{disjoint}}
use Rattle.title_grammar.specs.{Reading.{Read, then_at, or_at, many_at, word_at, maybe_at}, Laws.Exact.{Exact, when, then_exact, or_exact}}
use Rattle.title_grammar.specs.Laws.Repeat.{many_exact, gives_exact, front, is_empty}

pub sequence : {U V W : Type 0} (f : U → V → W) {a : List ℕ → Read U} {A : Language U} {fa ma : List ℕ} {ea : Bool}
    {b : List ℕ → Read V} {B : Language V} {fb mb : List ℕ} {eb : Bool} →
    Exact a A fa ma ea → Exact b B fb mb eb → disjoint fb ma ≡ true →
    Exact (then_at f a b) (Then f A B) (fa ++ when ea fb) (mb ++ when eb ma) (ea && eb)
sequence f {a} {A} {fa} {ma} {ea} {b} {B} {fb} {mb} {eb} x y d = then_exact f a A fa ma ea b B fb mb eb x y d

pub choose : {V : Type 0} {a : List ℕ → Read V} {A : Language V} {fa ma : List ℕ}
    {b : List ℕ → Read V} {B : Language V} {fb mb : List ℕ} {eb : Bool} →
    Exact a A fa ma false → Exact b B fb mb eb → disjoint fb fa ≡ true →
    Exact (or_at fa a b) (Or A B) (fa ++ fb) ((ma ++ mb) ++ when eb fa) eb
choose {V} {a} {A} {fa} {ma} {b} {B} {fb} {mb} {eb} x y d = or_exact a A fa ma b B fb mb eb x y d

pub repeat : {V : Type 0} {a : List ℕ → Read V} {A : Language V} {first more : List ℕ} → Exact a A first more false
    → disjoint first more ≡ true →
    Exact (many_at first a) (Many A) first (first ++ more) true
repeat {V} {a} {A} {first} {more} x d = many_exact a A first more x d

pub word : (w : List ℕ) → Exact (word_at w) (Word w) (front w) [] (is_empty w)
word w = gives_exact tt w

-- a language of the same texts
pub same_language : {V : Type 0} {a : List ℕ → Read V} {A : Language V} {first more : List ℕ} {empty : Bool} (B : Language V)
    → Exact a A first more empty →
    ((v : V) (s : List ℕ) → A v s → B v s) → ((v : V) (s : List ℕ) → B v s → A v s) → Exact a B first more empty
same_language B x to from = record {
  heads = λ v p h. x.heads v p (from v p h);
  got = λ s v r h. let g = x.got s v r h in record { text = g.text; whole = g.whole; spells = to v g.text g.spells; again = g.again };
  stuck = λ s r h. let g = x.stuck s r h in record {
    text = g.text;
    whole = g.whole;
    begins =
        (g.begins.0, g.begins.1, to g.begins.1 (g.text ++ g.begins.0) g.begins.2);
    again = g.again;
  };
  complete = λ v p r h k. x.complete v p r (from v p h) k;
  example = (x.example.0, x.example.1, to x.example.1 ([] ++ x.example.0) x.example.2);
}

pub maybe_exact : {a : List ℕ → Read (Unit {0})} {A : Language (Unit {0})} {fa ma : List ℕ} → Exact a A fa ma false
    → disjoint [] fa ≡ true →
    Exact (maybe_at fa a) (Maybe A) (fa ++ []) ((ma ++ []) ++ fa) true
maybe_exact x d = choose x (word []) d

pub un_word : {V : Type 0} (w : List ℕ) (A : Language V) (v : V) (s : List ℕ) → (Word w *> A) v s → (q : List ℕ) × (s ≡ w ++ q) × A v q
un_word w A v s h = (h.3, rw (h.5, h.6.1) refl, rw h.4 h.7)
