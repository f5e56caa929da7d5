-- The readers read the grammar.
use Rattle.std.{proofs.Common.{◌≡◌, ℕ, true, false, List, [], ◌∷◌, ◌++◌, refl, ap, ◌∙◌, inl, inr, None}, specs.Prelude.{codes}}
use Rattle.title_land.specs.declared.rectangle.{Quarter.{Quarter, TheVariants.{Northeast, Northwest, Southwest, Southeast}}, Half.{Half}}
use Rattle.title_land.specs.declared.rectangle.{Half.TheVariants.{North, South, East, West}, Step.{Step}}
use Rattle.title_land.specs.declared.rectangle.Step.TheVariants as step
use Rattle.title_grammar.specs.{Language.{Language, Gives, Then, Word, Maybe, cons, ◌*>◌, ◌<|>◌}, Reading.{as_at}}
use Rattle.title_grammar.specs.Laws.{Exact.{Exact, one_of_exact}, Repeat.{gives_exact}}
use Rattle.title_grammar.specs.Laws.Combine.{sequence, choose, repeat, word, same_language, maybe_exact, un_word}
use Rattle.title_aliquot.specs.Grammar.{SectionText, SectionParts, LandText, Description, SectionNumber, RangeText, TownshipText, digits}
use Rattle.title_aliquot.specs.Grammar.{decimal, Everything, section_of, syntax_of, whole_section, Number, QuarterMark, HalfMark}
use Rattle.title_aliquot.specs.{Grammar.{QuarterName, HalfName, StepText, Part, Parts}, Readers.{next_part_at}}
use Rattle.title_aliquot.specs.Readers.{section_number_at, range_at, township_at, section_parts_at, section_at, land_at, description_at}
use Rattle.title_aliquot.specs.Readers.{number_at, quarter_mark_at, half_mark_at, behind_at, step_at, joined_at, part_at, parts_at}

pub number_exact : Exact number_at Number digits digits false
unfolding number_at
number_exact = sequence decimal (one_of_exact digits 48 refl) (repeat (one_of_exact digits 48 refl) refl) refl

pub quarter_mark_exact : Exact quarter_mark_at QuarterMark (codes "1/" ++ 188 ∷ []) [] false
unfolding quarter_mark_at
quarter_mark_exact = choose (word (codes "1/4")) (choose (word (codes "/4")) (word (188 ∷ [])) refl) refl

pub half_mark_exact : Exact half_mark_at HalfMark (codes "1/" ++ 189 ∷ []) [] false
unfolding half_mark_at
half_mark_exact = choose (word (codes "1/2")) (choose (word (codes "/2")) (word (189 ∷ [])) refl) refl

-- ---- steps, with their first letter taken first

abbrev With : Step → Language (Unit {0}) → Language Step
With v M = Then (λ u w. u) (Gives v []) M

abbrev Behind : Quarter → Quarter → Half → Language Step
Behind east west half = (Word (codes "e") *> With (step.Quarter east) QuarterMark) <|>
    (Word (codes "w") *> With (step.Quarter west) QuarterMark) <|> With (step.Half half) HalfMark

abbrev Steps : Language Step
Steps = (Word (codes "n") *> Behind Northeast Northwest North)
    <|> (Word (codes "s") *> Behind Southeast Southwest South)
    <|> (Word (codes "e") *> With (step.Half East) HalfMark)
    <|> (Word (codes "w") *> With (step.Half West) HalfMark)

with_quarter : (v : Step) → Exact (as_at v quarter_mark_at) (With v QuarterMark) (codes "1/" ++ 188 ∷ []) [] false
with_quarter v = sequence (λ u w. u) (gives_exact v []) quarter_mark_exact refl

with_half : (v : Step) → Exact (as_at v half_mark_at) (With v HalfMark) (codes "1/" ++ 189 ∷ []) [] false
with_half v = sequence (λ u w. u) (gives_exact v []) half_mark_exact refl

behind_exact : (east west : Quarter) (half : Half) → Exact (behind_at east west half) (Behind east west half) (codes "ew1/" ++ 189 ∷ []) []
    false
unfolding behind_at
behind_exact east west half =
    choose (sequence (λ u v. v) (word (codes "e")) (with_quarter (step.Quarter east)) refl)
    (choose (sequence (λ u v. v) (word (codes "w")) (with_quarter (step.Quarter west)) refl) (with_half (step.Half half)) refl) refl

steps_exact : Exact step_at Steps (codes "nsew") [] false
unfolding step_at
steps_exact =
    choose (sequence (λ u v. v) (word (codes "n")) (behind_exact Northeast Northwest North) refl)
    (choose (sequence (λ u v. v) (word (codes "s")) (behind_exact Southeast Southwest South) refl)
    (choose (sequence (λ u v. v) (word (codes "e")) (with_half (step.Half East)) refl)
    (sequence (λ u v. v) (word (codes "w")) (with_half (step.Half West)) refl) refl) refl) refl

one : (c : ℕ) (v : Step) (M : Language (Unit {0})) (x : Unit {0}) (q : List ℕ) → M x q → (Word (c ∷ []) *> With v M) v (c ∷ q)
one c v M x q m = (tt, v, c ∷ [], q, refl, refl, (refl, refl), (v, x, [], q, refl, refl, (refl, refl), m))

two : (c d : ℕ) (v : Step) (M : Language (Unit {0})) (x : Unit {0}) (q : List ℕ) → M x q
    → (Word (c ∷ []) *> (Word (d ∷ []) *> With v M)) v (c ∷ (d ∷ q))
two c d v M x q m = (tt, v, c ∷ [], d ∷ q, refl, refl, (refl, refl), one d v M x q m)

plain : (c : ℕ) (v : Step) (M : Language (Unit {0})) (x : Unit {0}) (q : List ℕ) → M x q → (Word (c ∷ []) *> With v M) v (c ∷ q)
plain c v M x q m = one c v M x q m

quarter_steps : (q : Quarter) (p : List ℕ) (x : Unit {0}) (t : List ℕ) → QuarterName q p → QuarterMark x t → Steps (step.Quarter q) (p ++ t)
quarter_steps q p x t (inl e) m = rw (e.0, e.1) (inl (
  tt,
  step.Quarter Northeast,
  codes "n",
  codes "e" ++ t,
  refl,
  refl,
  (refl, refl),
  inl (one 101 (step.Quarter Northeast) QuarterMark x t m),
))
quarter_steps q p x t (inr (inl e)) m = rw (e.0, e.1)
    (inl (
      tt,
      step.Quarter Northwest,
      codes "n",
      codes "w" ++ t,
      refl,
      refl,
      (refl, refl),
      inr (inl (one 119 (step.Quarter Northwest) QuarterMark x t m)),
    ))
quarter_steps q p x t (inr (inr (inl e))) m = rw (e.0, e.1)
    (inr (inl (
      tt,
      step.Quarter Southwest,
      codes "s",
      codes "w" ++ t,
      refl,
      refl,
      (refl, refl),
      inr (inl (one 119 (step.Quarter Southwest) QuarterMark x t m)),
    )))
quarter_steps q p x t (inr (inr (inr e))) m = rw (e.0, e.1)
    (inr (inl (
      tt,
      step.Quarter Southeast,
      codes "s",
      codes "e" ++ t,
      refl,
      refl,
      (refl, refl),
      inl (one 101 (step.Quarter Southeast) QuarterMark x t m),
    )))

with_mark : (v : Step) (M : Language (Unit {0})) (x : Unit {0}) (t : List ℕ) → M x t → With v M v t
with_mark v M x t m = (v, x, [], t, refl, refl, (refl, refl), m)

half_steps : (h : Half) (p : List ℕ) (x : Unit {0}) (t : List ℕ) → HalfName h p → HalfMark x t → Steps (step.Half h) (p ++ t)
half_steps h p x t (inl e) m = rw (e.0, e.1) (inl (
  tt,
  step.Half North,
  codes "n",
  t,
  refl,
  refl,
  (refl, refl),
  inr (inr (with_mark (step.Half North) HalfMark x t m)),
))
half_steps h p x t (inr (inl e)) m = rw (e.0, e.1) (inr
    (inl (tt, step.Half South, codes "s", t, refl, refl, (refl, refl), inr (inr (with_mark (step.Half South) HalfMark x t m)))))
half_steps h p x t (inr (inr (inl e))) m = rw (e.0, e.1) (inr (inr (inl (one 101 (step.Half East) HalfMark x t m))))
half_steps h p x t (inr (inr (inr e))) m = rw (e.0, e.1) (inr (inr (inr (one 119 (step.Half West) HalfMark x t m))))

from_text : (v : Step) (s : List ℕ) → StepText v s → Steps v s
from_text v s (inl h) = rw (h.4, h.5) (quarter_steps h.0 h.2 h.1 h.3 h.6 h.7)
from_text v s (inr h) = rw (h.4, h.5) (half_steps h.0 h.2 h.1 h.3 h.6 h.7)

un_with : (v : Step) (M : Language (Unit {0})) (w : Step) (s : List ℕ) → With v M w s → (x : Unit {0}) × (w ≡ v) × M x s
un_with v M w s h = (h.1, h.4 ∙ h.6.0, (let e : s ≡ h.3 = rw (h.5, h.6.1) refl in rw e h.7))

quarter_text : (q : Quarter) (a b : ℕ) → QuarterName q (a ∷ (b ∷ [])) → (w : Step) (s : List ℕ) →
    (Word (a ∷ []) *> (Word (b ∷ []) *> With (step.Quarter q) QuarterMark)) w s → StepText w s
quarter_text q a b n w s h =
    let i = un_word (a ∷ []) (Word (b ∷ []) *> With (step.Quarter q) QuarterMark) w s h in
    let j = un_word (b ∷ []) (With (step.Quarter q) QuarterMark) w i.0 i.2 in
    let k = un_with (step.Quarter q) QuarterMark w j.0 j.2 in
    inl (q, k.0, a ∷ (b ∷ []), j.0, k.1, (i.1 ∙ ap (λ (z : List ℕ). a ∷ z) j.1), n, k.2)

half_text : (h : Half) (a : ℕ) → HalfName h (a ∷ []) → (w : Step) (s : List ℕ) → (Word (a ∷ []) *> With (step.Half h) HalfMark) w s
    → StepText w s
half_text h a n w s x =
    let i = un_word (a ∷ []) (With (step.Half h) HalfMark) w s x in
    let k = un_with (step.Half h) HalfMark w i.0 i.2 in
    inr (h, k.0, a ∷ [], i.0, k.1, i.1, n, k.2)

-- an n or s was taken, and the rest is one of three
behind_text : (east west : Quarter) (half : Half) (a : ℕ) → QuarterName east (a ∷ codes "e") → QuarterName west (a ∷ codes "w")
    → HalfName half (a ∷ []) →
    (w : Step) (q : List ℕ) → Behind east west half w q → StepText w (a ∷ q)
behind_text east west half a ne nw n w q (inl h) = quarter_text east a 101 ne w (a ∷ q) (tt, w, a ∷ [], q, refl, refl, (refl, refl), h)
behind_text east west half a ne nw n w q (inr (inl h)) =
    quarter_text west a 119 nw w (a ∷ q) (tt, w, a ∷ [], q, refl, refl, (refl, refl), h)
behind_text east west half a ne nw n w q (inr (inr h)) = half_text half a n w (a ∷ q) (tt, w, a ∷ [], q, refl, refl, (refl, refl), h)

to_text : (v : Step) (s : List ℕ) → Steps v s → StepText v s
to_text v s (inl h) =
    let i = un_word (codes "n") (Behind Northeast Northwest North) v s h in
    rw i.1 (behind_text Northeast Northwest North 110 (inl (refl, refl)) (inr (inl (refl, refl))) (inl (refl, refl)) v i.0 i.2)
to_text v s (inr (inl h)) =
    let i = un_word (codes "s") (Behind Southeast Southwest South) v s h in
    rw i.1 (behind_text Southeast Southwest South 115 (inr (inr (inr (refl, refl)))) (inr (inr (inl (refl, refl)))) (inr (inl (refl, refl)))
    v i.0 i.2)
to_text v s (inr (inr (inl h))) = half_text East 101 (inr (inr (inl (refl, refl)))) v s h
to_text v s (inr (inr (inr h))) = half_text West 119 (inr (inr (inr (refl, refl)))) v s h

pub step_exact : Exact step_at StepText (codes "nsew") [] false
step_exact = same_language StepText steps_exact to_text from_text

-- ---- the rest

pub joined_exact : Exact joined_at (Maybe (Word (codes "of") *> Maybe (Word (codes "the"))) *> StepText) (codes "onsew") [] false
unfolding joined_at
joined_exact = sequence (λ u v. v) (maybe_exact (sequence (λ u v. v) (word (codes "of")) (maybe_exact (word (codes "the")) refl) refl) refl)
    step_exact refl

pub part_exact : Exact part_at Part (codes "nsew") (codes "onsew") false
unfolding part_at
part_exact = sequence cons step_exact (repeat joined_exact refl) refl

pub next_part_exact : Exact next_part_at (Word (codes ",") *> Part) (codes ",") (codes "onsew") false
next_part_exact = sequence (λ u v. v) (word (codes ",")) part_exact refl

pub parts_exact : Exact parts_at Parts (codes "ansew") (codes ",onsewonsew") false
unfolding parts_at
parts_exact = choose (gives_exact whole_section (codes "all")) (sequence cons part_exact (repeat next_part_exact refl) refl) refl

sec_to : (v : Unit {0}) (s : List ℕ) → (Word (codes "sec") *> Maybe (Word (codes "tion"))) v s
    → (Word (codes "section") <|> Word (codes "sec")) v s
sec_to v s h =
    let k = un_word (codes "sec") (Maybe (Word (codes "tion"))) v s h in
    elim k.2 [
      | inl e ↦ inl (refl, k.1 ∙ ap (λ (z : List ℕ). codes "sec" ++ z) e.1)
      | inr e ↦ inr (refl, k.1 ∙ ap (λ (z : List ℕ). codes "sec" ++ z) e.1)
    ]

sec_from : (v : Unit {0}) (s : List ℕ) → (Word (codes "section") <|> Word (codes "sec")) v s
    → (Word (codes "sec") *> Maybe (Word (codes "tion"))) v s
sec_from v s (inl e) = (tt, tt, codes "sec", codes "tion", e.0, e.1, (refl, refl), inl (refl, refl))
sec_from v s (inr e) = (tt, tt, codes "sec", [], e.0, e.1, (refl, refl), inr (refl, refl))

section_number_exact : Exact section_number_at SectionNumber (codes "s") digits false
unfolding section_number_at
section_number_exact = sequence (λ u v. v)
    (same_language (Word (codes "section") <|> Word (codes "sec"))
    (sequence (λ u v. v) (word (codes "sec")) (maybe_exact (word (codes "tion")) refl) refl) sec_to sec_from)
    number_exact refl

range_exact : Exact range_at RangeText (codes "r") [] false
unfolding range_at
range_exact = sequence (λ u v. v) (word (codes "r"))
    (sequence (λ n e. (n, e)) number_exact (choose (gives_exact true (codes "e")) (gives_exact false (codes "w")) refl) refl) refl

township_exact : Exact township_at TownshipText (codes "t") [] false
unfolding township_at
township_exact = sequence (λ u v. v) (word (codes "t"))
    (sequence (λ n e. (n, e)) number_exact (choose (gives_exact true (codes "n")) (gives_exact false (codes "s")) refl) refl) refl

section_parts_exact : Exact section_parts_at SectionParts (codes ",:ansew") (codes ",onsewonsew,:ansew") true
unfolding section_parts_at
section_parts_exact = choose (sequence (λ u v. v) (choose (word (codes ",")) (maybe_exact (word (codes ":")) refl) refl) parts_exact refl)
    (gives_exact whole_section []) refl

section_exact : Exact section_at SectionText (codes ",s") (codes ",onsewonsew,:ansew0123456789,s") true
unfolding section_at
section_exact = choose (sequence (λ u v. v) (maybe_exact (word (codes ",")) refl)
    (sequence section_of section_number_exact section_parts_exact refl) refl) (gives_exact None []) refl

land_exact : Exact land_at LandText (codes "t") (codes ",onsewonsew,:ansew0123456789,s") false
unfolding land_at
land_exact = sequence syntax_of township_exact
    (sequence (λ u v. v) (choose (word (codes ",")) (maybe_exact (word (codes "-")) refl) refl)
    (sequence (λ r s. (r, s)) range_exact section_exact refl) refl) refl

pub description_exact : Exact description_at Description (codes "et") (codes ",onsewonsew,:ansew0123456789,s") false
unfolding description_at Description
description_exact = choose (gives_exact Everything (codes "everything")) land_exact refl
