-- The loops of the readers.
use Rattle.std.proofs.Common.{◌≡◌, ℕ, ◌+◌, ◌<◌, true, false, List, [], ◌∷◌, ◌++◌, length, fold, refl, sym, ap, ◌∙◌, arith, append_assoc}
use Rattle.std.{specs.Prelude.{codes}, proofs.lemmas.List.{append-nil}}
use Rattle.title_land.specs.declared.rectangle.Step.{Step}
use Rattle.title_grammar.specs.{Reading.{Read, Got, Stuck, and_then, starts, gives_at, one_of_at, many_at}, Laws.Exact.{one_of_exact}}
use Rattle.title_grammar.specs.Laws.{Repeat.{takes_some, many_next, many_ends, many_stops}, Words.{gives_by_word, gives_not_word}}
use Rattle.title_aliquot.{specs.{Grammar.{digits, more_digits, whole_section}, Entries.{with_step}}, proofs.Entries.{with_step-last}}
use Rattle.title_aliquot.specs.Readers.{number_at, step_at, joined_at, part_at, parts_at, with_part, next_part_at}
use Rattle.title_aliquot.specs.Laws.Grammar.{joined_exact, next_part_exact}

-- a number of which n was read
abbrev pub number_from : ℕ → List ℕ → Read ℕ
number_from n s = and_then (many_at digits (one_of_at digits) s) (λ cs t. Got (fold more_digits n cs) t)

pub number_next : (n : ℕ) (s : List ℕ) (c : ℕ) (r : List ℕ) → starts digits s ≡ true → one_of_at digits s ≡ Got c r →
    number_from n s ≡ number_from (more_digits n c) r
number_next n s c r h e = many_next (one_of_exact digits 48 refl) s c r (λ cs t. Got (fold more_digits n cs) t) h e

pub number_ends : (n : ℕ) (s : List ℕ) → starts digits s ≡ false → number_from n s ≡ Got n s
number_ends n s h = many_ends digits (one_of_at digits) s (λ cs t. Got (fold more_digits n cs) t) h

pub number_stops : (n : ℕ) (s r : List ℕ) → starts digits s ≡ true → one_of_at digits s ≡ Stuck r → number_from n s ≡ Stuck r
number_stops n s r h e = many_stops digits (one_of_at digits) s r (λ cs t. Got (fold more_digits n cs) t) h e

pub number_first : (s : List ℕ) (c : ℕ) (r : List ℕ) → one_of_at digits s ≡ Got c r → number_at s ≡ number_from (more_digits 0 c) r
unfolding number_at
number_first s c r e = rw e refl

pub number_none : (s r : List ℕ) → one_of_at digits s ≡ Stuck r → number_at s ≡ Stuck r
unfolding number_at
number_none s r e = rw e refl

-- parts, with steps behind those of the last
abbrev pub steps_from : List (List Step) → List ℕ → Read (List (List Step))
steps_from parts s = and_then (many_at (codes "onsew") joined_at s) (λ vs t. Got (fold with_step parts vs) t)

pub steps_next : (parts : List (List Step)) (s : List ℕ) (v : Step) (r : List ℕ) → starts (codes "onsew") s ≡ true → joined_at s ≡ Got v r →
    steps_from parts s ≡ steps_from (with_step parts v) r
steps_next parts s v r h e = many_next joined_exact s v r (λ vs t. Got (fold with_step parts vs) t) h e

pub steps_end : (parts : List (List Step)) (s : List ℕ) → starts (codes "onsew") s ≡ false → steps_from parts s ≡ Got parts s
steps_end parts s h = many_ends (codes "onsew") joined_at s (λ vs t. Got (fold with_step parts vs) t) h

pub steps_stop : (parts : List (List Step)) (s r : List ℕ) → starts (codes "onsew") s ≡ true → joined_at s ≡ Stuck r →
    steps_from parts s ≡ Stuck r
steps_stop parts s r h e = many_stops (codes "onsew") joined_at s r (λ vs t. Got (fold with_step parts vs) t) h e

steps_last : (parts : List (List Step)) (p vs : List Step) → fold with_step (parts ++ p ∷ []) vs ≡ parts ++ (p ++ vs) ∷ []
steps_last parts p [] = rw append-nil refl
steps_last parts p (v ∷ vs) = rw (with_step-last parts p v, steps_last parts (p ++ v ∷ []) vs) (simp append_assoc refl)

last_as : (parts : List (List Step)) (p : List Step) (m : Read (List Step)) →
    and_then (and_then m (λ vs t. Got (p ++ vs) t)) (λ part r. Got (parts ++ part ∷ []) r)
    ≡ and_then m (λ vs t. Got (fold with_step (parts ++ p ∷ []) vs) t)
last_as parts p (Got vs t) = rw (steps_last parts p vs) refl
last_as parts p (Stuck t) = refl

first_step : (s : List ℕ) (v : Step) (r : List ℕ) → step_at s ≡ Got v r →
    part_at s ≡ and_then (many_at (codes "onsew") joined_at r) (λ vs t. Got ((v ∷ []) ++ vs) t)
unfolding part_at
first_step s v r e = rw e refl

no_step : (s r : List ℕ) → step_at s ≡ Stuck r → part_at s ≡ Stuck r
unfolding part_at
no_step s r e = rw e refl

pub part_begins : (parts : List (List Step)) (s : List ℕ) (v : Step) (r : List ℕ) → step_at s ≡ Got v r →
    with_part parts part_at s ≡ steps_from (with_step (parts ++ [] ∷ []) v) r
part_begins parts s v r e =
    let one = ap (λ (z : List (List Step)). steps_from z r) (with_step-last parts [] v) in
    ap (λ (m : Read (List Step)). and_then m (λ part t. Got (parts ++ part ∷ []) t)) (first_step s v r e)
    ∙ last_as parts (v ∷ []) (many_at (codes "onsew") joined_at r) ∙ sym one

pub part_none : (parts : List (List Step)) (s r : List ℕ) → step_at s ≡ Stuck r → with_part parts part_at s ≡ Stuck r
part_none parts s r e = ap (λ (m : Read (List Step)). and_then m (λ part t. Got (parts ++ part ∷ []) t)) (no_step s r e)

first_digit : (d : ℕ) → d < 10 → more_digits 0 (d + 48) ≡ d
first_digit d h = omega arith

pub number_begins : (s : List ℕ) (d : ℕ) (r : List ℕ) → d < 10 → one_of_at digits s ≡ Got (d + 48) r → number_at s ≡ number_from d r
number_begins s d r h e = number_first s (d + 48) r e ∙ ap (λ (n : ℕ). number_from n r) (first_digit d h)

pub joined_shorter : (s : List ℕ) (v : Step) (r : List ℕ) → joined_at s ≡ Got v r → length r < length s
joined_shorter s v r e = takes_some joined_exact s v r e

-- parts, of which some were read
abbrev pub parts_from : List (List Step) → List ℕ → Read (List (List Step))
parts_from parts s = and_then (many_at (codes ",") next_part_at s) (λ vs t. Got (parts ++ vs) t)

-- what a part read behind others is
part_got : (parts qs : List (List Step)) (m : Read (List Step)) (r : List ℕ) →
    and_then m (λ part t. Got (parts ++ part ∷ []) t) ≡ Got qs r →
    (part : List Step) × (m ≡ Got part r) × (qs ≡ parts ++ part ∷ [])
part_got parts qs (Got part t) r h = let e : t ≡ r = cc in (part, ap (λ (z : List ℕ). Got part z) e, cc)
part_got parts qs (Stuck t) r h = absurd cc

part_stuck : (parts : List (List Step)) (m : Read (List Step)) (r : List ℕ) → and_then m (λ part t. Got (parts ++ part ∷ []) t) ≡ Stuck r →
    m ≡ Stuck r
part_stuck parts (Got part t) r h = absurd cc
part_stuck parts (Stuck t) r h = cc

part_more : (parts : List (List Step)) (s : List ℕ) (v : List Step) (r : List ℕ) → starts (codes ",") s ≡ true → next_part_at s ≡ Got v r →
    parts_from parts s ≡ parts_from (parts ++ v ∷ []) r
part_more parts s v r h e = many_next next_part_exact s v r (λ vs t. Got (parts ++ vs) t) h e ∙ simp append_assoc refl

pub parts_next : (parts qs : List (List Step)) (s r : List ℕ) → starts (codes ",") s ≡ true → with_part parts next_part_at s ≡ Got qs r →
    parts_from parts s ≡ parts_from qs r
parts_next parts qs s r h e =
    let k = part_got parts qs (next_part_at s) r e in
    part_more parts s k.0 r h k.1 ∙ ap (λ (z : List (List Step)). parts_from z r) (sym k.2)

pub parts_end : (parts : List (List Step)) (s : List ℕ) → starts (codes ",") s ≡ false → parts_from parts s ≡ Got parts s
parts_end parts s h = many_ends (codes ",") next_part_at s (λ vs t. Got (parts ++ vs) t) h ∙ simp append-nil refl

pub parts_stop : (parts : List (List Step)) (s r : List ℕ) → starts (codes ",") s ≡ true → with_part parts next_part_at s ≡ Stuck r →
    parts_from parts s ≡ Stuck r
parts_stop parts s r h e = many_stops (codes ",") next_part_at s r (λ vs t. Got (parts ++ vs) t) h (part_stuck parts (next_part_at s) r e)

first_part : (s : List ℕ) (v : List Step) (r : List ℕ) → starts (codes "a") s ≡ false → part_at s ≡ Got v r →
    parts_at s ≡ parts_from (v ∷ []) r
unfolding parts_at
first_part s v r h e = rw (h, e) refl

no_part : (s r : List ℕ) → starts (codes "a") s ≡ false → part_at s ≡ Stuck r → parts_at s ≡ Stuck r
unfolding parts_at
no_part s r h e = rw (h, e) refl

pub parts_begin : (qs : List (List Step)) (s r : List ℕ) → starts (codes "a") s ≡ false → with_part [] part_at s ≡ Got qs r →
    parts_at s ≡ parts_from qs r
parts_begin qs s r h e =
    let k = part_got [] qs (part_at s) r e in
    first_part s k.0 r h k.1 ∙ ap (λ (z : List (List Step)). parts_from z r) (sym k.2)

pub parts_none : (s r : List ℕ) → starts (codes "a") s ≡ false → with_part [] part_at s ≡ Stuck r → parts_at s ≡ Stuck r
parts_none s r h e = no_part s r h (part_stuck [] (part_at s) r e)

pub parts_all : (s : List ℕ) → starts (codes "a") s ≡ true → parts_at s ≡ gives_at whole_section (codes "all") s
unfolding parts_at
parts_all s h = rw h refl

pub next_part_shorter : (parts qs : List (List Step)) (s r : List ℕ) → with_part parts next_part_at s ≡ Got qs r → length r < length s
next_part_shorter parts qs s r e = let k = part_got parts qs (next_part_at s) r e in takes_some next_part_exact s k.0 r k.1

-- ---- what each loop's proof cites

pub ruleset number_loop = (number_begins, number_none, number_next, number_ends, number_stops)

pub ruleset part_loop = (joined_shorter, part_begins, part_none, steps_next, steps_end, steps_stop)

pub ruleset parts_loop = (next_part_shorter, parts_begin, parts_none, parts_next, parts_end, parts_stop)

-- a word's value
pub ruleset word_given = (gives_by_word, gives_not_word)
