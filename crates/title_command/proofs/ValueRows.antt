-- The rows of a level of clap's parse without a fault: each has a value that fits its argument, so a getter reads one.
use Rattle.std.{proofs.Common.{◌==◌, ◌≡◌, ◌<◌, ◌≤◌, ◌&&◌, ◌⊎◌, inl, inr, is_some, subst, ℕ, true}, specs.Option.{option_map_or}}
use Rattle.std.{proofs.Common.{false, zero, suc, refl, sym, arith, List, []}, specs.Str.{bytes_eq, chars}}
use Rattle.std.proofs.{Common.{◌∷◌, ◌++◌, Bool, length, drop, Option, Some, None, length-append}, lemmas.Bool.{eqb-true, ltb-false}}
use Rattle.std.{specs.Prelude.{if◌then◌else◌, nat_lt, find, fold, slice_get, encode_utf8}, proofs.lemmas.Slice.Eq.{bytes_eq-Decides}}
use Rattle.clap.specs.{Lexer.{long_of, short_of}, Facts.{parser_of_value, unwrap_or_range}, Walk.{word_met}, Simple.{Shape}}
use Rattle.clap.specs.Walk.{done, waits, plain, refused, idle, option, positional, next, trailing, subcommand, value, Held, Names}
use Rattle.clap.specs.Walk.{Outcome, Row, Rule, Step, Text, Waiting, Walk, action_of, after_flag, after_step, arg_by_id, arg_by_index}
use Rattle.clap.specs.Walk.{arg_by_long, arg_by_short, at_row, attached_value, bundle, bundle_met, bundle_step, default_rows, flag_met}
use Rattle.clap.specs.Walk.{reading_by, has_row, is_pending, long_met, long_or_other, more_values, most_values, nothing_held, option_met}
use Rattle.clap.specs.Walk.{option_word, plain_word, positional_held, reacted, rows_after, settled, settled_rows, short_met}
use Rattle.clap.specs.Walk.{short_or_plain, subcommand_met, subcommand_or_other, takes_several, takes_values, to_positional, used}
use Rattle.clap.specs.Walk.{used_as, values_or_missing, walk, walk_from, walked, walked_from, with_default, with_values, without}
use Rattle.clap.specs.{Kinds.{Kinds, or_else, range_kinds, value_kinds, values_kinds}, declared.builder.action.ArgAction.{ArgAction}}
use Rattle.clap.specs.Faults.{action_fault, bundle_fault, bundle_step_fault, check_fault, defaults_fault, flag_word_fault, flags_fault}
use Rattle.clap.specs.Faults.{level_fault, long_fault, option_fault, other_fault, positional_fault, react_fault, repeat_fault, set_fault}
use Rattle.clap.specs.Faults.{settle_fault, short_fault, step_fault, stray_fault, turn_fault, use_fault, walk_fault, word_fault}
use Rattle.clap.specs.declared.builder.{action.ArgAction.TheVariants.{Set, SetTrue, Help}, value_parser.Reading.{Reading}}
use Rattle.clap.specs.declared.error.kind.ErrorKind.TheVariants.{TooManyValues, WrongNumberOfValues}
use Rattle.clap.specs.declared.{builder.value_parser.Reading.TheVariants.{AsWritten}, parser.matches.ValueSource.{ValueSource}}
use Rattle.clap.specs.declared.parser.matches.ValueSource.TheVariants.{CommandLine, DefaultValue}

-- a fact of each element
abbrev pub Each : {X : Type 0} → (X → Type 0) → List X → Type 0
Each P [] = Unit {0}
Each P (x ∷ xs) = P x × Each P xs

-- a fact of the elements of two lists is one of the elements of both in a row
Each-append : {X : Type 0} (P : X → Type 0) (xs ys : List X) → Each P xs → Each P ys → Each P (xs ++ ys)
Each-append P [] ys a b = b
Each-append P (x ∷ xs) ys a b = (a.0, Each-append P xs ys a.1 b)

-- what a look-up finds has the fact
pub found_has : {X : Type 0} (P : X → Type 0) (test : X → Bool) (c : List X) → Each P c → (a : X) → find test c ≡ Some a → P a
found_has {X} P test [] h a e = absurd (cc)
found_has {X} P test (x ∷ xs) h a e = go (test x) refl (found_has P test xs h.1)
  where
    go : (b : Bool) → test x ≡ b → ((y : X) → find test xs ≡ Some y → P y) → P a
    go true is rest =
        let now = rw is at e in
        let same : x ≡ a = cc in
        subst P same h.0
    go false is rest =
        let now = rw is at e in
        rest a now

-- what values fit an argument of this id
abbrev pub Fit : Type 1
Fit = Text → Text → Type 0

-- the argument has a value, is read as it is written, and each of its values fits it
abbrev pub HasValue : Fit → Row → Type 0
HasValue P r = (0 < length r.values) × (r.reading ≡ AsWritten) × Each (P r.id) r.values

-- each argument of these has
abbrev pub HasValues : Fit → List Row → Type 0
HasValues P = Each (HasValue P)

-- each argument that is held so far has
abbrev pub HoldsValues : Fit → Held → Type 0
HoldsValues P h = HasValues P h.rows

-- a use of the argument sets at least one value, and its parser and its defaults let through what fits
abbrev pub SetsValues : Fit → Rule → Type 0
SetsValues P a = (action_of a ≡ Set)
    × (1 ≤ (unwrap_or_range a.range).start_inclusive)
    × (reading_by a ≡ AsWritten)
    × ((v : Text) → value_kinds a.ignore_case (parser_of_value a.parser) v ≡ [] → P a.id v)
    × Each (P a.id) a.defaults

-- a use of the argument is a flag: it has no value, and sets one that fits in its place
abbrev pub SetsFlag : Fit → Rule → Type 0
SetsFlag P a = (action_of a ≡ SetTrue)
    × (((unwrap_or_range a.range).start_inclusive ≡ 0) × (most_values a ≡ 0))
    × (reading_by a ≡ AsWritten)
    × ((0 < length a.missing) × Each (P a.id) a.missing)
    × Each (P a.id) a.defaults

-- a use of the argument does so, or asks for help
abbrev pub KeepsValues : Fit → Rule → Type 0
KeepsValues P a = SetsValues P a ⊎ SetsFlag P a ⊎ ((action_of a ≡ Help) × (a.defaults ≡ []))

-- where there is no first fault and then no second, there is neither
pub no_fault : (a b : Kinds) → or_else a b ≡ [] → (a ≡ []) × (b ≡ [])
no_fault [] b e = (refl, e)
no_fault (k ∷ ks) b e = absurd (cc)

-- ---- one use of an argument

-- a change of the row of this id, or a new row of it, leaves values in each
at_row_keeps : (P : Fit) (k : Text) (change : Row → List Row) (missing rows : List Row)
    → ((r : Row) → r.id ≡ k → HasValue P r → HasValues P (change r))
    → HasValues P missing → HasValues P rows → HasValues P (at_row k change missing rows)
at_row_keeps P k change missing [] changed added h = added
at_row_keeps P k change missing (r ∷ rs) changed added h =
    go (bytes_eq r.id k) refl (at_row_keeps P k change missing rs changed added h.1)
  where
    go : (b : Bool) → bytes_eq r.id k ≡ b → HasValues P (at_row k change missing rs)
        → HasValues P (if b then change r ++ rs else r ∷ at_row k change missing rs)
    go true is rest = Each-append (HasValue P) (change r) rs (changed r ((bytes_eq-Decides r.id k).0 is) h.0) h.1
    go false is rest = (h.0, rest)

-- so does taking a row out
without_keeps : (P : Fit) (k : Text) (rows : List Row) → HasValues P rows → HasValues P (without k rows)
without_keeps P k rows h = at_row_keeps P k (λ _. []) [] rows (λ r is some. tt) tt h

-- so do new values of an argument, at least one
with_values_keeps : (P : Fit) (k : Text) (how : Reading) (s : ValueSource) (vs : List Text) (rows : List Row)
    → 0 < length vs → how ≡ AsWritten → Each (P k) vs → HasValues P rows → HasValues P (with_values k how s vs rows)
with_values_keeps P k how s vs rows some plainly fit h = at_row_keeps P k (more_values s vs) _ rows
    (λ r is had. (
      (
        rw length-append (omega arith),
        had.1,
        Each-append (P r.id) r.values vs had.2 (subst (λ (t : Text). Each (P t) vs) (sym is) fit),
      ),
      tt,
    )) ((some, plainly, fit), tt) h

-- a use that may have one value or more has one where its number is right
some_values : (least most : ℕ) (vs : List Text) → 1 ≤ least → range_kinds least most (length vs) ≡ [] → 0 < length vs
some_values least most [] one e = go (nat_lt 0 least) refl
  where
    go : (b : Bool) → nat_lt 0 least ≡ b → 0 < 0
    go true is =
        let bad = rw is at e in
        absurd (cc)
    go false is =
        let none = ltb-false 0 least is in
        absurd (omega arith)
some_values least most (v ∷ vs) one e = omega arith

-- a flag that has a value is at fault
no_value : (vs : List Text) → range_kinds 0 0 (length vs) ≡ [] → length vs ≡ 0
no_value vs e = go (0 == length vs) refl e
  where
    go : (b : Bool) → (0 == length vs) ≡ b → (if b then [] else WrongNumberOfValues ∷ []) ≡ [] → length vs ≡ 0
    go true is ok = sym (eqb-true 0 (length vs) is)
    go false is ok = absurd (cc)

-- values that the parser of an argument lets through fit it
fitting : (P : Fit) (a : Rule) (vs : List Text)
    → ((v : Text) → value_kinds a.ignore_case (parser_of_value a.parser) v ≡ [] → P a.id v)
    → values_kinds a.ignore_case (parser_of_value a.parser) vs ≡ [] → Each (P a.id) vs
fitting P a [] fits e = tt
fitting P a (v ∷ vs) fits e =
    let both = no_fault (value_kinds a.ignore_case (parser_of_value a.parser) v) _ e in
    (fits v both.0, fitting P a vs fits both.1)

-- a use of an argument without a fault leaves values in each row
used_keeps : (P : Fit) (a : Rule) (again : Bool) (values : List Text) (rows : List Row)
    → KeepsValues P a → use_fault again a values rows ≡ [] → HasValues P rows → HasValues P (used a values rows)
used_keeps P a again values rows (inl set) e h =
    let least = (unwrap_or_range a.range).start_inclusive in
    let both = no_fault (range_kinds least (most_values a) (length values)) _ e in
    go values (some_values least (most_values a) values set.1 both.0) both.1
  where
    go : (vs : List Text) → 0 < length vs → action_fault (action_of a) again a (values_or_missing a vs) rows ≡ []
        → HasValues P (used a vs rows)
    go [] some ok = absurd (omega arith)
    go (v ∷ vs) some ok =
        let sets : set_fault again a (v ∷ vs) rows ≡ [] =
        subst (λ (x : ArgAction). action_fault x again a (v ∷ vs) rows ≡ []) set.0 ok in
        let passes = (no_fault (repeat_fault again a.id rows) _ sets).1 in
        subst (λ (x : ArgAction). HasValues P (used_as x a.id (reading_by a) (v ∷ vs) rows)) (sym set.0)
        (with_values_keeps P a.id (reading_by a) CommandLine (v ∷ vs) (without a.id rows) some set.2
        (fitting P a (v ∷ vs) set.3 passes) (without_keeps P a.id rows h))
used_keeps P a again values rows (inr (inl flag)) e h =
    let both = no_fault (range_kinds (unwrap_or_range a.range).start_inclusive (most_values a) (length values)) _ e in
    go values both.0
  where
    go : (vs : List Text) → range_kinds (unwrap_or_range a.range).start_inclusive (most_values a) (length vs) ≡ []
        → HasValues P (used a vs rows)
    go (v ∷ vs) ok =
        let none = no_value (v ∷ vs) (subst (λ (n : ℕ). range_kinds 0 n (length (v ∷ vs)) ≡ []) flag.1.1
        (subst (λ (n : ℕ). range_kinds n (most_values a) (length (v ∷ vs)) ≡ []) flag.1.0 ok)) in
        absurd (omega arith)
    go [] ok = subst (λ (x : ArgAction). HasValues P (used_as x a.id (reading_by a) a.missing rows)) (sym flag.0)
        (with_values_keeps P a.id (reading_by a) CommandLine a.missing (without a.id rows) flag.3.0 flag.2 flag.3.1
        (without_keeps P a.id rows h))
used_keeps P a again values rows (inr (inr help)) e h =
    subst (λ (x : ArgAction). HasValues P (used_as x a.id (reading_by a) (values_or_missing a values) rows)) (sym help.0) h

-- ---- the walk over the words

-- and so do: the use of a pending argument,
settled_keeps : (P : Fit) (c : List Rule) (again : Bool) (h : Held) → Each (KeepsValues P) c
    → settle_fault c again h ≡ [] → HasValues P h.rows → HasValues P (settled c h).rows
settled_keeps P c again h rules e fit = go h.pending e
  where
    step : (p : Text × List Text) (o : Option Rule) → arg_by_id c p.0 ≡ o
        → option_map_or (λ (a : Rule). use_fault again a p.1 h.rows) o [] ≡ []
        → HasValues P (settled_rows c (Some p) h.rows)
    step p None is ok = rw is fit
    step p (Some a) is ok = rw is (used_keeps P a again p.1 h.rows (found_has (KeepsValues P) _ c rules a is) ok fit)

    go : (o : Option (Text × List Text)) → option_map_or
        (λ (p : Text × List Text). option_map_or (λ (a : Rule). use_fault again a p.1 h.rows) (arg_by_id c p.0) []) o [] ≡ []
        → HasValues P (settled_rows c o h.rows)
    go None ok = fit
    go (Some p) ok = step p (arg_by_id c p.0) refl ok

-- that and then the use of another,
reacted_keeps : (P : Fit) (c : List Rule) (again : Bool) (a : Rule) (values : List Text) (h : Held) → Each (KeepsValues P) c
    → KeepsValues P a → react_fault c again a values h ≡ [] → HasValues P h.rows → HasValues P (reacted c a values h).rows
reacted_keeps P c again a values h rules rule e fit =
    let both = no_fault (settle_fault c again h) _ e in
    used_keeps P a again values (settled c h).rows rule both.1 (settled_keeps P c again h rules both.0 fit)

-- an option with its value or before it,
option_keeps : (P : Fit) (c : List Rule) (again : Bool) (a : Rule) (v : Option Text) (h : Held) → Each (KeepsValues P) c
    → KeepsValues P a → option_fault c again a v h ≡ [] → HasValues P h.rows → HasValues P (option_met c a v h).0.rows
option_keeps P c again a (Some v) h rules rule e fit = reacted_keeps P c again a (v ∷ []) h rules rule e fit
option_keeps P c again a None h rules rule e fit = settled_keeps P c again h rules e fit

-- a flag,
flag_keeps : (P : Fit) (c : List Rule) (again : Bool) (a : Rule) (v : Option Text) (h : Held) → Each (KeepsValues P) c
    → KeepsValues P a → (v ≡ None → react_fault c again a [] h ≡ []) → HasValues P h.rows → HasValues P (flag_met c a v h).0.rows
flag_keeps P c again a (Some v) h rules rule e fit = fit
flag_keeps P c again a None h rules rule e fit = reacted_keeps P c again a [] h rules rule (e refl) fit

-- a word `--name` or `--name=value`,
long_keeps : (P : Fit) (c : List Rule) (again : Bool) (o : Option Rule) (v : Option Text) (h : Held) → Each (KeepsValues P) c
    → ((a : Rule) → o ≡ Some a → KeepsValues P a) → long_fault c again o v h ≡ [] → HasValues P h.rows
    → HasValues P (long_met c o v h).0.rows
long_keeps P c again None v h rules rule e fit = fit
long_keeps P c again (Some a) v h rules rule e fit = go (takes_values a) e
  where
    no_value : (w : Option Text) → (if is_some w then TooManyValues ∷ [] else react_fault c again a [] h) ≡ [] → w ≡ None
        → react_fault c again a [] h ≡ []
    no_value (Some w) ok is = absurd (cc)
    no_value None ok is = ok

    go : (b : Bool) → (if b then option_fault c again a v h else (if is_some v then TooManyValues ∷ [] else react_fault c again a [] h))
        ≡ []
        → HasValues P (if b then option_met c a v h else flag_met c a v h).0.rows
    go true ok = option_keeps P c again a v h rules (rule a refl) ok fit
    go false ok = flag_keeps P c again a v h rules (rule a refl) (no_value v ok) fit

-- one letter of a word `-abc`,
short_keeps : (P : Fit) (c : List Rule) (again : Bool) (o : Option Rule) (rest : Text) (h : Held)
    (on : Held → Held × Outcome) (more_fault : Held → Kinds) → Each (KeepsValues P) c
    → ((a : Rule) → o ≡ Some a → KeepsValues P a) → ((g : Held) → more_fault g ≡ [] → HoldsValues P g → HoldsValues P (on g).0)
    → short_fault c again o rest h more_fault ≡ [] → HoldsValues P h → HoldsValues P (short_met c o rest h on).0
short_keeps P c again None rest h on more_fault rules rule more e fit = fit
short_keeps P c again (Some a) rest h on more_fault rules rule more e fit = go (takes_values a) e
  where
    go : (b : Bool) → (if b then option_fault c again a (attached_value rest) h else or_else (react_fault c again a [] h)
        (more_fault (reacted c a [] h))) ≡ []
        → HoldsValues P (if b then option_met c a (attached_value rest) h else on (reacted c a [] h)).0
    go true ok = option_keeps P c again a (attached_value rest) h rules (rule a refl) ok fit
    go false ok =
        let both = no_fault (react_fault c again a [] h) _ ok in
        more (reacted c a [] h) both.1 (reacted_keeps P c again a [] h rules (rule a refl) both.0 fit)

-- one step through such a word,
bundle_step_keeps : (P : Fit) (c : List Rule) (again : Bool) (o : Option ℕ) (flags : Text) (skip : ℕ) (so_far : Outcome) (h : Held)
    (on : Text → ℕ → Outcome → Held → Held × Outcome) (more_fault : Text → ℕ → Held → Kinds) → Each (KeepsValues P) c
    → ((f : Text) (n : ℕ) (out : Outcome) (g : Held) → more_fault f n g ≡ [] → HoldsValues P g → HoldsValues P (on f n out g).0)
    → bundle_step_fault c again o flags skip h more_fault ≡ [] → HoldsValues P h → HoldsValues P (bundle_step c o flags skip so_far h on).0
bundle_step_keeps P c again None flags skip so_far h on more_fault rules more e fit = fit
bundle_step_keeps P c again (Some x) flags zero so_far h on more_fault rules more e fit =
    let rest = drop (length (encode_utf8 x)) flags in
    short_keeps P c again (arg_by_short c x) rest h (on rest 0 done) (more_fault rest 0) rules
    (found_has (KeepsValues P) _ c rules) (more rest 0 done) e fit
bundle_step_keeps P c again (Some x) flags (suc skip) so_far h on more_fault rules more e fit =
    more (drop (length (encode_utf8 x)) flags) skip so_far h e fit

-- the whole of it,
bundle_keeps : (P : Fit) (c : List Rule) (again : Bool) → Each (KeepsValues P) c
    → (k : ℕ) (flags : Text) (skip : ℕ) (so_far : Outcome) (h : Held)
    → flags_fault c again k flags skip h ≡ [] → HoldsValues P h → HoldsValues P (bundle_met c k flags skip so_far h).0
unfolding bundle_met flags_fault
bundle_keeps P c again rules zero flags skip so_far h e fit = fit
bundle_keeps P c again rules (suc k) flags skip so_far h e fit =
    bundle_step_keeps P c again (slice_get (chars flags) 0) flags skip so_far h (bundle_met c k) (flags_fault c again k) rules
    (bundle_keeps P c again rules k) e fit

-- a value of an option that waits for one,
option_word_keeps : (P : Fit) (o : Option Rule) (k : Text) (word : Text) (h : Held) → HoldsValues P h
    → HoldsValues P (option_word o k word h).0
option_word_keeps P None k word h fit = fit
option_word_keeps P (Some a) k word h fit = fit

-- a word that is no flag,
plain_keeps : (P : Fit) (c : List Rule) (waiting : Waiting) (word : Text) (h : Held) → HoldsValues P h
    → HoldsValues P (plain_word c waiting word h).0
plain_keeps P c (option k) word h fit = option_word_keeps P (arg_by_id c k) k word h fit
plain_keeps P c idle word h fit = fit
plain_keeps P c positional word h fit = fit

-- a word after the flags in it are done,
after_flag_keeps : (P : Fit) (c : List Rule) (waiting : Waiting) (word : Text) (h : Held) (out : Outcome) → HoldsValues P h
    → HoldsValues P (after_flag c waiting word h out).0
after_flag_keeps P c waiting word h done fit = fit
after_flag_keeps P c waiting word h (waits k) fit = fit
after_flag_keeps P c waiting word h plain fit = plain_keeps P c waiting word h fit
after_flag_keeps P c waiting word h refused fit = plain_keeps P c waiting word h fit

-- a word that is no `--name`,
short_or_plain_keeps : (P : Fit) (c : List Rule) (again : Bool) (waiting : Waiting) (word : Text) (o : Option Text) (h : Held)
    → Each (KeepsValues P) c → option_map_or (λ (flags : Text). bundle_fault c again flags h) o [] ≡ [] → HoldsValues P h
    → HoldsValues P (short_or_plain c waiting word o h).0
short_or_plain_keeps P c again waiting word None h rules e fit = plain_keeps P c waiting word h fit
short_or_plain_keeps P c again waiting word (Some flags) h rules e fit =
    after_flag_keeps P c waiting word (bundle c flags h).0 (bundle c flags h).1
    (bundle_keeps P c again rules (length flags) flags h.skip plain (record h { skip = 0 }) e fit)

-- a word that is neither a subcommand nor `--`,
long_or_other_keeps : (P : Fit) (c : List Rule) (again : Bool) (waiting : Waiting) (word : Text)
    (o : Option (Text × Option Text)) (h : Held) → Each (KeepsValues P) c
    → flag_word_fault c again o word h ≡ [] → HoldsValues P h → HoldsValues P (long_or_other c waiting word o h).0
long_or_other_keeps P c again waiting word None h rules e fit = short_or_plain_keeps P c again waiting word (short_of word) h rules e fit
long_or_other_keeps P c again waiting word (Some p) h rules e fit =
    let met = long_met c (arg_by_long c p.0) p.1 h in
    after_flag_keeps P c waiting word met.0 met.1
    (long_keeps P c again (arg_by_long c p.0) p.1 h rules (found_has (KeepsValues P) _ c rules) e fit)

-- any word, before it goes to a positional argument,
word_keeps : (P : Fit) (s : Shape) (names : Names) (is_trailing : Bool) (waiting : Waiting) (position : ℕ) (word : Text) (h : Held)
    → Each (KeepsValues P) s.rules
    → word_fault s names is_trailing waiting word h ≡ [] → HoldsValues P h
    → HoldsValues P (word_met s.rules names is_trailing waiting position word h).0
word_keeps P s names true waiting position word h rules e fit = fit
word_keeps P s names false waiting position word h rules e fit = go (subcommand_met names waiting word) e
  where
    other : (b : Bool) → (if b then [] else flag_word_fault s.rules s.args_override_self (long_of word) word h) ≡ []
        → HoldsValues P (if b then (h, trailing position) else long_or_other s.rules waiting word (long_of word) h).0
    other true ok = fit
    other false ok = long_or_other_keeps P s.rules s.args_override_self waiting word (long_of word) h rules ok fit

    go : (o : Option Text) → other_fault s o word h ≡ [] → HoldsValues P (subcommand_or_other s.rules o waiting position word h).0
    go (Some name) ok = fit
    go None ok = other (bytes_eq word (45 ∷ 45 ∷ [])) ok

-- a word that goes to one,
positional_keeps : (P : Fit) (c : List Rule) (again : Bool) (a : Rule) (word : Text) (h : Held) → Each (KeepsValues P) c
    → positional_fault c again a h ≡ [] → HoldsValues P h → HoldsValues P (positional_held c a word h)
positional_keeps P c again a word h rules e fit = go (is_pending a h.pending && takes_several a) e
  where
    go : (b : Bool) → (if b then [] else settle_fault c again h) ≡ [] → HoldsValues P (if b then h else settled c h)
    go true ok = fit
    go false ok = settled_keeps P c again h rules ok fit

-- what is done with a word,
step_keeps : (P : Fit) (s : Shape) (word : Text) (w : Walk) (h : Held) (step : Step) → Each (KeepsValues P) s.rules
    → step_fault s w.position h step ≡ [] → HoldsValues P h → HoldsValues P (after_step s.rules word w h step).held
step_keeps P s word w h (next waiting) rules e fit = fit
step_keeps P s word w h (trailing position) rules e fit = fit
step_keeps P s word w h (subcommand name) rules e fit = fit
step_keeps P s word w h value rules e fit = go (arg_by_index s.rules w.position) e
  where
    go : (o : Option Rule) → option_map_or (λ (a : Rule). positional_fault s.rules s.args_override_self a h) o (stray_fault s) ≡ []
        → HoldsValues P (to_positional s.rules o word w h).held
    go None ok = fit
    go (Some a) ok = positional_keeps P s.rules s.args_override_self a word h rules ok fit

-- a turn of the walk,
walked_keeps : (P : Fit) (s : Shape) (names : Names) (w : Walk) (word : Text) → Each (KeepsValues P) s.rules
    → turn_fault s names w word ≡ [] → HoldsValues P w.held → HoldsValues P (walked s.rules names w word).held
unfolding walked
walked_keeps P s names w word rules e fit = go w.stopped e
  where
    go : (o : Option (Text × List Text)) → (if is_some o then [] else or_else (word_fault s names w.is_trailing w.waiting word w.held)
        (step_fault s w.position (word_met s.rules names w.is_trailing w.waiting w.position word w.held).0
        (word_met s.rules names w.is_trailing w.waiting w.position word w.held).1)) ≡ []
        → HoldsValues P (walked_from s.rules names o w word).held
    go (Some p) ok = fit
    go None ok =
        let both = no_fault (word_fault s names w.is_trailing w.waiting word w.held) _ ok in
        let m = word_met s.rules names w.is_trailing w.waiting w.position word w.held in
        step_keeps P s word w m.0 m.1 rules both.1 (word_keeps P s names w.is_trailing w.waiting w.position word w.held rules both.0 fit)

-- and the walk
walk_keeps : (P : Fit) (s : Shape) (names : Names) → Each (KeepsValues P) s.rules → (w : Walk) (words : List Text)
    → walk_fault s names w words ≡ [] → HoldsValues P w.held → HoldsValues P (fold (walked s.rules names) w words).held
unfolding walk_fault
walk_keeps P s names rules w [] e fit = fit
walk_keeps P s names rules w (word ∷ rest) e fit =
    let both = no_fault (turn_fault s names w word) _ e in
    walk_keeps P s names rules (walked s.rules names w word) rest both.1 (walked_keeps P s names w word rules both.0 fit)

-- ---- the rows at the end

-- the default values of an argument leave values in each row
with_default_keeps : (P : Fit) (a : Rule) (rows : List Row) → KeepsValues P a → HasValues P rows → HasValues P (with_default rows a)
with_default_keeps P a rows rule h = go (has_row a.id rows)
  where
    some : reading_by a ≡ AsWritten → (vs : List Text) → Each (P a.id) vs → HasValues P (default_rows a.id (reading_by a) vs rows)
    some plainly [] fit = h
    some plainly (v ∷ vs) fit = with_values_keeps P a.id (reading_by a) DefaultValue (v ∷ vs) rows (omega arith) plainly fit h

    given : KeepsValues P a → HasValues P (default_rows a.id (reading_by a) a.defaults rows)
    given (inl set) = some set.2 a.defaults set.4
    given (inr (inl flag)) = some flag.2 a.defaults flag.4
    given (inr (inr help)) = subst (λ (vs : List Text). HasValues P (default_rows a.id (reading_by a) vs rows)) (sym help.1) h

    go : (b : Bool) → HasValues P (if b then rows else default_rows a.id (reading_by a) a.defaults rows)
    go true = h
    go false = given rule

-- and so do those of all arguments
defaults_keep : (P : Fit) (c : List Rule) (rows : List Row) → Each (KeepsValues P) c → HasValues P rows
    → HasValues P (fold with_default rows c)
defaults_keep P [] rows rules h = h
defaults_keep P (a ∷ rest) rows rules h = defaults_keep P rest (with_default rows a) rules.1 (with_default_keeps P a rows rules.0 h)

-- the rows of a level without a fault have values that fit, and its last checks have no fault
pub level_keeps : (P : Fit) (s : Shape) (words : List Text) → Each (KeepsValues P) s.rules
    → level_fault s [] nothing_held words false [] ≡ []
    → HasValues P (rows_after s.rules [] words) × (check_fault s (rows_after s.rules [] words) false ≡ [])
level_keeps P s words rules e =
    let end = (walk s.rules [] nothing_held words).held in
    let walks = no_fault (walk_fault s [] (walk_from nothing_held) words) _ e in
    let settles = no_fault (settle_fault s.rules s.args_override_self end) _ walks.1 in
    let finishes = no_fault (defaults_fault (settled s.rules end).rows s.rules) _ settles.1 in
    let walked_rows = walk_keeps P s [] rules (walk_from nothing_held) words walks.0 tt in
    let settled_rows_keep = settled_keeps P s.rules s.args_override_self end rules settles.0 walked_rows in
    (defaults_keep P s.rules (settled s.rules end).rows rules settled_rows_keep, finishes.1)
