-- What a parse of the program's command without a fault has, and which fault stands for an error.
use Rattle.std.proofs.Common.{◌≡◌, ◌∙◌, inl, inr, ℕ, Bool, true, false, true≢false, List, [], ◌∷◌, Option, Some, None, refl, sym, ap, ap₂}
use Rattle.std.{proofs.Common.{◌<◌, ◌≤◌, ◌^◌, arith, subst, le_refl, option_map, is_some, codes}, specs.{Box.{box_value}, Str.{bytes_eq}}}
use Rattle.std.specs.{Prelude.{Box, Result, if◌then◌else◌, find, unwrap_or}, Option.{option_map_or}, List.{slice_index_or}}
use Rattle.std.specs.{Str.Parse.{ExplainsUnsignedError, HasUnsignedDigitsIfOk, ParsesUnsigned}, declared.num.ParseIntError.{ParseIntError}}
use Rattle.std.proofs.lemmas.Slice.Eq.{bytes_eq-Decides}
use Rattle.clap.specs.Walk.{Row, Text, answers_to, first_of, has_row, nothing_held, rows_after, rows_of, stop_after, walk_from}
use Rattle.clap.specs.Simple.{Shape, argument_words, built, entered, label_of, names_of, rows_at, subcommand_of, subcommand_rows}
use Rattle.clap.specs.{Simple.{subcommand_rows_of}, Kinds.{HasKind, IsAmong, value_kinds}, Takes.{is_given}, ValueTests.{accepts}}
use Rattle.clap.{specs.Faults.{check_fault, entered_fault, fault_of, level_fault, walk_fault}, proofs.WalkLemmas.{one_text-rows}}
use Rattle.clap.{specs.Values.{IsUnsignedIn, bool_text, kind_of, refused_kind}, proofs.ValueTestLemmas.{accepts-Accepts}}
use Rattle.clap.specs.{declared.builder.value_parser.ValueParser.TheVariants.{Unsigned}, Matches.{ReadsOne, one_text, subcommand_name_of}}
use Rattle.clap.specs.declared.{error.{Error.{Error}, kind.ErrorKind.{ErrorKind, TheVariants.{OutOfMemory}}}, parser.matches.Found.{Found}}
use Rattle.clap.specs.declared.parser.matches.{ArgMatches.{ArgMatches, TheViews.{out-ArgMatches, out-SubCommand}}, SubCommand.{SubCommand}}
use Rattle.title_command.specs.declared.choice.LineFault.{LineFault, TheVariants.{Help, Bad, Memory}}
use Rattle.title_command.specs.CommandLine.{Explains, HasFlag, HasNumber, IsAfter, IsFaultFor, IsNumberOf, IsReadable, MayHavePlace}
use Rattle.title_command.specs.CommandLine.{command, default_examiners, default_tries, most_examiners, most_place, most_tries, tract}
use Rattle.title_command.proofs.ReadRows.{first_read, level_gives, maybe_read}
use Rattle.title_command.proofs.ValueRows.{Each, Fit, KeepsValues, found_has, level_keeps, no_fault}

-- ---- names

-- two names that a test tells apart differ
pub differ : (a b : Text) → false ≡ bytes_eq a b → a ≡ b → ⊥
differ a b e same = true≢false (sym ((bytes_eq-Decides a b).1 same) ∙ sym e)

-- ---- each subcommand has the values that its line takes from it

-- a subcommand has them where the parse of its words finds no fault
abbrev Level : Shape → Type 0
Level s = (words : List Text) → level_fault s [] nothing_held words false [] ≡ [] → IsReadable s.name (rows_after s.rules [] words)

-- the subcommand at this place
abbrev pub at : ℕ → Shape
at k = slice_index_or (built command).subs k tract

-- an argument that is given has a row
given_row : (id : Text) (rows : List Row) → is_given id rows ≡ true → has_row id rows ≡ true
given_row id [] e = absurd (true≢false (sym e))
given_row id (r ∷ rs) e = go (bytes_eq r.id id) refl (given_row id rs)
  where
    go : (b : Bool) → bytes_eq r.id id ≡ b → (is_given id rs ≡ true → has_row id rs ≡ true) → has_row id (r ∷ rs) ≡ true
    go true is rest = rw is refl
    go false is rest =
        let given : is_given id rs ≡ true = rw is at e in
        rw is (rest given)

-- any text fits `TEXT`
abbrev any : Fit
any id text = Unit {0}

-- `tract` without a fault has its text
tract_level : Level (at 4)
tract_level words e =
    let rows = rows_after (at 4).rules [] words in
    let kept = level_keeps any (at 4) words (inl (refl, le_refl 1, refl, (λ v ok. tt), tt), (inr (inr (refl, refl)), tt)) e in
    let has = given_row (codes "TEXT") rows (given rows (is_given (codes "TEXT") rows) refl kept.1) in
    let read = first_read any (codes "TEXT") rows has kept.0 in
    inr (inr (inr (inr (inl (refl, rw read.1 refl)))))
  where
    given : (rows : List Row) (b : Bool) → is_given (codes "TEXT") rows ≡ b → check_fault (at 4) rows false ≡ []
        → is_given (codes "TEXT") rows ≡ true
    given rows true is ok = is
    given rows false is ok =
        let bad = rw is at ok in
        absurd (cc)

-- a number from 1 to its most fits the two numbers of `office`, and one of 64 bits the expected place
abbrev numbers : Fit
numbers id text =
    (id ≡ codes "examiners" → IsUnsignedIn 1 most_examiners text) × (id ≡ codes "tries" → IsUnsignedIn 1 most_tries text)
    × (id ≡ codes "after" → IsUnsignedIn 0 most_place text)

-- a text that a parser of numbers lets through is such a number
passes : (low high : ℕ) (text : Text) → value_kinds false (Unsigned low high) text ≡ [] → IsUnsignedIn low high text
passes low high text e = go (accepts false (Unsigned low high) text) refl e
  where
    go : (b : Bool) → accepts false (Unsigned low high) text ≡ b → (if b then [] else refused_kind (Unsigned low high) ∷ []) ≡ []
        → IsUnsignedIn low high text
    go true is ok = accepts-Accepts false (Unsigned low high) text is
    go false is ok = absurd (cc)

-- so the parser of each option lets through what fits it
examiners_pass : (text : Text) → value_kinds false (Unsigned 1 most_examiners) text ≡ [] → numbers (codes "examiners") text
examiners_pass text ok = (
  (λ same. passes 1 most_examiners text ok),
  (λ same. absurd (differ (codes "examiners") (codes "tries") refl same)),
  (λ same. absurd (differ (codes "examiners") (codes "after") refl same)),
)

tries_pass : (text : Text) → value_kinds false (Unsigned 1 most_tries) text ≡ [] → numbers (codes "tries") text
tries_pass text ok = (
  (λ same. absurd (differ (codes "tries") (codes "examiners") refl same)),
  (λ same. passes 1 most_tries text ok),
  (λ same. absurd (differ (codes "tries") (codes "after") refl same)),
)

office_plant_passes : (text : Text) → numbers (codes "plant") text
office_plant_passes text = (
  (λ same. absurd (differ (codes "plant") (codes "examiners") refl same)),
  (λ same. absurd (differ (codes "plant") (codes "tries") refl same)),
  (λ same. absurd (differ (codes "plant") (codes "after") refl same)),
)

office_place_passes : (text : Text) → value_kinds false (Unsigned 0 most_place) text ≡ [] → numbers (codes "after") text
office_place_passes text ok = (
  (λ same. absurd (differ (codes "after") (codes "examiners") refl same)),
  (λ same. absurd (differ (codes "after") (codes "tries") refl same)),
  (λ same. passes 0 most_place text ok),
)

-- `office` without a fault has its numbers, and its place, if it has one
office_level : Level (at 2)
office_level words e =
    let rows = rows_after (at 2).rules [] words in
    let rules : Each (KeepsValues numbers) (at 2).rules = (
      inl (refl, le_refl 1, refl, examiners_pass, (examiners_pass default_examiners refl, tt)),
      (
        inl (refl, le_refl 1, refl, tries_pass, (tries_pass default_tries refl, tt)),
        (
          inl (refl, le_refl 1, refl, (λ v ok. office_plant_passes v), tt),
          (inl (refl, le_refl 1, refl, office_place_passes, tt), (inr (inr (refl, refl)), tt)),
        ),
      ),
    ) in
    let kept = level_keeps numbers (at 2) words rules e in
    let gives = level_gives (at 2).rules words in
    let examiners = first_read numbers (codes "examiners") rows (gives.0 (le_refl 1)) kept.0 in
    let tries = first_read numbers (codes "tries") rows (gives.1.0 (le_refl 1)) kept.0 in
    let place : MayHavePlace rows = elim (maybe_read numbers (codes "after") rows kept.0) [
      | inl none ↦ inl none
      | inr read ↦ inr (read.0, read.1, read.2, read.3.2 refl)
    ] in
    inr (inr (inl (
      refl,
      (examiners.0, examiners.1, examiners.2, examiners.3.0 refl),
      (tries.0, tries.1, tries.2, tries.3.1 refl),
      place,
    )))

-- a number of 64 bits fits the expected place
abbrev places : Fit
places id text = id ≡ codes "after" → IsUnsignedIn 0 most_place text

-- a command that serves a script, without a fault, has its place, if it has one
place_rows : (s : Shape) → Each (KeepsValues places) s.rules → (words : List Text)
    → level_fault s [] nothing_held words false [] ≡ [] → MayHavePlace (rows_after s.rules [] words)
place_rows s rules words e =
    let kept = level_keeps places s words rules e in
    elim (maybe_read places (codes "after") (rows_after s.rules [] words) kept.0) [
      | inl none ↦ inl none
      | inr read ↦ inr (read.0, read.1, read.2, read.3 refl)
    ]

place_rules : Each (KeepsValues places) (at 0).rules
place_rules = (
  inl (refl, le_refl 1, refl, (λ v ok same. absurd (differ (codes "plant") (codes "after") refl same)), tt),
  (inl (refl, le_refl 1, refl, (λ v ok same. passes 0 most_place v ok), tt), (inr (inr (refl, refl)), tt)),
)

run_level : Level (at 0)
run_level words e = inl (refl, place_rows (at 0) place_rules words e)

-- a number of 64 bits fits the place that `alone` expects, and the text of true or of false its flag
abbrev looks : Fit
looks id text = (id ≡ codes "after" → IsUnsignedIn 0 most_place text) × (id ≡ codes "look" → (b : Bool) × (text ≡ bool_text b))

looks_flag : (b : Bool) → looks (codes "look") (bool_text b)
looks_flag b = ((λ same. absurd (differ (codes "look") (codes "after") refl same)), (λ same. (b, refl)))

looks_place : (text : Text) → value_kinds false (Unsigned 0 most_place) text ≡ [] → looks (codes "after") text
looks_place text ok = ((λ same. passes 0 most_place text ok), (λ same. absurd (differ (codes "after") (codes "look") refl same)))

looks_plant : (text : Text) → looks (codes "plant") text
looks_plant text = (
  (λ same. absurd (differ (codes "plant") (codes "after") refl same)),
  (λ same. absurd (differ (codes "plant") (codes "look") refl same)),
)

-- `alone` without a fault has its place, if it has one, and its flag
alone_level : Level (at 1)
alone_level words e =
    let rows = rows_after (at 1).rules [] words in
    let rules : Each (KeepsValues looks) (at 1).rules = (
      inl (refl, le_refl 1, refl, (λ v ok. looks_plant v), tt),
      (
        inl (refl, le_refl 1, refl, looks_place, tt),
        (
          inr (inl (refl, (refl, refl), refl, (le_refl 1, (looks_flag true, tt)), (looks_flag false, tt))),
          (inr (inr (refl, refl)), tt),
        ),
      ),
    ) in
    let kept = level_keeps looks (at 1) words rules e in
    let gives = level_gives (at 1).rules words in
    let look = first_read looks (codes "look") rows (gives.1.1.0 (le_refl 1)) kept.0 in
    let flag = look.3.1 refl in
    let place : MayHavePlace rows = elim (maybe_read looks (codes "after") rows kept.0) [
      | inl none ↦ inl none
      | inr read ↦ inr (read.0, read.1, read.2, read.3.0 refl)
    ] in
    inr (inl (
      refl,
      place,
      (flag.0, look.1 ∙ ap (λ (t : Text). Some t) flag.1, look.2 ∙ ap (λ (t : Text). Some t) flag.1),
    ))

-- the text of true or of false fits the flag of `desk`
abbrev desk_looks : Fit
desk_looks id text = id ≡ codes "look" → (b : Bool) × (text ≡ bool_text b)

-- `desk` without a fault has its flag
desk_level : Level (at 3)
desk_level words e =
    let rows = rows_after (at 3).rules [] words in
    let rules : Each (KeepsValues desk_looks) (at 3).rules = (
      inl (refl, le_refl 1, refl, (λ v ok same. absurd (differ (codes "plant") (codes "look") refl same)), tt),
      (
        inr (inl (refl, (refl, refl), refl, (le_refl 1, ((λ same. (true, refl)), tt)), ((λ same. (false, refl)), tt))),
        (inr (inr (refl, refl)), tt),
      ),
    ) in
    let kept = level_keeps desk_looks (at 3) words rules e in
    let gives = level_gives (at 3).rules words in
    let look = first_read desk_looks (codes "look") rows (gives.1.0 (le_refl 1)) kept.0 in
    let flag = look.3 refl in
    inr (inr (inr (inl (
      refl,
      (flag.0, look.1 ∙ ap (λ (t : Text). Some t) flag.1, look.2 ∙ ap (λ (t : Text). Some t) flag.1),
    ))))

-- the text of true or of false fits the flag
abbrev flags : Fit
flags id text = id ≡ codes "script" → (b : Bool) × (text ≡ bool_text b)

-- `check` without a fault has its file and its flag
check_level : Level (at 5)
check_level words e =
    let rows = rows_after (at 5).rules [] words in
    let rules : Each (KeepsValues flags) (at 5).rules = (
      inl (refl, le_refl 1, refl, (λ v ok same. absurd (differ (codes "FILE") (codes "script") refl same)), tt),
      (
        inr (inl (refl, (refl, refl), refl, (le_refl 1, ((λ same. (true, refl)), tt)), ((λ same. (false, refl)), tt))),
        (inr (inr (refl, refl)), tt),
      ),
    ) in
    let kept = level_keeps flags (at 5) words rules e in
    let gives = level_gives (at 5).rules words in
    let has = given_row (codes "FILE") rows (given rows (is_given (codes "FILE") rows) refl kept.1) in
    let file = first_read flags (codes "FILE") rows has kept.0 in
    let script = first_read flags (codes "script") rows (gives.1.0 (le_refl 1)) kept.0 in
    let flag = script.3 refl in
    inr (inr (inr (inr (inr (
      refl,
      rw file.1 refl,
      (flag.0, script.1 ∙ ap (λ (t : Text). Some t) flag.1, script.2 ∙ ap (λ (t : Text). Some t) flag.1),
    )))))
  where
    given : (rows : List Row) (b : Bool) → is_given (codes "FILE") rows ≡ b → check_fault (at 5) rows false ≡ []
        → is_given (codes "FILE") rows ≡ true
    given rows true is ok = is
    given rows false is ok =
        let bad = rw is at ok in
        absurd (cc)

-- each subcommand without a fault is readable
levels : Each Level (built command).subs
levels = (run_level, (alone_level, (office_level, (desk_level, (tract_level, (check_level, tt))))))

-- the subcommand that was entered is one of these
entered_reads : (p : Text × List Text) (o : Option Shape) → ((s : Shape) → o ≡ Some s → Level s)
    → option_map_or (λ (s : Shape). level_fault s [] nothing_held p.1 false []) o [] ≡ []
    → (name : Text) (rows : List Row) → option_map (λ (s : Shape). rows_at s p.1) o ≡ Some (name, rows) → IsReadable name rows
entered_reads p None level ok name rows e = absurd (cc)
entered_reads p (Some s) level ok name rows e =
    let same = ap (λ (m : Option (Text × List Row)). unwrap_or m (s.name, [])) e in
    let same_name : s.name ≡ name = ap (λ (m : Text × List Row). m.0) same in
    let same_rows : rows_after s.rules [] p.1 ≡ rows = ap (λ (m : Text × List Row). m.1) same in
    subst (λ (t : Text). IsReadable t rows) same_name (subst (λ (rs : List Row). IsReadable s.name rs) same_rows (level s refl p.1 ok))

-- the subcommand that words without a fault name
pub readable : (words : List Text) → fault_of command words ≡ [] → (name : Text) (rows : List Row)
    → subcommand_of command words ≡ Some (name, rows) → IsReadable name rows
readable words e name rows met =
    let a = built command in
    let ws = argument_words command words in
    let walks = no_fault (walk_fault a.top (names_of a) (walk_from nothing_held) ws) _ e in
    let below = no_fault (entered_fault a (stop_after a.top.rules (names_of a) ws)) _ walks.1 in
    go (stop_after a.top.rules (names_of a) ws) below.0 met
  where
    go : (o : Option (Text × List Text)) → entered_fault (built command) o ≡ [] → entered (built command) o ≡ Some (name, rows)
        → IsReadable name rows
    go None ok is = absurd (cc)
    go (Some p) ok is = entered_reads p (find (λ (s : Shape). answers_to p.0 (label_of s)) (built command).subs)
        (found_has Level (λ (s : Shape). answers_to p.0 (label_of s)) (built command).subs levels) ok name rows is

-- ---- the matches that hold it

-- the name beside the rows of a subcommand
name_is : {Z : Type 0} (o : Option (Box SubCommand Z))
    → option_map (λ (b : Box SubCommand Z). (out-SubCommand (box_value b)).name.now) o
    ≡ option_map (λ (p : Text × List Row). p.0) (subcommand_rows o)
name_is None = refl
name_is (Some b) = refl

-- the name and the rows of the subcommand together
pub met_is : (m : ArgMatches) (name : Text) (rows : List Row) → Some name ≡ subcommand_name_of m
    → Some rows ≡ option_map (λ (p : Text × List Row). p.1) (subcommand_rows_of m)
    → subcommand_rows_of m ≡ Some (name, rows)
met_is m name rows e f = go (subcommand_rows_of m) (e ∙ name_is (out-ArgMatches m).subcommand) f
  where
    go : (o : Option (Text × List Row)) → Some name ≡ option_map (λ (p : Text × List Row). p.0) o
        → Some rows ≡ option_map (λ (p : Text × List Row). p.1) o → o ≡ Some (name, rows)
    go None x y = absurd (cc)
    go (Some p) x y =
        let n : p.0 ≡ name = sym (ap (λ (o : Option Text). unwrap_or o []) x) in
        let r : p.1 ≡ rows = sym (ap (λ (o : Option (List Row)). unwrap_or o []) y) in
        ap₂ (λ (a : Text) (b : List Row). Some (a, b)) n r

-- ---- the dispatch on a name

-- so one that is found to be the first isn't the second
clash : (name a b : Text) → true ≡ bytes_eq name a → bytes_eq a b ≡ false → name ≡ b → ⊥
clash name a b is other same =
    true≢false (sym ((bytes_eq-Decides a b).1 (sym ((bytes_eq-Decides name a).0 (sym is)) ∙ same)) ∙ other)

-- the values of a name that is `run`
pub run_reads : (name : Text) (rows : List Row) → true ≡ bytes_eq name (codes "run") → IsReadable name rows
    → (name ≡ codes "run") × MayHavePlace rows
run_reads name rows is (inl run) = run
run_reads name rows is (inr (inl other)) =
    absurd (clash name (codes "run") (codes "alone") is refl other.0)
run_reads name rows is (inr (inr (inl other))) =
    absurd (clash name (codes "run") (codes "office") is refl other.0)
run_reads name rows is (inr (inr (inr (inl desk)))) =
    absurd (clash name (codes "run") (codes "desk") is refl desk.0)
run_reads name rows is (inr (inr (inr (inr (inl other))))) =
    absurd (clash name (codes "run") (codes "tract") is refl other.0)
run_reads name rows is (inr (inr (inr (inr (inr other))))) =
    absurd (clash name (codes "run") (codes "check") is refl other.0)

-- and of one that is `alone`
pub alone_reads : (name : Text) (rows : List Row) → true ≡ bytes_eq name (codes "alone") → IsReadable name rows
    → (name ≡ codes "alone") × MayHavePlace rows × HasFlag (codes "look") rows
alone_reads name rows is (inl other) =
    absurd (clash name (codes "alone") (codes "run") is refl other.0)
alone_reads name rows is (inr (inl alone)) = alone
alone_reads name rows is (inr (inr (inl other))) =
    absurd (clash name (codes "alone") (codes "office") is refl other.0)
alone_reads name rows is (inr (inr (inr (inl desk)))) =
    absurd (clash name (codes "alone") (codes "desk") is refl desk.0)
alone_reads name rows is (inr (inr (inr (inr (inl other))))) =
    absurd (clash name (codes "alone") (codes "tract") is refl other.0)
alone_reads name rows is (inr (inr (inr (inr (inr other))))) =
    absurd (clash name (codes "alone") (codes "check") is refl other.0)

-- and of one that is `office`
pub office_reads : (name : Text) (rows : List Row) → true ≡ bytes_eq name (codes "office") → IsReadable name rows
    → (name ≡ codes "office") × HasNumber (codes "examiners") most_examiners rows × HasNumber (codes "tries") most_tries rows
    × MayHavePlace rows
office_reads name rows is (inl other) =
    absurd (clash name (codes "office") (codes "run") is refl other.0)
office_reads name rows is (inr (inl other)) =
    absurd (clash name (codes "office") (codes "alone") is refl other.0)
office_reads name rows is (inr (inr (inl office))) = office
office_reads name rows is (inr (inr (inr (inl desk)))) =
    absurd (clash name (codes "office") (codes "desk") is refl desk.0)
office_reads name rows is (inr (inr (inr (inr (inl other))))) =
    absurd (clash name (codes "office") (codes "tract") is refl other.0)
office_reads name rows is (inr (inr (inr (inr (inr other))))) =
    absurd (clash name (codes "office") (codes "check") is refl other.0)

-- and of one that is `check`
pub check_reads : (name : Text) (rows : List Row) → true ≡ bytes_eq name (codes "check") → IsReadable name rows
    → (name ≡ codes "check") × (is_some (first_of (codes "FILE") rows) ≡ true) × HasFlag (codes "script") rows
check_reads name rows is (inl other) =
    absurd (clash name (codes "check") (codes "run") is refl other.0)
check_reads name rows is (inr (inl other)) =
    absurd (clash name (codes "check") (codes "alone") is refl other.0)
check_reads name rows is (inr (inr (inl other))) =
    absurd (clash name (codes "check") (codes "office") is refl other.0)
check_reads name rows is (inr (inr (inr (inl desk)))) =
    absurd (clash name (codes "check") (codes "desk") is refl desk.0)
check_reads name rows is (inr (inr (inr (inr (inl other))))) =
    absurd (clash name (codes "check") (codes "tract") is refl other.0)
check_reads name rows is (inr (inr (inr (inr (inr check))))) = check

-- and of one that is `desk`
pub desk_reads : (name : Text) (rows : List Row) → true ≡ bytes_eq name (codes "desk") → IsReadable name rows
    → (name ≡ codes "desk") × HasFlag (codes "look") rows
desk_reads name rows is (inl other) =
    absurd (clash name (codes "desk") (codes "run") is refl other.0)
desk_reads name rows is (inr (inl other)) =
    absurd (clash name (codes "desk") (codes "alone") is refl other.0)
desk_reads name rows is (inr (inr (inl other))) =
    absurd (clash name (codes "desk") (codes "office") is refl other.0)
desk_reads name rows is (inr (inr (inr (inl desk)))) = desk
desk_reads name rows is (inr (inr (inr (inr (inl other))))) =
    absurd (clash name (codes "desk") (codes "tract") is refl other.0)
desk_reads name rows is (inr (inr (inr (inr (inr other))))) =
    absurd (clash name (codes "desk") (codes "check") is refl other.0)

-- a name that is none of these is that of `tract`
pub tract_reads : (name : Text) (rows : List Row) → false ≡ bytes_eq name (codes "run") → false ≡ bytes_eq name (codes "alone")
    → false ≡ bytes_eq name (codes "office") → false ≡ bytes_eq name (codes "desk") → false ≡ bytes_eq name (codes "check")
    → IsReadable name rows → (name ≡ codes "tract") × (is_some (first_of (codes "TEXT") rows) ≡ true)
tract_reads name rows not_run not_alone not_office not_desk not_check (inl is) = absurd (differ name (codes "run") not_run is.0)
tract_reads name rows not_run not_alone not_office not_desk not_check (inr (inl is)) = absurd (differ name (codes "alone") not_alone is.0)
tract_reads name rows not_run not_alone not_office not_desk not_check (inr (inr (inl is))) =
    absurd (differ name (codes "office") not_office is.0)
tract_reads name rows not_run not_alone not_office not_desk not_check (inr (inr (inr (inl is)))) =
    absurd (differ name (codes "desk") not_desk is.0)
tract_reads name rows not_run not_alone not_office not_desk not_check (inr (inr (inr (inr (inl is))))) = is
tract_reads name rows not_run not_alone not_office not_desk not_check (inr (inr (inr (inr (inr is))))) =
    absurd (differ name (codes "check") not_check is.0)

-- ---- a number that is read

-- n is the number of the argument, in its range
abbrev pub IsRead : Text → ℕ → List Row → ℕ → Type 0
IsRead id most rows n = IsNumberOf id rows n × ((1 ≤ n) × (n ≤ most))

-- how a number of so many bits is read from a text
abbrev Gives : ℕ → Text → Result ℕ ParseIntError → Type 0
Gives bits t r = ParsesUnsigned bits 10 t r × ExplainsUnsignedError 10 t r × HasUnsignedDigitsIfOk t r

-- a text that is a number in its range is read as that number, where the range fits 32 bits
number_read : (id : Text) (most : ℕ) (rows : List Row) (got : Option ℕ) → most < 2 ^ 32
    → (given : HasNumber id most rows) → ReadsOne (Gives 32) given.0 got
    → (n : ℕ) × (got ≡ Some n) × IsRead id most rows n
number_read id most rows (Some n) fits (text, first, one, (numeral, wide, low, high)) (is, why, digits) =
    (n, refl, ((text, first, numeral, is.1), (rw is.1 low, rw is.1 high)))
number_read id most rows None fits (text, first, one, (numeral, wide, low, high)) (error, (is, why, digits)) =
    absurd (is (numeral, omega arith))

-- so is the number of an option
pub option_read : (id : Text) (most : ℕ) (found : Found) (got : Option ℕ) → most < 2 ^ 32 → HasNumber id most (rows_of found)
    → ((t : Text) → one_text found id ≡ Some t → ReadsOne (Gives 32) t got)
    → (n : ℕ) × (got ≡ Some n) × IsRead id most (rows_of found) n
option_read id most found got fits given reads =
    number_read id most (rows_of found) got fits given (reads given.0 (one_text-rows found id ∙ given.2))

-- and so is what was got
pub number_got : (id : Text) (most : ℕ) (rows : List Row) (got : Option ℕ) (m : ℕ) → (n : ℕ) × (got ≡ Some n) × IsRead id most rows n
    → got ≡ Some m → IsRead id most rows m
number_got id most rows got m (n, some, read) same =
    subst (λ (k : ℕ). IsRead id most rows k) (ap (λ (o : Option ℕ). unwrap_or o 0) (sym some ∙ same)) read

-- ---- the place that is expected

-- the place is read as the number that the words say, if they say one
pub place_read : (found : Found) (got : Option ℕ) → MayHavePlace (rows_of found)
    → (one_text found (codes "after") ≡ None → got ≡ None)
    → ((t : Text) → one_text found (codes "after") ≡ Some t → ReadsOne (Gives 64) t got) → IsAfter (rows_of found) got
place_read found got (inl none) unsaid reads =
    subst (λ (o : Option ℕ). IsAfter (rows_of found) o) (sym (unsaid (one_text-rows found (codes "after") ∙ none.1))) none.0
place_read found got (inr (text, first, one, (numeral, wide, low, high))) unsaid reads =
    go got (reads text (one_text-rows found (codes "after") ∙ one))
  where
    go : (o : Option ℕ) → ReadsOne (Gives 64) text o → IsAfter (rows_of found) o
    go (Some n) (is, why, digits) = (text, first, numeral, is.1)
    go None (error, (is, why, digits)) = absurd (is (numeral, wide))

-- a place is expected where one is read
pub place_said : (rows : List Row) (n : ℕ) → IsAfter rows (Some n) → is_some (first_of (codes "after") rows) ≡ true
place_said rows n (text, first, numeral, is) = ap is_some first

-- ---- the flag

-- the flag is read as the words say
pub flag_read : (id : Text) (found : Found) (got : Bool) → HasFlag id (rows_of found)
    → (one_text found id ≡ Some (codes "true") → got ≡ true)
    → (one_text found id ≡ Some (codes "false") → got ≡ false)
    → first_of id (rows_of found) ≡ Some (bool_text got)
flag_read id found got (true, first, one) is isnt =
    first ∙ ap (λ (b : Bool). Some (bool_text b)) (sym (is (one_text-rows found id ∙ one)))
flag_read id found got (false, first, one) is isnt =
    first ∙ ap (λ (b : Bool). Some (bool_text b)) (sym (isnt (one_text-rows found id ∙ one)))

-- ---- the fault that stands for an error

-- memory is the fault of one kind of error alone
pub memory_is : (kind : ErrorKind) (fault : LineFault) → IsFaultFor kind fault → kind ≡ OutOfMemory → fault ≡ Memory
memory_is kind (Help error) is memory = absurd (cc)
memory_is kind (Bad error) is memory = absurd (is.1 memory)
memory_is kind Memory is memory = refl

-- an error of a kind that clap may give for the words explains its fault
pub explains : (words : List Text) (error : Error) (fault : LineFault) → HasKind (fault_of command words) error
    → IsFaultFor (kind_of error) fault → Explains words fault
explains words error Memory among is = tt
explains words error (Help shown) (inl memory) is = absurd (cc)
explains words error (Help shown) (inr among) is = subst (λ (kind : ErrorKind). IsAmong kind (fault_of command words)) is among
explains words error (Bad shown) (inl memory) is = absurd (is.1 memory)
explains words error (Bad shown) (inr among) is = inl (kind_of error, is.0, among)
