-- The subcommand that clap met is that of the words, and its fault is one that clap finds in them.
use Rattle.std.{proofs.Common.{◌≡◌, ◌∙◌, List, [], Option, sym, ap, map, subst}, specs.Prelude.{option_map}}
use Rattle.clap.specs.{Words.{Text, app_of, found_of, is_simple, is_simple_and_free, rows_of, subcommand_of, takes}, Faults.{fault_of}}
use Rattle.clap.specs.{Kinds.{HasKind, Kinds}, Values.{kind_of}, Walk.{Row}}
use Rattle.title_command.{specs.CommandLine.{IsLineOf, command}, proofs.CommandLemmas.{explains, memory_is, met_is, readable}}
use Rattle.title_command.proofs.command_line.line.Goals as goal

pub read_line-requires : goal.read_line-requires
read_line-requires c =
    let m = c.in-Ok-try_get_matches_from in
    let words : List Text = map (λ w. w.now) c.args.words.now in
    let app_is : app_of c.in-Ok.command ≡ command = c.in-Ok.ensures.app in
    let none = m.ensures.kinds (ap is_simple_and_free app_is) in
    let no_fault : fault_of command words ≡ [] = sym (ap (λ a. fault_of a words) app_is) ∙ none in
    let met = (m.ensures.matches (ap is_simple app_is)).1 ∙ ap (λ a. subcommand_of a words) app_is in
    let name = c.unwrap.result.0.now in
    let rows = rows_of (found_of c.unwrap.result.1.now) in
    let is = met_is m.matches name rows (ap (option_map (λ p. p.0.now)) (sym c.unwrap.ensures) ∙ c.subcommand.ensures.name)
    (ap (option_map (λ p. rows_of (found_of p.1.now))) (sym c.unwrap.ensures) ∙ c.subcommand.ensures.rows) in
    record { readable = readable words no_fault name rows (sym met ∙ is) }

pub returns-clause-taken : goal.returns-clause-taken
returns-clause-taken c = λ taken.
    let words : List Text = map (λ w. w.now) c.args.words.now in
    let memory = c.in-Err.ensures.passes (ap (λ a. takes a words) c.in-Ok.ensures.app ∙ taken.0) in
    memory_is (kind_of c.in-Err.error) c.fault_for.result c.fault_for.ensures.kind memory

pub returns-clause-why : goal.returns-clause-why
returns-clause-why c =
    let words : List Text = map (λ w. w.now) c.args.words.now in
    let app_is : app_of c.in-Ok.command ≡ command = c.in-Ok.ensures.app in
    let among = c.in-Err.ensures.kinds (ap is_simple_and_free app_is) in
    let faults_are : fault_of (app_of c.in-Ok.command) words ≡ fault_of command words = ap (λ a. fault_of a words) app_is in
    explains words c.in-Err.error c.fault_for.result
    (subst (λ (kinds : Kinds). HasKind kinds c.in-Err.error) faults_are among) c.fault_for.ensures.kind

pub returns-in-Some-clause-line : goal.returns-in-Some-clause-line
returns-in-Some-clause-line c =
    let m = c.in-Ok-try_get_matches_from in
    let words : List Text = map (λ w. w.now) c.args.words.now in
    let app_is : app_of c.in-Ok.command ≡ command = c.in-Ok.ensures.app in
    let met = (m.ensures.matches (ap is_simple app_is)).1 ∙ ap (λ a. subcommand_of a words) app_is in
    let name = c.unwrap.result.0.now in
    let rows = rows_of (found_of c.unwrap.result.1.now) in
    let is = met_is m.matches name rows (ap (option_map (λ p. p.0.now)) (sym c.unwrap.ensures) ∙ c.subcommand.ensures.name)
    (ap (option_map (λ p. rows_of (found_of p.1.now))) (sym c.unwrap.ensures) ∙ c.subcommand.ensures.rows) in
    subst (λ (o : Option (Text × List Row)). IsLineOf o c.in-Some.line) (sym (sym met ∙ is)) c.in-Some.ensures.line
