-- The numbers, the plant and the place that the words name.
use Rattle.std.{proofs.Common.{◌∙◌, Option, ap, arith, codes, inl, refl, subst, sym, ℕ}, specs.Prelude.{is_some, option_map}}
use Rattle.clap.{specs.Words.{found_of, rows_of}, proofs.WalkLemmas.{first_value-rows}}
use Rattle.title_command.specs.CommandLine.{IsAfter, most_examiners, most_tries}
use Rattle.title_command.proofs.CommandLemmas.{number_got, option_read, place_read, place_said}
use Rattle.title_command.proofs.command_line.read_office.Goals as goal

pub unwrap-examiners-requires : goal.unwrap-examiners-requires
unwrap-examiners-requires c =
    ap is_some (option_read (codes "examiners") most_examiners (found_of c.args.values.now) c.get_one-examiners_said.result (omega arith)
    c.requires.examiners c.get_one-examiners_said.ensures.value).1

pub unwrap-tries-requires : goal.unwrap-tries-requires
unwrap-tries-requires c =
    ap is_some (option_read (codes "tries") most_tries (found_of c.args.values.now) c.get_one-tries_said.result (omega arith)
    c.requires.tries c.get_one-tries_said.ensures.value).1

pub returns-in-Some-default : goal.returns-in-Some-default
returns-in-Some-default c =
    let found = found_of c.args.values.now in
    let named = sym (first_value-rows found (codes "plant")) ∙ sym c.get_str.ensures in
    let examiners = number_got (codes "examiners") most_examiners (rows_of found) c.get_one-examiners_said.result
    c.unwrap-examiners.result
    (option_read (codes "examiners") most_examiners found c.get_one-examiners_said.result (omega arith) c.requires.examiners
    c.get_one-examiners_said.ensures.value) c.unwrap-examiners.ensures in
    let tries = number_got (codes "tries") most_tries (rows_of found) c.get_one-tries_said.result c.unwrap-tries.result
    (option_read (codes "tries") most_tries found c.get_one-tries_said.result (omega arith) c.requires.tries
    c.get_one-tries_said.ensures.value) c.unwrap-tries.ensures in
    record {
      line = (
        refl,
        named ∙ ap (option_map (λ s. s.now)) c.in-Some-default.is-0,
        place_read found c.get_one-after.result c.requires.place c.get_one-after.ensures.none c.get_one-after.ensures.value,
        examiners.0,
        tries.0,
      );
      lacks = λ none. absurd (cc);
      ranges = (examiners.1, tries.1);
    }

pub returns-in-None-None : goal.returns-in-None-None
returns-in-None-None c =
    let found = found_of c.args.values.now in
    let named = sym (first_value-rows found (codes "plant")) ∙ sym c.get_str.ensures in
    let after = place_read found c.get_one-after.result c.requires.place c.get_one-after.ensures.none c.get_one-after.ensures.value in
    let examiners = number_got (codes "examiners") most_examiners (rows_of found) c.get_one-examiners_said.result
    c.unwrap-examiners.result
    (option_read (codes "examiners") most_examiners found c.get_one-examiners_said.result (omega arith) c.requires.examiners
    c.get_one-examiners_said.ensures.value) c.unwrap-examiners.ensures in
    let tries = number_got (codes "tries") most_tries (rows_of found) c.get_one-tries_said.result c.unwrap-tries.result
    (option_read (codes "tries") most_tries found c.get_one-tries_said.result (omega arith) c.requires.tries
    c.get_one-tries_said.ensures.value) c.unwrap-tries.ensures in
    record {
      line = (
        refl,
        examiners.0,
        tries.0,
        (
          named ∙ ap (option_map (λ s. s.now)) c.in-None-None.is-0,
          subst (λ (o : Option ℕ). IsAfter (rows_of found) o) c.in-None-None.is-1 after,
        ),
      );
      lacks = λ none. absurd (cc);
      ranges = (examiners.1, tries.1);
    }

pub returns-in-None-Some-clause-lacks : goal.returns-in-None-Some-clause-lacks
returns-in-None-Some-clause-lacks c = λ none.
    let found = found_of c.args.values.now in
    let named = sym (first_value-rows found (codes "plant")) ∙ sym c.get_str.ensures in
    let after = place_read found c.get_one-after.result c.requires.place c.get_one-after.ensures.none c.get_one-after.ensures.value in (
      inl (place_said (rows_of found) c.in-None-Some._place
          (subst (λ (o : Option ℕ). IsAfter (rows_of found) o) c.in-None-Some.is-1 after)),
      named ∙ ap (option_map (λ s. s.now)) c.in-None-Some.is-0,
    )
