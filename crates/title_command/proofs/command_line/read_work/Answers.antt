-- The plant and the place that the words name.
use Rattle.std.{proofs.Common.{◌∙◌, Option, ap, codes, inl, refl, subst, sym, ℕ}, specs.Prelude.{option_map}}
use Rattle.clap.{specs.Words.{found_of, rows_of}, proofs.WalkLemmas.{first_value-rows}}
use Rattle.title_command.{specs.CommandLine.{IsAfter}, proofs.CommandLemmas.{place_read, place_said}}
use Rattle.title_command.proofs.command_line.read_work.Goals as goal

pub returns-in-Some-default-clause-line : goal.returns-in-Some-default-clause-line
returns-in-Some-default-clause-line c =
    let found = found_of c.args.values.now in
    let named = sym (first_value-rows found (codes "plant")) ∙ sym c.get_str.ensures in (
      refl,
      named ∙ ap (option_map (λ s. s.now)) c.in-Some-default.is-0,
      place_read found c.get_one-after.result c.requires.place c.get_one-after.ensures.none c.get_one-after.ensures.value,
      c.requires.keeps,
    )

pub returns-in-None-None-clause-line : goal.returns-in-None-None-clause-line
returns-in-None-None-clause-line c =
    let found = found_of c.args.values.now in
    let named = sym (first_value-rows found (codes "plant")) ∙ sym c.get_str.ensures in
    let after = place_read found c.get_one-after.result c.requires.place c.get_one-after.ensures.none c.get_one-after.ensures.value in
    c.unkept.ensures.line (rows_of found) (
      named ∙ ap (option_map (λ s. s.now)) c.in-None-None.is-0,
      subst (λ (o : Option ℕ). IsAfter (rows_of found) o) c.in-None-None.is-1 after,
    ) c.requires.keeps

pub returns-in-None-Some-clause-lacks : goal.returns-in-None-Some-clause-lacks
returns-in-None-Some-clause-lacks c = λ none.
    let found = found_of c.args.values.now in
    let named = sym (first_value-rows found (codes "plant")) ∙ sym c.get_str.ensures in
    let after = place_read found c.get_one-after.result c.requires.place c.get_one-after.ensures.none c.get_one-after.ensures.value in (
      inl (place_said (rows_of found) c.in-None-Some.field-0-1
          (subst (λ (o : Option ℕ). IsAfter (rows_of found) o) c.in-None-Some.is-1 after)),
      named ∙ ap (option_map (λ s. s.now)) c.in-None-Some.is-0,
    )
