-- The plant and the place that the words name.
use Rattle.std.{proofs.Common.{◌∙◌, ap, codes, inr, refl, sym}, specs.Prelude.{option_map}}
use Rattle.clap.{specs.Words.{found_of}, proofs.WalkLemmas.{first_value-rows}}
use Rattle.title_command.proofs.CommandLemmas.{place_read}
use Rattle.title_command.proofs.command_line.read_look.Goals as goal

pub returns-in-Some-clause-line : goal.returns-in-Some-clause-line
returns-in-Some-clause-line c =
    let found = found_of c.args.values.now in
    let named = sym (first_value-rows found (codes "plant")) ∙ sym c.get_str.ensures in (
      refl,
      named ∙ ap (option_map (λ s. s.now)) c.in-Some.is,
      place_read found c.get_one-after.result c.requires.place c.get_one-after.ensures.none c.get_one-after.ensures.value,
      c.requires.looks,
    )

pub returns-in-None-clause-lacks : goal.returns-in-None-clause-lacks
returns-in-None-clause-lacks c = λ none.
    let found = found_of c.args.values.now in
    let named = sym (first_value-rows found (codes "plant")) ∙ sym c.get_str.ensures in
    (inr c.requires.looks, named ∙ ap (option_map (λ s. s.now)) c.in-None.is)
