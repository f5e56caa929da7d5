-- The flag and the plant that the words say.
use Rattle.std.{proofs.Common.{◌∙◌, Bool, Some, ap, codes, refl, sym}, specs.Prelude.{option_map}}
use Rattle.clap.{specs.{Values.{bool_text}, Words.{found_of}}, proofs.WalkLemmas.{first_value-rows}}
use Rattle.title_command.proofs.CommandLemmas.{flag_read}
use Rattle.title_command.proofs.command_line.read_desk.Goals as goal

pub read_desk_look-requires : goal.read_desk_look-requires
read_desk_look-requires c = record {
  looks = flag_read (codes "look") (found_of c.args.values.now) c.get_flag-looks.result c.requires.flag c.get_flag-looks.ensures.value
      c.get_flag-looks.ensures.other
      ∙ ap (λ (b : Bool). Some (bool_text b)) c.if-looks.true;
}

pub returns-in-Some-clause-line : goal.returns-in-Some-clause-line
returns-in-Some-clause-line c =
    let found = found_of c.args.values.now in
    let named = sym (first_value-rows found (codes "plant")) ∙ sym c.get_str.ensures in
    let looks = flag_read (codes "look") found c.get_flag-looks.result c.requires.flag c.get_flag-looks.ensures.value
    c.get_flag-looks.ensures.other in
    (refl, named ∙ ap (option_map (λ s. s.now)) c.in-Some.is, looks ∙ ap (λ (b : Bool). Some (bool_text b)) c.if-looks.false)

pub returns-in-None-clause-line : goal.returns-in-None-clause-line
returns-in-None-clause-line c =
    let found = found_of c.args.values.now in
    let named = sym (first_value-rows found (codes "plant")) ∙ sym c.get_str.ensures in
    let looks = flag_read (codes "look") found c.get_flag-looks.result c.requires.flag c.get_flag-looks.ensures.value
    c.get_flag-looks.ensures.other in
    (refl, named ∙ ap (option_map (λ s. s.now)) c.in-None.is, looks ∙ ap (λ (b : Bool). Some (bool_text b)) c.if-looks.false)
