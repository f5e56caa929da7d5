-- The flag that the words say.
use Rattle.std.proofs.Common.{◌∙◌, Bool, Some, ap, codes}
use Rattle.clap.specs.{Values.{bool_text}, Words.{found_of}}
use Rattle.title_command.proofs.CommandLemmas.{flag_read}
use Rattle.title_command.proofs.command_line.read_alone.Goals as goal

pub read_look-requires-clause-looks : goal.read_look-requires-clause-looks
read_look-requires-clause-looks c =
    flag_read (codes "look") (found_of c.args.values.now) c.get_flag-looks.result c.requires.flag c.get_flag-looks.ensures.value
    c.get_flag-looks.ensures.other
    ∙ ap (λ (b : Bool). Some (bool_text b)) c.if-looks.true

pub read_work-requires-clause-keeps : goal.read_work-requires-clause-keeps
read_work-requires-clause-keeps c =
    flag_read (codes "look") (found_of c.args.values.now) c.get_flag-looks.result c.requires.flag c.get_flag-looks.ensures.value
    c.get_flag-looks.ensures.other
    ∙ ap (λ (b : Bool). Some (bool_text b)) c.if-looks.false
