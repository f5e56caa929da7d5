-- The values that a subcommand has: the file and the flag of `check`, and the text of `tract`, whose name is none of the others.
use Rattle.std.{proofs.Common.{◌∙◌, sym, ap, codes}, specs.Prelude.{option_map}}
use Rattle.clap.{specs.Words.{found_of, rows_of}, proofs.{CallerLemmas.{some_of_text}, WalkLemmas.{first_value-rows}}}
use Rattle.title_command.proofs.CommandLemmas.{check_reads, flag_read, tract_reads}
use Rattle.title_command.proofs.command_line.read_line.Goals as goal

pub unwrap-text-requires : goal.unwrap-text-requires
unwrap-text-requires c =
    let read = tract_reads c.args.name.now (rows_of (found_of c.args.values.now)) c.if-eq.ensures c.if-eq-2.ensures c.if-eq-3.ensures
    c.if-eq-4.ensures c.if-eq-5.ensures c.requires.readable in
    some_of_text _ c.get_str-2.result _ (c.get_str-2.ensures ∙ first_value-rows (found_of c.args.values.now) (codes "TEXT")) read.1

pub returns : goal.returns
returns c =
    let read = tract_reads c.args.name.now (rows_of (found_of c.args.values.now)) c.if-eq.ensures c.if-eq-2.ensures c.if-eq-3.ensures
    c.if-eq-4.ensures c.if-eq-5.ensures c.requires.readable in
    record {
      line = (
        read.0,
        sym (c.get_str-2.ensures ∙ first_value-rows (found_of c.args.values.now) (codes "TEXT"))
            ∙ ap (option_map (λ s. s.now)) c.unwrap-text.ensures,
      );
      lacks = λ none. absurd (cc);
      ranges = tt;
    }

pub unwrap-file-requires : goal.unwrap-file-requires
unwrap-file-requires c =
    let read = check_reads c.args.name.now (rows_of (found_of c.args.values.now)) c.if-eq-5.ensures c.requires.readable in
    some_of_text _ c.get_str.result _
    (c.get_str.ensures ∙ first_value-rows (found_of c.args.values.now) (codes "FILE")) read.1

pub returns-then-eq-5-clause-line : goal.returns-then-eq-5-clause-line
returns-then-eq-5-clause-line c =
    let found = found_of c.args.values.now in
    let read = check_reads c.args.name.now (rows_of found) c.if-eq-5.ensures c.requires.readable in (
      read.0,
      sym (c.get_str.ensures ∙ first_value-rows found (codes "FILE")) ∙ ap (option_map (λ s. s.now)) c.unwrap-file.ensures,
      flag_read (codes "script") found c.get_flag-as_script.result read.2 c.get_flag-as_script.ensures.value
          c.get_flag-as_script.ensures.other,
    )
