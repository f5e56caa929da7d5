-- Each subcommand in its turn.
use Rattle.title_command.{specs.CommandLine.{command}, proofs.Built.{built_is}}
use Rattle.title_command.proofs.program.program.Goals as goal

pub returns : goal.returns
returns c =
    let run = c.with_command-with_run.ensures.app _ _ (c.top.ensures.app, c.top.ensures.local) c.work_command.ensures.app in
    let alone = c.with_command-with_alone.ensures.app _ _ run c.alone_command.ensures.app in
    let office = c.with_command-with_office.ensures.app _ _ alone c.office_command.ensures.app in
    let desk = c.with_command-with_desk.ensures.app _ _ office c.desk_command.ensures.app in
    let tract = c.with_command-with_tract.ensures.app _ _ desk c.tract_command.ensures.app in
    record { app = built_is command c.with_command.result (c.with_command.ensures.app _ _ tract c.check_command.ensures.app) }
