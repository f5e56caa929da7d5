use Rattle.csv.specs.Records.{fields_of}
use Rattle.title_plan.{specs.{Asked.{asked_in}, Onto.{first_of}}, proofs.Begins.{first_stays, length_grown, row_grows}}
use Rattle.title_plan.proofs.script.Taken.row.Goals as goal

pub returns-clause-before : goal.returns-clause-before
returns-clause-before c =
    let stood = c.args.self.now.stood in
    let old = asked_in c.args.self.now.plan in
    let new = asked_in c.take_record.new.self in
    let grown = row_grows c.args.schedule (first_of stood old) c.args.n old new (fields_of c.replace-raw.result) c.in_ok-self.ensures.ok in
    first_stays stood old new grown c.requires.stands.0 c.requires.stands.1

pub returns-clause-stands : goal.returns-clause-stands
returns-clause-stands c =
    let stood = c.args.self.now.stood in
    let old = asked_in c.args.self.now.plan in
    let new = asked_in c.take_record.new.self in
    let ok = c.in_ok-self.ensures.ok in
    let grown = row_grows c.args.schedule (first_of stood old) c.args.n old new (fields_of c.replace-raw.result) ok in (
      length_grown stood.townships old.townships new.townships grown.0 c.requires.stands.0,
      length_grown stood.parties old.names new.names grown.1 c.requires.stands.1,
    )
