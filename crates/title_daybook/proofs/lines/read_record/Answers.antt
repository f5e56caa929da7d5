use Rattle.csv.specs.Records.{fields_of}
use Rattle.title_daybook.proofs.RowFields.{took_of}
use Rattle.title_daybook.proofs.lines.read_record.Goals as goal

pub returns-clause-took : goal.returns-clause-took
returns-clause-took c = λ bytes at. took_of c.args.reader.now c.read_byte_record.new.self (fields_of c.read_byte_record.new.row)
    c.in-Ok.found bytes
    at (c.in-Ok.ensures.ready at.trims) (c.in-Ok.ensures.reads at.trims at.ready)
