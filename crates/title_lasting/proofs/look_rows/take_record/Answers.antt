use Rattle.csv.specs.Records.{fields_of}
use Rattle.title_lasting.proofs.ReadOne.{took}
use Rattle.title_lasting.proofs.look_rows.take_record.Goals as goal

pub returns : goal.returns
returns c = record {
  took = λ rows left. took c.args.reader.now c.read_byte_record.new.self (fields_of c.read_byte_record.new.row)
      c.in-Ok.found rows left (c.in-Ok.ensures.reads left.trims left.ready) (c.in-Ok.ensures.ready left.trims);
}
