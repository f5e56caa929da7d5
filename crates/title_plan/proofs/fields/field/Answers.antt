use Rattle.std.proofs.Common.{refl}
use Rattle.csv.specs.Records.{fields_of}
use Rattle.title_plan.proofs.Texts.{field_is}
use Rattle.title_plan.proofs.fields.field.Goals as goal

pub returns : goal.returns
returns c = record { field = rw c.unwrap_or.ensures (field_is (fields_of c.args.row.now) c.args.i _ _ refl c.get.ensures.value) }
