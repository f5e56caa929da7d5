-- A write may be torn.
use Rattle.std.proofs.Common.{List, subst}
use Rattle.title_file.specs.{Calls.{Call, MayLeave}, Laws.{written_follows}}
use Rattle.title_file.proofs.plant_file.PlantFileDisk.write_at.Goals as goal

pub returns-then-write_all-clause-crash : goal.returns-then-write_all-clause-crash
returns-then-write_all-clause-crash c content left =
    written_follows c.args.self.now.record.calls c.args.at c.args.bytes.now c.requires.within content
    (subst (λ (calls : List Call). MayLeave calls content) c.then-self.ensures left)
