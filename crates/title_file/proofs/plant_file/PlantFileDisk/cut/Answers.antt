-- A cut that failed may have been done, or not.
use Rattle.std.proofs.Common.{List, subst}
use Rattle.title_file.specs.{Calls.{Call, MayLeave}, Laws.{uncut_follows}}
use Rattle.title_file.proofs.plant_file.PlantFileDisk.cut.Goals as goal

pub returns-else-is_ok-clause-crash : goal.returns-else-is_ok-clause-crash
returns-else-is_ok-clause-crash c content left =
    uncut_follows c.args.self.now.record.calls c.args.len content
    (subst (λ (calls : List Call). MayLeave calls content) c.then-self-else-is_ok.ensures left)
