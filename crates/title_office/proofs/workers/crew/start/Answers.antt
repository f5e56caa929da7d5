-- What a thread is given may cross to it.
use denote.Param.{param}
use denote.Param.Send.{IsSync, struct_sync, recorded_sync, shr_sync, sendable}
use denote.Ref.{NamedLft}
use denote.Struct.Declared as declared
use denote.Struct.Struct.{Struct}
use Rattle.std.proofs.Crossing as std
use Rattle.title_office.proofs.Crossing.{desk_send, heap_sync}
use Rattle.title_office.specs.contracts.office.Office as office
use Rattle.title_office.specs.contracts.workers.bench.Bench as bench
use Rattle.title_views.proofs.fronts.Fronts.TheSendSync as fronts_sent
use Rattle.title_office.proofs.workers.job.Job.TheSendSync as job_sent
use Rattle.title_office.proofs.workers.crew.start.Given as given
use Rattle.title_office.proofs.workers.crew.start.Goals as goal

office_sync : (g : given.Over) (c : goal.After-pledge-pledge g) → IsSync (office.the_row (param 0 g.row.B) g.B.Room)
office_sync g c = search (desk_send, fronts_sent.the_send, std.crosses, sendable, c.type_bounds) depth 60 fits 20000

bench_sync : (a : NamedLft) (g : given.Over) (c : goal.After-pledge-pledge g)
    → IsSync (bench.the_row a (param 0 g.row.B) (param 1 g.row.R) (param 2 g.row.G) g.B.Room)
bench_sync a g c =
    let T = bench.the_type a (param 0 g.row.B) (param 1 g.row.R) (param 2 g.row.G) g.B.Room in
    let S = declared.shape T in
    recorded_sync (Struct S) T.D T.to T.to_one (struct_sync S (
      shr_sync _ _ (param 1 g.row.R) (search c.type_bounds),
      (
        heap_sync,
        (
          shr_sync _ _ (office.the_row (param 0 g.row.B) g.B.Room) (office_sync g c),
          (shr_sync _ _ (param 2 g.row.G) (search c.type_bounds), tt),
        ),
      ),
    ))

pub spawn_with-requires-send-F : goal.spawn_with-requires-send-F
spawn_with-requires-send-F g c κs within = search (bench_sync, job_sent.the_send, sendable, std.crosses, c.type_bounds) depth 60 fits 20000
