-- An access that is prepared waits, with room for what it asks for; where memory is refused nothing is left of it.
use Rattle.std.{proofs.Common.{◌≡◌, ◌∙◌, ℕ, List, Option, Some, None, refl, sym, ap, subst}, specs.List.{list_any}}
use Rattle.title_land.specs.{Depth.{depth}, declared.{node.Node.{Node}, tract.Land.{Land}}, Lands.{cover_of, IsLand}}
use Rattle.title_lock.specs.{declared.guards.Entry.{Entry}, Overlaps.{is_post, Stands}, Tables.{is_asked, HasRoom, IdleMore, on_all}}
use Rattle.title_lock.{specs.Locks.{Locks, AreLocks}, proofs.RootedLaws.{table_roomy}}
use Rattle.title_lock.proofs.KeptLaws.{forgotten, table_same, lean_more, lean_same}
use Rattle.title_lock.proofs.spread_locks.SpreadLocksGuards.prepare.Goals as goal

pub stage-requires : goal.stage-requires
stage-requires c =
    let i = c.self.inside in
    let was = forgotten depth i.prepared i.book i.table c.self.invariant
    (ap (λ (l : Locks). l.prepared) c.self.view_is ∙ c.forget.ensures.none) in
    record { roomy = table_roomy depth i.book i.table was.table was.lean c.args.examiner }

pub invariant_of-self : goal.invariant_of-self
invariant_of-self c =
    let i = c.self.inside in
    let u = c.stage.new.table in
    let was = forgotten depth i.prepared i.book i.table c.self.invariant
    (ap (λ (l : Locks). l.prepared) c.self.view_is ∙ c.forget.ensures.none) in
    subst (λ (p : Option ℕ). AreLocks depth p c.stage.new.book u) (sym was.none)
    (subst (λ (b : List Entry). AreLocks depth None b u) (sym c.in_default-stage.ensures.err) (record {
      kept = table_same depth i.book i.table u c.stage.ensures.modes was.table;
      lean = lean_same depth None i.table u was.lean c.in_default-stage.ensures.undone c.stage.ensures.used;
    }))

pub invariant_of-self-2 : goal.invariant_of-self-2
invariant_of-self-2 c =
    let i = c.self.inside in
    let u = c.stage.new.table in
    let e = c.args.examiner in
    let x : Entry = record { examiner = e; tract = c.in-Ok.copy; access = c.args.access } in
    let was = forgotten depth i.prepared i.book i.table c.self.invariant
    (ap (λ (l : Locks). l.prepared) c.self.view_is ∙ c.forget.ensures.none) in
    let es : i.book ≡ c.forget.new.self.entries = sym was.all ∙ ap (λ (l : Locks). l.entries) c.self.view_is in
    let cover : c.cover.result.now ≡ cover_of depth c.in-Ok.copy = c.cover.ensures.cover ∙ ap (cover_of depth) (sym c.in-Ok.ensures.copy) in
    subst (λ (b : List Entry). AreLocks depth (Some e) b u) (sym c.in-Ok-stage.ensures.ok) (record {
      kept = (
        table_same depth i.book i.table u c.stage.ensures.modes was.table,
        record {
          own = refl;
          wide = subst (λ (l : Land). IsLand depth l) (sym c.in-Ok.ensures.copy) c.cover.ensures.sized;
          free = subst (λ (l : Land). Stands i.book e l (is_post c.args.access) None) (sym c.in-Ok.ensures.copy)
              (subst (λ (b : List Entry). Stands b e c.args.tract.now (is_post c.args.access) None) (sym es) c.in_default.ensures.would);
          room = subst (λ (nodes : List Node). HasRoom (on_all u) e (λ n. list_any (is_asked n) nodes)) cover c.in-Ok-stage.ensures.room;
        },
      );
      lean = lean_more depth x i.table u was.lean
          (subst (λ (nodes : List Node). IdleMore (on_all i.table) (on_all u) e (λ n. list_any (is_asked n) nodes)) cover
          c.in-Ok-stage.ensures.idle)
          c.stage.ensures.used;
    })
