-- What is taken is what was prepared, and it had room alone.
use Rattle.std.{proofs.Common.{◌∙◌, ap, sym, subst, List, Option, Some, ℕ}, specs.List.{list_any}}
use Rattle.title_land.specs.{Depth.{depth}, declared.node.Node.{Node}, Lands.{cover_of}}
use Rattle.title_lock.specs.{declared.guards.Entry.{Entry}, Tables.{is_asked, IdleLess, TableIs, on_all}}
use Rattle.title_lock.specs.Locks.{Locks, granted, waiting, AreKept, IsLean}
use Rattle.title_lock.proofs.KeptLaws.{kept_table, table_same, prepared_taken, prepared_some, lean_done}
use Rattle.title_lock.proofs.spread_locks.SpreadLocks.forget.Goals as goal

pub invariant_of-self : goal.invariant_of-self
invariant_of-self c =
    let e = c.in-Some.examiner in
    let book = c.self.inside.book in
    let table = c.self.inside.table in
    let kept = subst (λ (p : Option ℕ). AreKept depth p book table) c.in-Some.is c.self.invariant.kept in
    let x = c.in-Some-take.entry in
    let taken = prepared_taken depth e book c.take.new.self table x kept c.in-Some-take.ensures.taken in
    let waits = ap (λ (p : Option ℕ). waiting p book) c.in-Some.is ∙ taken.0 in
    record {
      kept = subst (λ (es : List Entry). TableIs depth es (on_all c.drop_room_all.new.self)) (sym taken.1)
          (table_same depth (granted (Some e) book) table c.drop_room_all.new.self c.drop_room_all.ensures.modes (kept_table depth
          (Some e) book table kept));
      lean = lean_done depth x table c.drop_room_all.new.self
          (subst (λ (w : Option Entry). IsLean depth w table) waits c.self.invariant.lean)
          (subst (λ (f : ℕ). IdleLess (on_all table) (on_all c.drop_room_all.new.self) f
          (λ n. list_any (is_asked n) (cover_of depth x.tract))) (sym c.in-Some-take.ensures.own)
          (subst (λ (t : List Node). IdleLess (on_all table) (on_all c.drop_room_all.new.self) e (λ n. list_any (is_asked n) t))
          c.cover.ensures.cover
          c.drop_room_all.ensures.idle))
          c.drop_room_all.ensures.used;
    }

pub returns-in-Some-take-clause-stays : goal.returns-in-Some-take-clause-stays
returns-in-Some-take-clause-stays c =
    let e = c.in-Some.examiner in
    let book = c.self.inside.book in
    let table = c.self.inside.table in
    let kept = subst (λ (p : Option ℕ). AreKept depth p book table) c.in-Some.is c.self.invariant.kept in
    (prepared_taken depth e book c.take.new.self table c.in-Some-take.entry kept c.in-Some-take.ensures.taken).1
    ∙ ap (λ (p : Option ℕ). granted p book) (sym c.in-Some.is) ∙ ap (λ (l : Locks). l.entries) c.self.view_is

pub invariant_of-self-in_default-take : goal.invariant_of-self-in_default-take
invariant_of-self-in_default-take c = absurd (prepared_some depth c.in-Some.examiner c.self.inside.book c.self.inside.table
    (subst (λ (p : Option ℕ). AreKept depth p c.self.inside.book c.self.inside.table) c.in-Some.is c.self.invariant.kept)
    c.in_default-take.ensures.none.1)

pub returns-in_default-take-clause-stays : goal.returns-in_default-take-clause-stays
returns-in_default-take-clause-stays c = absurd (prepared_some depth c.in-Some.examiner c.self.inside.book c.self.inside.table
    (subst (λ (p : Option ℕ). AreKept depth p c.self.inside.book c.self.inside.table) c.in-Some.is c.self.invariant.kept)
    c.in_default-take.ensures.none.1)
