-- The table with what was prepared is that of the entries with the new one.
use Rattle.std.{proofs.Common.{◌∷◌, ◌∙◌, sym, ap, subst, List, Option, None, cond, eqb}, specs.List.{list_any}}
use Rattle.title_land.specs.{Depth.{depth}, declared.node.Node.{Node}}
use Rattle.title_lock.specs.{declared.guards.Entry.{Entry}, Modes.{bound}, Overlaps.{is_post}, Asking.{asked}, Tables.{on_all}}
use Rattle.title_lock.specs.{Tables.{table_mode, is_asked, IdleLess, TableIs}, Locks.{Locks, granted, IsLean}}
use Rattle.title_lock.proofs.{MeetLaws.{meet_by_covers}, GiveBack.{table_more}, RootedLaws.{table_rooted}}
use Rattle.title_lock.proofs.KeptLaws.{kept_table, first_waits, lean_done}
use Rattle.title_lock.proofs.spread_locks.SpreadLocksGuards.grant.Goals as goal

pub raise_all-requires : goal.raise_all-requires
raise_all-requires c =
    let es = granted c.self.inside.prepared c.self.inside.book in
    let x : Entry = record { examiner = c.args.examiner; tract = c.args.tract.now; access = c.args.access } in
    let first = first_waits depth c.self.inside.prepared c.self.inside.book c.self.inside.table x c.self.invariant.kept
    (ap (λ (l : Locks). l.prepared) c.self.view_is ∙ c.requires.prepared) in
    record {
      room = λ n asks. first.1.room n (ap (λ (t : List Node). list_any (is_asked n) t) (sym c.cover.ensures.cover) ∙ asks);
      rooted = table_rooted depth es (on_all c.self.inside.table) (kept_table depth c.self.inside.prepared c.self.inside.book
          c.self.inside.table c.self.invariant.kept) c.args.examiner;
    }

pub invariant_of-self : goal.invariant_of-self
invariant_of-self c =
    let x : Entry = record { examiner = c.args.examiner; tract = c.args.tract.now; access = c.args.access } in
    let table = c.self.inside.table in
    let es = granted c.self.inside.prepared c.self.inside.book in
    let first = first_waits depth c.self.inside.prepared c.self.inside.book table x c.self.invariant.kept
    (ap (λ (l : Locks). l.prepared) c.self.view_is ∙ c.requires.prepared) in
    record {
      kept = subst (λ (t : List Entry). TableIs depth t (on_all c.raise_all.new.self)) (sym first.0)
          (table_more depth meet_by_covers es table c.raise_all.new.self x first.1.wide
          (kept_table depth c.self.inside.prepared c.self.inside.book table c.self.invariant.kept) first.1.free
          (λ f n. c.raise_all.ensures.modes f n
          ∙ ap (λ (t : List Node). bound (table_mode (on_all table) f n) (cond (eqb f x.examiner) (asked
          (is_post x.access) t n) None)) c.cover.ensures.cover));
      lean = lean_done depth x table c.raise_all.new.self
          (subst (λ (w : Option Entry). IsLean depth w table) (ap (λ (l : Locks). l.prepared) c.self.view_is ∙ c.requires.prepared)
          c.self.invariant.lean)
          (subst (λ (t : List Node). IdleLess (on_all table) (on_all c.raise_all.new.self) x.examiner (λ n. list_any (is_asked n) t))
          c.cover.ensures.cover
          c.raise_all.ensures.idle)
          c.raise_all.ensures.used;
    }

pub returns : goal.returns
returns c =
    let x : Entry = record { examiner = c.args.examiner; tract = c.args.tract.now; access = c.args.access } in
    let first = first_waits depth c.self.inside.prepared c.self.inside.book c.self.inside.table x c.self.invariant.kept
    (ap (λ (l : Locks). l.prepared) c.self.view_is ∙ c.requires.prepared) in
    record { granted = first.0 ∙ ap (λ (l : Locks). x ∷ l.entries) c.self.view_is }
