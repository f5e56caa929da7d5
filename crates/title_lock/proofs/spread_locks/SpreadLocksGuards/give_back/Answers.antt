-- The table without an examiner's modes is that of the entries without its own.
use Rattle.std.proofs.Common.{◌∙◌, sym, ap, subst, List, Option, None, ℕ}
use Rattle.title_land.specs.Depth.{depth}
use Rattle.title_lock.specs.{declared.guards.Entry.{Entry}, Overlaps.{without}, Tables.{TableIs, on_all}, Locks.{Locks, granted, AreLocks}}
use Rattle.title_lock.proofs.{GiveBack.{table_fewer, table_held}, KeptLaws.{forgotten, lean_same}}
use Rattle.title_lock.proofs.spread_locks.SpreadLocksGuards.give_back.Goals as goal

pub give_back_all-requires : goal.give_back_all-requires
give_back_all-requires c =
    let i = c.self.inside in
    let was = forgotten depth i.prepared i.book i.table c.self.invariant
    (ap (λ (l : Locks). l.prepared) c.self.view_is ∙ c.forget.ensures.none) in
    record { held = table_held depth i.book (on_all i.table) was.table c.args.examiner }

pub invariant_of-self : goal.invariant_of-self
invariant_of-self c =
    let i = c.self.inside in
    let more = c.give_back_all.new.table in
    let was = forgotten depth i.prepared i.book i.table c.self.invariant
    (ap (λ (l : Locks). l.prepared) c.self.view_is ∙ c.forget.ensures.none) in
    subst (λ (p : Option ℕ). AreLocks depth p c.give_back_all.new.book more) (sym was.none) (record {
      kept = subst (λ (es : List Entry). TableIs depth es (on_all more)) (sym c.give_back_all.ensures.left)
          (table_fewer depth c.args.examiner i.book i.table more was.table c.give_back_all.ensures.modes);
      lean = lean_same depth None i.table more was.lean c.give_back_all.ensures.idle c.give_back_all.ensures.used;
    })

pub returns : goal.returns
returns c =
    let i = c.self.inside in
    let was = forgotten depth i.prepared i.book i.table c.self.invariant
    (ap (λ (l : Locks). l.prepared) c.self.view_is ∙ c.forget.ensures.none) in
    record {
      left = ap (λ (p : Option ℕ). granted p c.give_back_all.new.book) was.none ∙ c.give_back_all.ensures.left
          ∙ ap (λ (es : List Entry). without c.args.examiner es)
          (sym was.all ∙ ap (λ (l : Locks). l.entries) c.self.view_is ∙ c.forget.ensures.stays);
    }
