-- The others' entries stand as they stood.
use Rattle.std.{proofs.Common.{◌∙◌, sym, ap, subst, List, [], reverse, not, eqb, None}, specs.Prelude.{nat_lt, vec_len, vec_capacity}}
use Rattle.std.proofs.lemmas.List.Elements.{All-filter}
use Rattle.title_land.specs.{Depth.{depth}, Lands.{IsLand}}
use Rattle.title_lock.{specs.{declared.guards.Entry.{Entry}, Overlaps.{without}, Locks.{Locks, AreRows}}, proofs.Standing.{left_free}}
use Rattle.title_lock.proofs.BookLaws.{filter_turned}
use Rattle.title_lock.proofs.row_locks.RowLocksGuards.give_back.Goals as goal

pub invariant_of-self : goal.invariant_of-self
invariant_of-self c =
    let e = c.args.examiner in
    let es = reverse c.self.inside.rows.items in
    let turned = filter_turned (λ (x : Entry). not (eqb x.examiner e)) c.self.inside.rows.items []
    ∙ ap (λ (t : List Entry). reverse t) (sym c.take_out.ensures.rows) in
    subst (λ (t : List Entry). AreRows depth t None (nat_lt (vec_len c.take_out.new.rows) (vec_capacity c.take_out.new.rows))) turned
    (record {
      free = left_free e es c.self.invariant.free;
      sized = All-filter (λ (z : Entry). not (eqb z.examiner e)) (λ (z : Entry). IsLand depth z.tract) es c.self.invariant.sized;
      ready = tt;
    })

pub returns : goal.returns
returns c =
    let e = c.args.examiner in
    record {
      left = ap (λ (t : List Entry). reverse t) c.take_out.ensures.rows
          ∙ sym (filter_turned (λ (x : Entry). not (eqb x.examiner e)) c.self.inside.rows.items [])
          ∙ ap (λ (l : Locks). without e l.entries) c.self.view_is;
    }
