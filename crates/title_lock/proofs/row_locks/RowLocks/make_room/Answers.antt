-- Nobody is in the way of what is prepared, and there is room for it.
use Rattle.std.proofs.{Common.{◌<◌, ap, sym, subst, List, reverse, Some, None, arith}, lemmas.Bool.{lt-ltb}}
use Rattle.std.specs.Prelude.{nat_lt, vec_len, vec_capacity}
use Rattle.title_land.specs.{Depth.{depth}, Lands.{IsLand}, declared.tract.Land.{Land}}
use Rattle.title_lock.specs.{declared.guards.Entry.{Entry}, Overlaps.{is_post, Stands}, Locks.{Locks, AreRows}}
use Rattle.title_lock.proofs.row_locks.RowLocks.make_room.Goals as goal

pub invariant_of-self-2 : goal.invariant_of-self-2
invariant_of-self-2 c =
    let x : Entry = record { examiner = c.args.examiner; tract = c.in_ok-copy.copy; access = c.args.access } in
    let p = is_post c.args.access in
    let rows = c.reserve.new.self in
    let wide : IsLand depth x.tract = subst (λ (l : Land). IsLand depth l) (sym c.in_ok-copy.ensures.copy) c.cover.ensures.sized in
    let free : Stands (reverse c.self.inside.rows.items) c.args.examiner x.tract p None =
    subst (λ (l : Land). Stands (reverse c.self.inside.rows.items) c.args.examiner l p None) (sym c.in_ok-copy.ensures.copy)
    (subst (λ (es : List Entry). Stands es c.args.examiner c.args.tract.now p None) (sym (ap (λ (l : Locks). l.entries) c.self.view_is))
    c.requires.free) in
    let room : vec_len rows < vec_capacity rows = omega (arith, c.in_ok-reserve.ensures) in
    subst (λ (t : List Entry). AreRows depth (reverse t) (Some x) (nat_lt (vec_len rows) (vec_capacity rows)))
    (sym c.reserve.ensures.items)
    (record {
      free = c.self.invariant.free;
      sized = c.self.invariant.sized;
      ready = (wide, free, lt-ltb (vec_len rows) (vec_capacity rows) room);
    })
