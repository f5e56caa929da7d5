-- What an entry asks for is given back beside what the others of its examiner ask for; at the end there are none.
use Rattle.std.{proofs.Common.{◌∙◌, ◌&&◌, List, None, cond, eqb, refl, sym, ap, arith}, specs.List.{list_any}}
use Rattle.title_land.specs.{Depth.{depth}, declared.node.Node.{Node}, Nodes.{same_node}}
use Rattle.title_lock.specs.Tables.{table_mode, is_asked, on_all}
use Rattle.title_lock.proofs.GiveBack.{asked_more, without_more, none_left, gone_begins, gone_cover, gone_stays}
use Rattle.title_lock.proofs.spread_locks.give_back_all.Goals as goal

pub loop-entry-init : goal.loop-entry-init
loop-entry-init c = record {
  others = refl;
  modes = λ f n. refl;
  idle = record { same = λ f n idle. idle };
  gone = gone_begins depth c.args.examiner c.args.book.now (on_all c.args.table.now) c.requires.held;
  used = λ used. used;
}

pub take_out_all-requires : goal.take_out_all-requires
take_out_all-requires c = record {
  gone = λ n in_cover. gone_cover depth c.args.examiner c.in-Some.entry c.take.new.self c.loop-entry.book (on_all c.loop-entry.table)
      c.in-Some.ensures.own c.in-Some.ensures.taken c.loop-entry.invariant.gone n
      (ap (list_any (same_node n)) (sym c.cover.ensures.cover) ∙ in_cover);
}

pub loop-entry-preserved : goal.loop-entry-preserved
loop-entry-preserved c =
    let e = c.args.examiner in
    let x = c.in-Some.entry in
    let left = c.take.new.self in
    let book = c.loop-entry.book in
    let own = c.in-Some.ensures.own in
    let more = c.in-Some.ensures.taken in
    record {
      others = without_more e x left book own more ∙ c.loop-entry.invariant.others;
      modes = λ f n. grind (
        arith,
        c.take_out_all.ensures.modes f n,
        ap (list_any (is_asked n)) c.cover.ensures.cover,
        asked_more depth e n x left book own more,
        c.loop-entry.invariant.modes f n,
      );
      idle = record { same = λ f n idle. c.loop-entry.invariant.idle.same f n (c.take_out_all.ensures.idle.same f n idle) };
      gone = gone_stays depth e x left book (on_all c.loop-entry.table) (on_all c.take_out_all.new.self) own more (λ f n.
          c.take_out_all.ensures.modes f n ∙ ap (λ (t : List Node). cond (eqb f e && list_any (is_asked n) t) None
          (table_mode (on_all c.loop-entry.table) f n)) c.cover.ensures.cover) c.loop-entry.invariant.gone;
      used = λ used. c.take_out_all.ensures.used (c.loop-entry.invariant.used used);
    }

pub returns-clause-modes : goal.returns-clause-modes
returns-clause-modes c = λ f n.
    none_left depth c.args.examiner n c.loop-entry.book (eqb f c.args.examiner) (table_mode (on_all c.loop-entry.table) f n)
    c.in_default.ensures.none.1 ∙ c.loop-entry.invariant.modes f n
