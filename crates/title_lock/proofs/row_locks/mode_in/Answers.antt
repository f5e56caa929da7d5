-- One row more, before those so far.
use Rattle.std.proofs.{Common.{◌<◌, ◌∙◌, ◌∷◌, ap, sym, List, Option, eqb, cond, None, reverse, take, length, arith}, lemmas.List.{take_all}}
use Rattle.title_land.specs.{Depth.{depth}, Lands.{cover_of}}
use Rattle.title_lock.specs.{declared.{modes.Mode.{Mode}, guards.Entry.{Entry}}, Modes.{bound}, Overlaps.{is_post}, Asking.{asked, mode_at}}
use Rattle.title_lock.proofs.RowLaws.{turned_more}
use Rattle.title_lock.proofs.row_locks.mode_in.Goals as goal

pub loop-row-preserved : goal.loop-row-preserved
loop-row-preserved c =
    let low : c.loop-row.row-index < length c.args.rows.now = omega arith in
    let e = c.args.examiner in
    let n = c.args.node.now in
    let x = c.entry.result.now in
    let before = reverse (take c.loop-row.row-index c.args.rows.now) in
    let turned = ap (λ (z : Entry). z ∷ before) (c.entry.ensures.entry ∙ c.row-item.is)
    ∙ sym (turned_more c.args.rows.now c.loop-row.row-index c.row-item.result low) in
    c.bound-mode.ensures.bound
    ∙ ap (λ (m : Option Mode). bound m c.loop-row.mode) c.mode_by.ensures.mode
    ∙ ap (bound (cond (eqb e x.examiner) (asked (is_post x.access) (cover_of depth x.tract) n) None)) c.loop-row.invariant
    ∙ ap (λ (es : List Entry). mode_at depth es e n) turned

pub returns : goal.returns
returns c = record {
  mode = c.loop-row.invariant ∙ ap (λ (es : List Entry). mode_at depth (reverse es) c.args.examiner c.args.node.now)
      (take_all c.loop-row.row-index c.args.rows.now (omega arith));
}
