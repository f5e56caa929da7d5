-- One row more, before those so far; one of another section is passed over.
use Rattle.std.proofs.Common.{◌≡◌, ◌<◌, ◌∙◌, ◌∷◌, ◌&&◌, ℕ, true, Option, List, eqb, ap, sym, subst, reverse, take, length, arith}
use Rattle.std.proofs.lemmas.List.{take_all}
use Rattle.title_lock.{specs.{declared.guards.Entry.{Entry}, Overlaps.{is_post, overlap, against, Stands}}, proofs.LeastLaws.{least_join}}
use Rattle.title_lock.{specs.Homes.{home_number, is_elsewhere}, proofs.{HomeTracts.{passed_over}, RowLaws.{turned_more}}}
use Rattle.title_lock.proofs.row_locks.way.Goals.{then-not-is_elsewhere, else-not-is_elsewhere}
use Rattle.title_lock.proofs.row_locks.way.Goals as goal

pub loop-row-preserved : goal.loop-row-preserved
loop-row-preserved c =
    let low : c.loop-row.row-index < length c.args.rows.now = omega arith in
    let e = c.args.examiner in
    let p = is_post c.args.access in
    let land = c.args.tract.now in
    let x = c.row-item.result in
    let before = reverse (take c.loop-row.row-index c.args.rows.now) in
    let turned = ap (λ (z : Entry). z ∷ before) c.row-item.is ∙ sym (turned_more c.args.rows.now c.loop-row.row-index x low) in
    subst (λ (es : List Entry). Stands es e land p c.if-not-is_elsewhere.way') turned (elim c.if-not-is_elsewhere.branch [
      | then-not-is_elsewhere w ↦
          let y = w.entry.result.now in
          subst (λ (o : Option ℕ). Stands (x ∷ before) e land p o) (sym w.way'-is)
          (subst (λ (z : Entry). Stands (z ∷ before) e land p w.least-way.result) w.entry.ensures.entry
          (subst (λ (o : Option ℕ). Stands (y ∷ before) e land p o) (sym w.least-way.ensures.least)
          (least_join (λ f. eqb f y.examiner && overlap land p y.tract (is_post y.access)) (λ f. against land p f before) e
          w.way_of.result c.loop-row.way w.way_of.ensures.way c.loop-row.invariant)))
      | else-not-is_elsewhere w ↦
          let elsewhere : c.is_elsewhere.result ≡ true = grind (arith, w.if-not-is_elsewhere.false) in
          subst (λ (o : Option ℕ). Stands (x ∷ before) e land p o) (sym w.way'-is)
          (passed_over x before e land p c.loop-row.way
          (ap (is_elsewhere (home_number x.tract)) (sym c.home_number-home.ensures.number)
          ∙ sym c.is_elsewhere.ensures.elsewhere ∙ elsewhere) c.loop-row.invariant)
    ])

pub returns : goal.returns
returns c = record {
  way = subst (λ (es : List Entry). Stands (reverse es) c.args.examiner c.args.tract.now (is_post c.args.access) c.loop-row.way)
      (take_all c.loop-row.row-index c.args.rows.now (omega arith)) c.loop-row.invariant;
}
