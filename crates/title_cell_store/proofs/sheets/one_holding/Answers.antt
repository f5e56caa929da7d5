-- The first cell's holding is all cells' where the loop meets no other.
use Rattle.std.proofs.Common.{◌≡◌, ◌<◌, ◌≤◌, true, false, length, sym, ap, ◌∙◌, arith}
use Rattle.title_land.specs.declared.survey.Cell.{Cell}
use Rattle.title_share.specs.Division.{Division}
use Rattle.title_instrument.specs.Owners.{holding_of}
use Rattle.title_cell_store.specs.CellMaps.{content_of}
use Rattle.title_store.specs.Sheets.{same_division}
use Rattle.title_store.specs.Laws.SheetSteps.{same_test, all_on, all_stops, all_done, one_at}
use Rattle.title_cell_store.proofs.sheets.one_holding.Goals as goal

pub returns-then-not-same : goal.returns-then-not-same
returns-then-not-same c =
    let low : c.loop-cell.cell-index < length c.in-Some.others.now = omega arith in
    let here : c.of.result.now ≡ holding_of c.args.estate (content_of c.args.map.now c.cell-item.result) =
    c.of.ensures.of ∙ ap (holding_of c.args.estate) c.owners-in-loop-cell.ensures.owners in
    let test = ap (λ (h : Division). same_division h c.of-held.result.now) (sym here)
    ∙ same_test c.of.result.now c.of-held.result.now c.same.result c.same.ensures.same ∙ c.if-not-same.true in
    let stop = all_stops (λ x. same_division (holding_of c.args.estate (content_of c.args.map.now x)) c.of-held.result.now)
    c.in-Some.others.now c.loop-cell.cell-index c.cell-item.result low c.loop-cell.invariant
    (ap (λ (x : Cell). same_division (holding_of c.args.estate (content_of c.args.map.now x)) c.of-held.result.now) (sym c.cell-item.is)
    ∙ test) in
    record {
      holding = one_at c.args.estate (content_of c.args.map.now) c.in-Some.first.now c.in-Some.others.now c.args.cells.now
          c.of-held.result.now false c.in-Some.ensures.cases.0
          (c.of-held.ensures.of ∙ ap (holding_of c.args.estate) c.owners.ensures.owners) stop;
    }

pub loop-cell-preserved : goal.loop-cell-preserved
loop-cell-preserved c =
    let low : c.loop-cell.cell-index < length c.in-Some.others.now = omega arith in
    let here : c.of.result.now ≡ holding_of c.args.estate (content_of c.args.map.now c.cell-item.result) =
    c.of.ensures.of ∙ ap (holding_of c.args.estate) c.owners-in-loop-cell.ensures.owners in
    let test = ap (λ (h : Division). same_division h c.of-held.result.now) (sym here)
    ∙ same_test c.of.result.now c.of-held.result.now c.same.result c.same.ensures.same ∙ c.if-not-same.false in
    all_on (λ x. same_division (holding_of c.args.estate (content_of c.args.map.now x)) c.of-held.result.now) c.in-Some.others.now
    c.loop-cell.cell-index c.cell-item.result low c.loop-cell.invariant
    (ap (λ (x : Cell). same_division (holding_of c.args.estate (content_of c.args.map.now x)) c.of-held.result.now) (sym c.cell-item.is)
    ∙ test)

pub returns : goal.returns
returns c =
    let high : length c.in-Some.others.now ≤ c.loop-cell.cell-index = omega arith in
    let done = all_done (λ x. same_division (holding_of c.args.estate (content_of c.args.map.now x)) c.of-held.result.now)
    c.in-Some.others.now c.loop-cell.cell-index high c.loop-cell.invariant in
    record {
      holding = one_at c.args.estate (content_of c.args.map.now) c.in-Some.first.now c.in-Some.others.now c.args.cells.now
          c.of-held.result.now true c.in-Some.ensures.cases.0
          (c.of-held.ensures.of ∙ ap (holding_of c.args.estate) c.owners.ensures.owners) done;
    }
