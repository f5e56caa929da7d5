-- What was left to show of `area_of`.
use Rattle.std.proofs.{Common.{◌≡◌, ◌+◌, ◌-◌, List, [], None, length, drop, sym, subst, arith}, lemmas.List.{drop_all}}
use Rattle.title_land.specs.{Depth.{depth}, declared.rectangle.Rectangle.{Rectangle}, Rectangles.{step_of}}
use Rattle.title_aliquot.{specs.declared.syntax.Entry.{Entry}, proofs.Areas.{Walked, walked_nothing, part_missing}}
use Rattle.title_aliquot.proofs.meaning.area_of.Goals as goal

pub entries-init : goal.entries-init
entries-init c =
    let none = drop_all (length c.args.entries.now) c.args.entries.now (omega arith) in
    subst (λ (es : List Entry). Walked depth es c.section-shape.result c.nothing-area.result) (sym none)
    (subst (λ (r : Rectangle). Walked depth [] r c.nothing-area.result) (sym c.section-shape.ensures.section)
    (walked_nothing depth c.nothing-area.result c.nothing-area.ensures.nothing))

pub returns-in_err-shape-in-Step : goal.returns-in_err-shape-in-Step
returns-in_err-shape-in-Step c =
    let none : step_of c.in-Step.step c.entries.shape ≡ None = sym c.in_err-shape-in-Step.ensures.step in
    let next : c.entries.index - 1 + 1 ≡ c.entries.index = omega arith in
    let w = subst (λ n. Walked depth (drop n c.args.entries.now) c.entries.shape c.entries.area) (sym next) c.entries.invariant in
    let gone = part_missing depth c.args.entries.now (c.entries.index - 1) _ c.entries.shape c.entries.area
    c.in-Step.step c.requires.begun (omega arith) c.in-Step.is w none in
    record { area = rw c.from_residual.ensures gone }

pub returns : goal.returns
returns c =
    let e : c.entries.index ≡ 0 = omega arith in
    let w = subst (λ n. Walked depth (drop n c.args.entries.now) c.entries.shape c.entries.area) e c.entries.invariant in
    record { area = w.parts }
