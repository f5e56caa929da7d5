-- The cells of a node, and of a half of a square.
use Rattle.std.proofs.Common.{◌≡◌, ◌≤◌, ◌&&◌, length, sym, ap, subst, ◌∙◌, arith}
use Rattle.std.specs.Arc.{arc_value}
use Rattle.title_land.specs.{Depth.{depth}, declared.tract.{Land.{Land}, Extent.{Extent}}, Extents.{kept_land, IsExtent}}
use Rattle.title_land.specs.{Rectangles.{half_of, holds}, Nodes.{square}, Survey.{same_section}, declared.tract.Halved.{Halved}}
use Rattle.title_land.specs.{Lands.{has, land_of, half_land}, Laws.{NodeLands.{has-land_of}, HalfLands.{has-half_land}}}
use Rattle.title_land.proofs.tract.Tract.has_cell.Goals as goal

pub returns-in-Node : goal.returns-in-Node
returns-in-Node c =
    let land : land_of depth c.in-Node.node ≡ c.args.self.now = ap kept_land (sym c.in-Node.is) ∙ c.self.view_is in
    let tree = subst (λ (x : Extent). IsExtent x) c.in-Node.is c.self.invariant in
    record { has = c.has.ensures.has ∙ sym (has-land_of depth c.in-Node.node c.args.cell tree) ∙ ap (λ (x : Land). has x c.args.cell) land }

pub returns-in-Half : goal.returns-in-Half
returns-in-Half c =
    let s = (arc_value c.in-Half.half).section in
    let h = (arc_value c.in-Half.half).which in
    let w = (arc_value c.in-Half.half).within in
    let land : half_land depth s h w ≡ c.args.self.now = ap kept_land (sym c.in-Half.is) ∙ c.self.view_is in
    let kept = subst (λ (x : Extent). IsExtent x) c.in-Half.is c.self.invariant in
    let wide = kept.0 in
    let short : length w ≤ depth = omega (arith, wide) in
    record {
      has = c.has-in-Half.ensures.has
          ∙ ap (λ (half : Halved). same_section half.section c.args.cell.section
          && holds (half_of half.which (square depth half.within)) c.args.cell.row c.args.cell.column) c.deref.ensures
          ∙ sym (has-half_land depth s h w c.args.cell short) ∙ ap (λ (x : Land). has x c.args.cell) land;
    }
