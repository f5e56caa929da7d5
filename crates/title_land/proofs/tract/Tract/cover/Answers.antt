-- The cover that a tract keeps is the set of its cover nodes, in order.
use Rattle.std.proofs.Common.{◌≡◌, List, sym, ap, subst, ◌∙◌}
use Rattle.std.specs.Arc.{arc_value}
use Rattle.title_land.specs.{Depth.{depth}, declared.node.Node.{Node}}
use Rattle.title_land.specs.declared.tract.{Land.{Land}, Extent.{Extent}, Halved.{Halved}, Shape.{Shape}}
use Rattle.title_land.specs.{CoverSets.{IsCover}, Extents.{kept_land, IsExtent}, Lands.{cover_of, land_of, half_land, IsLand}}
use Rattle.title_land.specs.Laws.{CoverSet.{cover_is_cover}, NodeLands.{cover_of-land_of, is_land-land_of}}
use Rattle.title_land.specs.Laws.HalfLands.{cover_of-half_land, is_land-half_land}
use Rattle.title_land.proofs.tract.Tract.cover.Goals as goal

pub returns-in-Node-clause-cover : goal.returns-in-Node-clause-cover
returns-in-Node-clause-cover c =
    let land : land_of depth c.in-Node.node ≡ c.args.self.now = ap kept_land (sym c.in-Node.is) ∙ c.self.view_is in
    let tree = subst (λ (x : Extent). IsExtent x) c.in-Node.is c.self.invariant in
    c.from_ref.ensures.value ∙ sym (cover_of-land_of depth c.in-Node.node tree) ∙ ap (cover_of depth) land

pub returns-in-Node-clause-set : goal.returns-in-Node-clause-set
returns-in-Node-clause-set c =
    subst (λ (ns : List Node). IsCover depth c.args.self.now ns) (sym (returns-in-Node-clause-cover c))
    (cover_is_cover depth c.args.self.now)

pub returns-in-Node-clause-sized : goal.returns-in-Node-clause-sized
returns-in-Node-clause-sized c =
    let land : land_of depth c.in-Node.node ≡ c.args.self.now = ap kept_land (sym c.in-Node.is) ∙ c.self.view_is in
    subst (λ (x : Land). IsLand depth x) land (is_land-land_of depth c.in-Node.node)

pub returns-in-Half-clause-cover : goal.returns-in-Half-clause-cover
returns-in-Half-clause-cover c =
    let s = (arc_value c.in-Half.half).section in
    let h = (arc_value c.in-Half.half).which in
    let w = (arc_value c.in-Half.half).within in
    let land : half_land depth s h w ≡ c.args.self.now = ap kept_land (sym c.in-Half.is) ∙ c.self.view_is in
    let kept = subst (λ (x : Extent). IsExtent x) c.in-Half.is c.self.invariant in
    c.as_slice.ensures ∙ ap (λ (half : Halved). half.nodes) c.deref.ensures ∙ kept.1
    ∙ sym (cover_of-half_land depth s h w kept.0) ∙ ap (cover_of depth) land

pub returns-in-Half-clause-set : goal.returns-in-Half-clause-set
returns-in-Half-clause-set c =
    subst (λ (ns : List Node). IsCover depth c.args.self.now ns) (sym (returns-in-Half-clause-cover c))
    (cover_is_cover depth c.args.self.now)

pub returns-in-Half-clause-sized : goal.returns-in-Half-clause-sized
returns-in-Half-clause-sized c =
    let s = (arc_value c.in-Half.half).section in
    let h = (arc_value c.in-Half.half).which in
    let w = (arc_value c.in-Half.half).within in
    let land : half_land depth s h w ≡ c.args.self.now = ap kept_land (sym c.in-Half.is) ∙ c.self.view_is in
    subst (λ (x : Land). IsLand depth x) land (is_land-half_land depth s h w)

pub returns-in-Shape-clause-set : goal.returns-in-Shape-clause-set
returns-in-Shape-clause-set c =
    let land = ap kept_land (sym c.in-Shape.is) ∙ c.self.view_is in
    let kept = subst (λ (x : Extent). IsExtent x) c.in-Shape.is c.self.invariant in
    let e : c.as_slice-in-Shape.result.now ≡ cover_of depth c.args.self.now =
    c.as_slice-in-Shape.ensures.value ∙ ap (λ (s : Shape). s.cover.items) c.deref-in-Shape.ensures ∙ kept.0 ∙ ap (cover_of depth) land in
    subst (λ (ns : List Node). IsCover depth c.args.self.now ns) (sym e) (cover_is_cover depth c.args.self.now)
