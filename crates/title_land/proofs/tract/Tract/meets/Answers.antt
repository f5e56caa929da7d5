-- The cells that tracts share.
use Rattle.std.proofs.Common.{refl, sym, ap, subst, ◌∙◌}
use Rattle.title_land.specs.{Depth.{depth}, declared.tract.{Land.{Land}, Extent.{Extent}}, Extents.{kept_land, IsExtent}}
use Rattle.title_land.specs.{Lands.{land_of, meets, IsLand}, Laws.NodeLands.{meets-land_of, is_land-land_of}}
use Rattle.title_land.specs.Laws.TractSharing.{result_at_a_cell}
use Rattle.title_land.proofs.tract.Tract.meets.Goals as goal

pub returns-in-Node-Node-clause-meets : goal.returns-in-Node-Node-clause-meets
returns-in-Node-Node-clause-meets c =
    let a = ap kept_land (sym c.in-Node-Node.is-0) ∙ c.self.view_is in
    let b = ap kept_land (sym c.in-Node-Node.is-1) ∙ c.other.view_is in
    let in_a = subst (λ (x : Extent). IsExtent x) c.in-Node-Node.is-0 c.self.invariant in
    let in_b = subst (λ (x : Extent). IsExtent x) c.in-Node-Node.is-1 c.other.invariant in
    c.meets.ensures.meets ∙ sym (meets-land_of depth c.in-Node-Node.a c.in-Node-Node.b in_a in_b)
    ∙ ap (λ (x : Land). meets x (land_of depth c.in-Node-Node.b)) a ∙ ap (λ (x : Land). meets c.args.self.now x) b

pub returns-in-Node-Node-clause-shares : goal.returns-in-Node-Node-clause-shares
returns-in-Node-Node-clause-shares c =
    let a = ap kept_land (sym c.in-Node-Node.is-0) ∙ c.self.view_is in
    let b = ap kept_land (sym c.in-Node-Node.is-1) ∙ c.other.view_is in
    let sized_a = subst (λ (x : Land). IsLand depth x) a (is_land-land_of depth c.in-Node-Node.a) in
    let sized_b = subst (λ (x : Land). IsLand depth x) b (is_land-land_of depth c.in-Node-Node.b) in
    result_at_a_cell depth c.args.self.now c.args.other.now c.args.self.now c.args.other.now c.meets.result refl refl sized_a sized_b
    (returns-in-Node-Node-clause-meets c)

pub returns-in_default-clause-shares : goal.returns-in_default-clause-shares
returns-in_default-clause-shares c =
    result_at_a_cell depth c.args.self.now c.args.other.now c.args.self.now c.args.other.now c.shares_with.result refl refl
    c.shares_with.ensures.sized c.shares_with.ensures.other_sized c.shares_with.ensures.meets
