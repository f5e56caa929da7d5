-- What is kept is the set with its cover.
use Rattle.std.proofs.Common.{◌≡◌, sym, subst, ◌∙◌}
use Rattle.title_land.specs.{Depth.{depth}, declared.tract.Shape.{Shape}, Lands.{cover_of, IsLand}, Laws.NodeLands.{cover_of-part}}
use Rattle.title_land.specs.declared.tract.Land.TheVariants as land
use Rattle.title_land.proofs.tract.Tract.new.Goals as goal

pub invariant_of-result : goal.invariant_of-result
invariant_of-result c =
    let s = c.in-Part.section in
    let kept = subst (λ (x : Shape). (x.cover.items ≡ cover_of depth (land.Part s x.cells)) × IsLand depth (land.Part s x.cells))
    (sym c.in_ok-shape.ensures.ok)
    (c.in_ok-cover.ensures.cover ∙ cover_of-part depth s c.in-Part.cells, c.cover_of.ensures.sized) in
    kept
