-- What a tract keeps: one node, a half of a square with the two squares that it is, or a set of a section's cells beside its cover.
use Rattle.std.specs.{Prelude.{◌≡◌, ◌<◌, length}, Arc.{arc_value}}
use Rattle.title_land.specs.{Depth.{depth}, declared.tract.{Extent.{Extent}, Land.{Land}}, Nodes.{IsNode}}
use Rattle.title_land.specs.Lands.{land_of, half_land, half_nodes, cover_of, IsLand}
use Rattle.title_land.specs.declared.tract.Extent.TheVariants as extent
use Rattle.title_land.specs.declared.tract.Land.TheVariants as land

-- the land that is kept
abbrev pub kept_land : Extent → Land
kept_land (extent.Node n) = land_of depth n
kept_land (extent.Half half) = half_land depth (arc_value half).section (arc_value half).which (arc_value half).within
kept_land (extent.Shape s shape) = land.Part s (arc_value shape).cells

-- a node is one of the tree; a half is one of a square with quarters; a cover beside a set is the set's
abbrev pub IsExtent : Extent → Type 0
IsExtent (extent.Node n) = IsNode depth n
IsExtent (extent.Half half) =
    (length (arc_value half).within < depth)
    × ((arc_value half).nodes ≡ half_nodes (arc_value half).section (arc_value half).which (arc_value half).within)
IsExtent (extent.Shape s shape) =
    ((arc_value shape).cover.items ≡ cover_of depth (land.Part s (arc_value shape).cells))
    × IsLand depth (land.Part s (arc_value shape).cells)
