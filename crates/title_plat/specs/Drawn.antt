-- What land is drawn for the parts of a sheet.
use Rattle.std.specs.Prelude.{Bool, false, List, [], ◌∷◌, ◌++◌, Option, None, Some, option_and_then, fold, if◌then◌else◌}
use Rattle.std.specs.{List.{list_all, list_any}, Option.{option_map_or}}
use Rattle.title_land.specs.declared.{node.Node.{Node}, survey.{Section.{Section}, Township.{Township}}}
use Rattle.title_land.specs.Survey.{same_section, same_township}
use Rattle.title_land.specs.declared.node.Node.TheVariants as node
use Rattle.title_plat.specs.declared.{frame.Frame.{Frame}, parts.Part.{Part}}
use Rattle.title_plat.specs.declared.frame.Frame.TheVariants as frame

-- a section, townships, or the whole plant
pub data Drawn : Type 0 where
  one_section : Section → Drawn
  some_townships : List Township → Drawn
  everything : Drawn

-- the section in which a node lies
abbrev pub section_in : Node → Option Section
section_in node.Everything = None
section_in (node.Township t) = None
section_in (node.Part s w) = Some s

-- the township in which a node lies
abbrev pub township_in : Node → Option Township
township_in node.Everything = None
township_in (node.Township t) = Some t
township_in (node.Part s w) = Some s.township

-- the part lies in this section
abbrev pub lies_in : Section → Part → Bool
lies_in s part = option_map_or (same_section s) (section_in part.node) false

-- the one section in which all parts lie
abbrev pub sole_section : List Part → Option Section
sole_section [] = None
sole_section (part ∷ parts) = option_and_then (λ s. if list_all (lies_in s) parts then Some s else None) (section_in part.node)

-- townships, and that in which a node lies where it isn't one of them
abbrev pub with_township : List Township → Node → List Township
with_township townships n =
    option_map_or (λ t. if list_any (same_township t) townships then townships else (townships ++ t ∷ [])) (township_in n) townships

-- the townships in which parts lie, in the order of their first parts
abbrev pub townships_of : List Part → List Township
townships_of parts = fold (λ townships part. with_township townships part.node) [] parts

-- the one section, else the townships, and where there are none the whole plant
abbrev pub land_in : Option Section → List Township → Drawn
land_in (Some s) townships = one_section s
land_in None [] = everything
land_in None (t ∷ townships) = some_townships (t ∷ townships)

-- the land that is drawn for parts
abbrev pub land_drawn : List Part → Drawn
land_drawn parts = land_in (sole_section parts) (townships_of parts)

-- the land of a frame
abbrev pub land_of : Frame → Drawn
land_of (frame.Section s) = one_section s
land_of (frame.Townships townships) = some_townships townships.items
land_of frame.Everything = everything
