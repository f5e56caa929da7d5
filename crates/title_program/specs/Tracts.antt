-- What `tract` prints.
use Rattle.std.specs.{Prelude.{ℕ, List, ◌++◌, Option, None, Some, Result, Ok, Err, codes}, List.{flat_map}}
use Rattle.title_land.specs.{declared.{node.Node.{Node}, tract.Land.{Land}}, Acres.{acres_text, half_acres_of}, Lands.{cover_of}}
use Rattle.title_land.specs.Texts.{node_text}
use Rattle.title_aliquot.specs.declared.fault.DescFault.{DescFault}
use Rattle.title_program.specs.{declared.status.Status.{Status, TheVariants.{Success, Failure}}, Faults.{fault_line, of_description}}

-- the line of a node
abbrev pub node_line : Node → List ℕ
node_line n = codes "node," ++ node_text n ++ codes "\n"

-- the line of the acres
abbrev pub acres_line : Option ℕ → List ℕ
acres_line None = codes "acres,unknown\n"
acres_line (Some half_acres) = codes "acres," ++ acres_text half_acres ++ codes "\n"

-- what is printed for a text that is read so: the nodes of the land's cover in order, and its acres; or its fault
abbrev pub tract_text : ℕ → Result Land DescFault → List ℕ
tract_text depth (Ok land) = flat_map node_line (cover_of depth land) ++ acres_line (half_acres_of depth land)
tract_text depth (Err fault) = fault_line (of_description fault)

-- a text that describes no land is a failure
abbrev pub tract_status : Result Land DescFault → Status
tract_status (Ok land) = Success
tract_status (Err fault) = Failure
