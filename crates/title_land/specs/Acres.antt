-- Nominal acres, counted in half acres: a section has 640 acres (BLM, Manual of Surveying Instructions, 2009).
use Rattle.std.specs.{Prelude.{ℕ, ◌*◌, ◌/◌, ◌%◌, ◌==◌, List, [], ◌++◌, Option, Some, None, codes, if◌then◌else◌}, Option.{option_map}}
use Rattle.std.specs.Fmt.{decimal}
use Rattle.title_land.specs.{declared.tract.Land.{Land}, Survey.{side}, Grids.{grid_has, cells_counted}}
use Rattle.title_land.specs.declared.tract.Land.TheVariants as land

-- the cells of a section, and the half acres of one of them
abbrev pub cells_in_section : ℕ → ℕ
cells_in_section depth = side depth * side depth

abbrev pub cell_half_acres : ℕ → ℕ
cell_half_acres depth = 1280 / cells_in_section depth

-- the number of a land's cells: a township has 36 sections; how many the whole plant has isn't known
abbrev pub cells_in : ℕ → Land → Option ℕ
cells_in depth land.Everything = None
cells_in depth (land.Township t) = Some (36 * cells_in_section depth)
cells_in depth (land.Part s g) = Some (cells_counted depth (grid_has g))

-- the half acres of a land: those of one cell for each of its cells
abbrev pub half_acres_of : ℕ → Land → Option ℕ
half_acres_of depth l = option_map (λ cells. cells * cell_half_acres depth) (cells_in depth l)

-- half acres as acres, with `.5` where their number is odd
abbrev pub acres_text : ℕ → List ℕ
acres_text half_acres = decimal (half_acres / 2) ++ (if half_acres % 2 == 0 then [] else codes ".5")
