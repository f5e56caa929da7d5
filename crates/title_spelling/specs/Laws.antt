-- Laws of what is spelled.
use Rattle.std.specs.Prelude.{◌≡◌, ◌↔◌, ◌==◌, ◌||◌, ◌++◌, ◌∷◌, [], ℕ, nat_le, Bool, true, false, List, map, codes, Some, Ok, Err}
use Rattle.std.specs.List.{All, list_all}
use Rattle.title_instrument.specs.{declared.instrument.Instrument.{Instrument}, Parties.{between, grantee_of, grantor_of}}
use Rattle.title_land.specs.{declared.{grid.Grid.{Grid}, survey.{Section.{Section}, Township.{Township}}, tract.Land.{Land}}, Depth.{depth}}
use Rattle.title_land.specs.{Grids.{has_some, IsGrid}, Lands.{IsLand}, Texts.{township_text}}
use Rattle.title_land.specs.declared.tract.Land.TheVariants as land
use Rattle.title_aliquot.specs.declared.fault.DescFault.{DescFault}
use Rattle.title_chain.specs.declared.ask.Terms.{Terms}
use Rattle.title_plan.specs.declared.row.Act.TheVariants as act
use Rattle.title_plan.specs.declared.row.Row.TheVariants as said
use Rattle.title_plan.specs.{Fields.{is_name}, Lands.{land_in}, Plans.{numbered, rows_in}, Rows.{row_in}}
use Rattle.title_page.specs.Rows.{row, rows_text}
use Rattle.title_spelling.specs.{Cells.{cells_in, spelled_cells}, Lands.{has_a_cell, kept_land_in, spelling}, Rows.{PlantRow}}
use Rattle.title_spelling.specs.Posts.{name_of, post_fields, IsExaminer, IsPost}
use Rattle.title_spelling.specs.Rows.{are_names, begin_fields, commit_fields, fields_of, party_fields, township_fields, End, IsPlantRow}
pub mod SeveralFields

-- a land that has a cell, and whose set is as large as the grid, is spelled as a text that says it
abbrev pub SpellingsReadBack : Type 0
SpellingsReadBack = (l : Land) → IsLand depth l → has_a_cell l ≡ true → kept_land_in (spelling l) ≡ Ok l

-- a text is read in the cells form exactly where it is the cells form of that part of a section, which has a cell
abbrev pub CellsAreRead : Type 0
CellsAreRead = (text : List ℕ) (s : Section) (g : Grid)
    → (cells_in text ≡ Some (land.Part s g)) ↔ (IsGrid depth g × (has_some g ≡ true) × (text ≡ spelled_cells s g))

-- it is read as nothing else
abbrev pub CellsArePartsAlone : Type 0
CellsArePartsAlone = (text : List ℕ) (l : Land) → cells_in text ≡ Some l → (s : Section) × (g : Grid) × (l ≡ land.Part s g)

-- a text in the cells form describes no land: in a script it has a fault
abbrev pub CellsAreNoDescription : Type 0
CellsAreNoDescription = (s : Section) (g : Grid) → (f : DescFault) × (land_in (spelled_cells s g) ≡ Err f)

-- a text that describes a land in a script says the same land in a plant's file
abbrev pub DescriptionsStay : Type 0
DescriptionsStay = (text : List ℕ) (l : Land) → land_in text ≡ Ok l → kept_land_in text ≡ Ok l

-- a land that a text of a plant's file says has a cell, and its set is as large as the grid: so it can be spelled again
abbrev pub LandsHaveCells : Type 0
LandsHaveCells = (text : List ℕ) (l : Land) → kept_land_in text ≡ Ok l → IsLand depth l × (has_a_cell l ≡ true)

-- ---- what rows say

-- an instrument between parties by their names
abbrev pub among : List (List ℕ) → Instrument ℕ → Instrument (List ℕ)
among names instrument = between instrument (name_of names (grantor_of instrument)) (name_of names (grantee_of instrument))

-- the fields of a post are read as what its examiner posts: the document, the instrument and the land
pub record IsReadBack (names : List (List ℕ)) (e : ℕ) (post : Terms) : Type 0 where
  pub said :
      row_in (post_fields names e post) ≡ Some (said.Step e (act.Post post.doc (among names post.instrument) (spelling post.tract)))
  pub numbers : numbered names (among names post.instrument) ≡ Some post.instrument
  pub land : kept_land_in (spelling post.tract) ≡ Ok post.tract

-- among parties whose names are names, each of one party, the fields of a post that may stand in a plant's file are read back
abbrev pub PostsReadBack : Type 0
PostsReadBack = (names : List (List ℕ)) (e : ℕ) (post : Terms) → are_names names ≡ true → IsPost names e post → IsReadBack names e post

-- the fields of declarations, of begins and of commits are read back
pub record MarksReadBack : Type 0 where
  pub township : (t : Township)
      → (row_in (township_fields t) ≡ Some (said.Township (township_text t))) × (land_in (township_text t) ≡ Ok (land.Township t))
  pub party : (name : List ℕ) → is_name name ≡ true → row_in (party_fields name) ≡ Some (said.Party name)
  pub begin : (e : ℕ) → IsExaminer e → row_in (begin_fields e) ≡ Some (said.Step e act.Begin)
  pub commit : (e : ℕ) → IsExaminer e → row_in (commit_fields e) ≡ Some (said.Step e act.Commit)

-- ---- rows as texts

-- the texts of rows are read as their fields, by the reader of scripts
abbrev pub RowsReadBack : Type 0
RowsReadBack = (names : List (List ℕ)) (rows : List PlantRow) → All (IsPlantRow names) rows
    → rows_in (rows_text (map (fields_of names) rows)) ≡ map (fields_of names) rows

-- a byte that is no control
abbrev pub is_shown : ℕ → Bool
is_shown b = nat_le 32 b

-- a byte that stands for a gate of a file, `+` or `-`
abbrev pub is_gate : ℕ → Bool
is_gate b = (b == 43) || (b == 45)

-- a text is one line, which ends with a line feed and has no other control; it begins with no gate
pub record IsLine (text : List ℕ) : Type 0 where
  pub body : List ℕ
  pub whole : text ≡ body ++ 10 ∷ []
  pub shown : list_all is_shown body ≡ true
  pub first : (b : ℕ) (rest : List ℕ) → text ≡ b ∷ rest → is_gate b ≡ false

-- each row is one line
abbrev pub RowsAreLines : Type 0
RowsAreLines = (names : List (List ℕ)) (x : PlantRow) → are_names names ≡ true → IsPlantRow names x → IsLine (row (fields_of names x))

-- only the row of an end begins with `end,`
abbrev pub OnlyEndsEnd : Type 0
OnlyEndsEnd = (names : List (List ℕ)) (x : PlantRow) (rest : List ℕ) → IsPlantRow names x
    → row (fields_of names x) ≡ codes "end," ++ rest → (n : ℕ) × (x ≡ End n)
