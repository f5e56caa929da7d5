-- Which cell refuses an instrument.
use Rattle.std.specs.Prelude.{◌≡◌, ℕ, ◌-◌, Bool, true, not, ◌&&◌, List, [], ◌∷◌, length, Option, Some, None}
use Rattle.{std.specs.Option.{option_map, option_or}, title_share.specs.Division.{Division}}
use Rattle.title_land.specs.{Depth.{depth}, declared.survey.{Township.{Township}, Section.{Section}, Cell.{Cell}}}
use Rattle.title_land.specs.declared.rectangle.Quarter.{Quarter}
use Rattle.title_instrument.specs.declared.{parts.{Estate.{Estate, TheVariants.{S, O, M}}, Rule.{Rule}}, instrument.Instrument.{Instrument}}
use Rattle.title_instrument.specs.{declared.owners.Effect.{Effect, TheVariants.{Done, Refused}}, Effect.{holding_effect}}
use Rattle.title_instrument.specs.{Estates.{names}, Parties.{estates_of}}
use Rattle.title_store.specs.Plants.{Failing, first_failing}
use Rattle.title_tree.specs.{CellWays.{cell_way}, Paths.{way}, Changes.{why_of}, Plots.{Plot, Same, Four, value_at, plot_at}, Trees.{plot}}
use Rattle.title_tree_store.specs.declared.refusals.{Search.{Search}, Trees.{Trees}}
use Rattle.title_tree_store.specs.{Spots.{index_of}, Forests.{Each, grounds, plots, owners_at}}

-- why the instrument is refused by a holding of an estate
abbrev pub why_holding : Instrument ℕ → Estate → Division → Option Rule
why_holding i e held = why_of (holding_effect i e held)

-- the rule and the estate by which a cell refuses
abbrev pub why_cell : Effect → Option (Rule × Estate)
why_cell (Done owners) = None
why_cell (Refused rule estate) = Some (rule, estate)

-- the first of some cells that refuses the instrument, each with the owners at its path
abbrev pub first_in : List Township → (Estate → ℕ → ℕ → Plot) → Instrument ℕ → List Cell → Option Failing
first_in ts ps i cells = first_failing i (λ c. owners_at ps (index_of ts c.section.township) (c.section.number - 1)
    (cell_way depth c.row c.column)) cells

-- a failing cell after its rule and estate
abbrev pub triple : Option Failing → Option (Rule × Estate × Cell)
triple None = None
triple (Some f) = Some (f.rule, f.estate, f.cell)

-- the same, of a search
abbrev pub first_for : Search → List Cell → Option (Rule × Estate × Cell)
first_for x cells = triple (first_in x.townships.now (plots x.forest.now) x.instrument.now cells)

-- the first of some cells
abbrev pub first_cell_of : List Cell → Option Cell
first_cell_of [] = None
first_cell_of (c ∷ cells) = Some c

-- the plot of a square in the tree of each estate
abbrev pub stand : Trees → Estate → Plot
stand t S = plot t.s.now
stand t O = plot t.o.now
stand t M = plot t.m.now

-- these stand in a square of a section
abbrev pub StandsAt : Search → Section → List Quarter → Trees → Type 0
StandsAt x s w t = Each (λ e. stand t e ≡ plot_at (way w) (plots x.forest.now e (index_of x.townships.now s.township) (s.number - 1)))

-- each estate has as many townships as there are
abbrev pub AreSized : Search → Type 0
AreSized x = Each (λ e. length (grounds x.forest.now e) ≡ length x.townships.now)

-- an instrument treats all cells alike: they have one division, or it doesn't name the estate
abbrev pub is_settled : Instrument ℕ → Estate → Plot → Bool
is_settled i e (Same held) = true
is_settled i e (Four a b c d) = not (names (estates_of i) e)

-- of each estate
abbrev pub are_settled : Instrument ℕ → Trees → Bool
are_settled i t = is_settled i S (stand t S) && is_settled i O (stand t O) && is_settled i M (stand t M)

-- the first estate's rule, where an estate refuses
abbrev pub why_three : Option Rule → Option Rule → Option Rule → Option (Rule × Estate)
why_three s o m = option_or (option_map (λ r. (r, S)) s) (option_or (option_map (λ r. (r, O)) o) (option_map (λ r. (r, M)) m))

-- why the first cell of a square refuses
abbrev pub why_first : Instrument ℕ → Trees → Option (Rule × Estate)
why_first i t = why_three (why_holding i S (value_at (stand t S) [])) (why_holding i O (value_at (stand t O) []))
    (why_holding i M (value_at (stand t M) []))

-- a rule and an estate with the cell
abbrev pub refused_at : Option (Rule × Estate) → Option Cell → Option (Rule × Estate × Cell)
refused_at None c = None
refused_at (Some why) None = None
refused_at (Some why) (Some c) = Some (why.0, why.1, c)
