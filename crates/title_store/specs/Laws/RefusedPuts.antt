-- Why a put is refused, from the first failing cell.
use Rattle.std.proofs.Common.{◌≡◌, ℕ, List, Option, Some, sym, ap, ◌∙◌}
use Rattle.title_land.specs.{Depth.{depth}, declared.{survey.{Township.{Township}, Cell.{Cell}}, node.Node.{Node}, tract.Land.{Land}}}
use Rattle.title_land.specs.CellLists.{cells_of}
use Rattle.title_instrument.specs.declared.instrument.Instrument.{Instrument}
use Rattle.title_store.specs.Plants.{Plant, Failing, node_of, first_failing, refusal_of, refused_in}

-- what refuses a post, from its first failing cell
pub refused_by : (i : Instrument ℕ) (p : Plant) (ts : List Township) (land : Land) (o : Option Failing)
    → first_failing i p (cells_of depth ts land) ≡ o → refused_in depth ts i p land ≡ refusal_of depth land o
unfolding refused_in
refused_by i p ts land o e = ap (refusal_of depth land) e

-- why a put is refused, from the first failing cell
pub refused_put : (i : Instrument ℕ) (p : Plant) (ts : List Township) (land : Land) (cells : List Cell) (f : Failing) (n : Node)
    → cells ≡ cells_of depth ts land → first_failing i p cells ≡ Some f
    → n ≡ node_of depth land f.cell → refused_in depth ts i p land ≡ Some (record { rule = f.rule; estate = f.estate; node = n })
refused_put i p ts land cells f n listed failing node =
    refused_by i p ts land (Some f) (ap (first_failing i p) (sym listed) ∙ failing)
    ∙ ap (λ (x : Node). Some (record { rule = f.rule; estate = f.estate; node = x })) (sym node)
