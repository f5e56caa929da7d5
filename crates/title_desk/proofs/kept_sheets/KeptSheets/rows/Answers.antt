-- What stands at the tract's home are sheets of the plant.
use Rattle.std.proofs.{Common.{Option, subst, sym}, lemmas.List.Elements.{All-same, All-weaker}}
use Rattle.title_desk.specs.declared.kept_sheets.{Home.{Home}, Kept.TheVariants.{Sheet}}
use Rattle.title_desk.specs.Shown.{IsShown, IsKept, AllKept, all_kept, kept_in}
use Rattle.title_desk.proofs.kept_sheets.KeptSheets.rows.Goals as goal

pub returns : goal.returns
unfolding all_kept
returns c =
    let k = c.number.result in
    record {
      rows = λ ts p are. c.rows_of.ensures.rows ts p (All-same (IsShown ts p) c.deref.result.now _ c.deref.ensures.value
          (All-weaker (λ x. IsKept ts p k (Sheet x)) (IsShown ts p) (λ x h. h.0) _
          (subst (λ (o : Option Home). AllKept ts p k (kept_in o)) (sym c.in_ok-home.ensures.value) (are.each k)).0));
    }
