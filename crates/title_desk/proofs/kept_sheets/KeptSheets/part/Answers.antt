-- What stands at the tract's home are parts of the plant's sheets.
use Rattle.std.proofs.{Common.{Option, subst, sym}, lemmas.List.Elements.{All-same, All-weaker}}
use Rattle.title_desk.specs.declared.kept_sheets.{Home.{Home}, Kept.TheVariants.{Quarter}}
use Rattle.title_desk.specs.Shown.{IsQuarter, IsKept, AllKept, all_kept, kept_in}
use Rattle.title_desk.proofs.kept_sheets.KeptSheets.part.Goals as goal

pub returns : goal.returns
unfolding all_kept
returns c =
    let k = c.number.result in
    record {
      part = λ ts p are. c.part_of.ensures.part ts p (All-same (IsQuarter ts p) c.deref.result.now _ c.deref.ensures.value
          (All-weaker (λ x. IsKept ts p k (Quarter x)) (IsQuarter ts p) (λ x h. h.0) _
          (subst (λ (o : Option Home). AllKept ts p k (kept_in o)) (sym c.in_ok-home.ensures.value) (are.each k)).1));
    }
