-- The examiner's transaction is the one that is taken out.
use Rattle.std.proofs.Common.{ap, sym, ◌∙◌}
use Rattle.title_desk.{specs.Opened.{held}, proofs.Found.{set_at}}
use Rattle.title_desk.proofs.open_transactions.OpenTransactions.take.Goals as goal

pub returns : goal.returns
returns g c = rw (← c.self.view_is) record {
  taken = ap held (sym c.in-Some.is ∙ c.remove.ensures.value);
  left = set_at c.args.examiner _ c.self.inside.by_examiner c.remove.new.self c.remove.ensures.updates.0;
}
