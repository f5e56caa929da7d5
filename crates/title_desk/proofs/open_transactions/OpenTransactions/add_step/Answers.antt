-- The transaction that is written through is the examiner's.
use Rattle.std.proofs.Common.{sym}
use Rattle.title_desk.{specs.Opened.{with_step}, proofs.Found.{written}}
use Rattle.title_desk.proofs.open_transactions.OpenTransactions.add_step.Goals as goal

pub returns : goal.returns
returns g c =
    let w = c.add_step.new.self in
    let h = written (with_step c.args.step) c.add_step.result c.args.examiner _ w c.self.inside.by_examiner
    (c.get_mut.follows.lender w) (sym c.in-Some.ensures.value) (c.get_mut.follows.holds w) c.add_step.ensures.added
    c.add_step.ensures.err in
    rw (← c.self.view_is) record { added = h.0; err = h.1 }
