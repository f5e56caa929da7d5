-- Where one examiner is alone, the counts are what it is of those with each mode; else they are what is listed or stands by node.
use Rattle.std.proofs.Common.{◌∙◌, List, Option, ap}
use Rattle.title_land.specs.Depth.{depth}
use Rattle.title_lock.specs.{declared.{guards.Entry.{Entry}, modes.Mode.{Mode}}, Asking.{mode_at}}
use Rattle.title_lock.{specs.{Holders.{own_part, count_in}}, proofs.AloneLaws.{listed_shown, shown_own, count_alone}}
use Rattle.title_lock.proofs.node_locks.NodeLocks.counts_at.Goals as goal

pub returns-in-Alone : goal.returns-in-Alone
returns-in-Alone c =
    let e = c.in-Alone.owner in
    let n = c.args.node.now in
    let i = c.self.inside in
    let same = listed_shown i.layout e i.listed i.spread c.args.self.now c.self.view_is c.in-Alone.is in
    record {
      counts = λ m. count_alone depth e c.args.self.now.entries n m (count_in c.of_one.result m)
          (shown_own i.layout e i.listed i.spread c.args.self.now c.self.view_is c.self.invariant c.in-Alone.is)
          (c.of_one.ensures.one m ∙ ap (λ (o : Option Mode). own_part o m) (c.mode.ensures.mode
          ∙ ap (λ (t : List Entry). mode_at depth t e n) same));
    }

pub returns-in-Listed : goal.returns-in-Listed
returns-in-Listed c = record { counts = rw (← c.self.view_is, c.in-Listed.is, ← c.rows.ensures.rows) c.counted.ensures.counted }

pub returns-in-Spread : goal.returns-in-Spread
returns-in-Spread c = record { counts = rw (← c.self.view_is, c.in-Spread.is) c.counts.ensures.counts }
