-- What was shown is what the reader has seen.
use Rattle.std.{proofs.Common.{◌≡◌, List, [], take, ap, sym, ◌∙◌, subst}, specs.Prelude.{unwrap_or, option_map}}
use mathlib.Core.List.{IsPrefix}
use Rattle.left_right.specs.Sides.{view}
use Rattle.title_chain.specs.declared.record.Record.{Record}
use Rattle.title_ledger.specs.Ledgers.{sure_of}
use Rattle.title_views.{specs.Views.{Sight}, proofs.Sights.{sight, whole_sight, seen_first}}
use Rattle.title_views.proofs.viewer.Watcher.record_of.Goals as goal

pub returns-in-Ok : goal.returns-in-Ok
returns-in-Ok g c =
    let s = c.self.view_is in
    let known = view c.look_up-reader.result.0.place in
    let shown = rw c.in-Ok.is at c.look_up-reader.ensures.shown in
    let was : unwrap_or (option_map (λ r. view r.place) c.self.inside.reader) [] ≡ view c.in-Some.reader.place =
    ap (λ o. unwrap_or (option_map (λ r. view r.place) o) []) (sym c.take.ensures.value ∙ c.in-Some.is) in
    let seen : take c.self.inside.count (view c.in-Some.reader.place) ≡ c.args.self.now.seen =
    ap (λ (l : List Record). take c.self.inside.count l) (sym was) ∙ ap (λ (x : Sight). x.seen) s in
    record {
      shown = (
        known,
        (
          shown.0,
          subst (λ w. IsPrefix w known) seen
              (seen_first c.self.inside.count (view c.in-Some.reader.place) known c.look_up-reader.ensures.later),
          subst (λ w. IsPrefix w known) (ap (λ (x : Sight). x.told) s) shown.1,
        ),
        shown.3,
        whole_sight c.self.inside.number c.in-Ok.count known (sure_of c.self.inside.told) shown.2
            ∙ (λ i. sight (s i).number known (s i).told),
      );
    }
