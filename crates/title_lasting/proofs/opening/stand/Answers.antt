-- What stands can be served: a desk may be opened with its townships, and none of its records has too many steps.
use Rattle.std.proofs.Common.{List, map, reverse, subst, sym}
use Rattle.title_chain.specs.Alone.{most_parties}
use Rattle.title_trace.specs.Due.{MayOpen}
use Rattle.title_plan.specs.Laws.Declarations.{may_open}
use Rattle.title_standing.specs.{Records.{record_of}, declared.deeds.Deeds.{Deeds}}
use Rattle.title_daybook.specs.Books.{standing_of}
use Rattle.title_lasting.{specs.Replays.{AreShort}, proofs.FileOpened.{standing_short}}
use Rattle.title_lasting.proofs.opening.stand.Goals as goal

pub replay_deeds-requires-clause-opens : goal.replay_deeds-requires-clause-opens
replay_deeds-requires-clause-opens c =
    let stands = c.args.found.now.stands in
    subst (MayOpen most_parties) (sym c.deref.ensures.value) (may_open stands.townships.items stands.few_townships stands.once)

pub replay_deeds-requires-clause-short : goal.replay_deeds-requires-clause-short
replay_deeds-requires-clause-short c =
    let stands = c.args.found.now.stands in
    subst (λ (deeds : List Deeds). AreShort (reverse (map record_of deeds))) (sym c.deref-2.ensures.value)
    (standing_short c.lands_have_cells.ensures.law c.requires.found.0 (standing_of stands) c.requires.found.1.stands)
