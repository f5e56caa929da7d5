-- The records stand with the oldest first, and those that stood are the first of them.
use Rattle.std.proofs.{Common.{◌∙◌, ◌≡◌, List, ap, arith, length, reverse, subst, sym}, lemmas.List.{length-reverse, reverse-reverse}}
use Rattle.std.proofs.lemmas.Result.{IfOk-weaker}
use Rattle.title_land.specs.declared.survey.Township.{Township}
use Rattle.title_chain.specs.declared.record.Record.{Record}
use Rattle.title_trace.specs.Trace.{committed}
use Rattle.title_counter.specs.Views.{counter_of}
use Rattle.title_lasting.specs.{Kept.{text_in}, Made.{IsAddedBlock}}
use Rattle.title_kept_desk.proofs.news.clerk_block.Goals as goal

pub added_block-requires-clause-records : goal.added_block-requires-clause-records
added_block-requires-clause-records c =
    omega (
      arith,
      c.requires.records,
      ap length c.records-records.ensures.records,
      length-reverse c.records-records.result.now,
    )

pub returns-clause-block : goal.returns-clause-block
returns-clause-block c =
    let now = counter_of c.args.clerk.now in
    let records : List Record = c.records-records.result.now in
    let turned : records ≡ reverse (committed now.trace) = sym (reverse-reverse records) ∙ ap reverse c.records-records.ensures.records in
    IfOk-weaker c.added_block.result _ _ (λ block is.
    subst (λ (rs : List Record). IsAddedBlock c.args.stood now.townships now.names rs (text_in block)) turned
    (subst (λ (ts : List Township). IsAddedBlock c.args.stood ts now.names records (text_in block)) c.deref.ensures.value is))
    c.added_block.ensures.block
