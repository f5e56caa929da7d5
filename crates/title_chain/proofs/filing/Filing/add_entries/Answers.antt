-- The spots found near the nodes of the tract's cover are those of the posts that share a cell with it.
use Rattle.std.proofs.Common.{◌++◌, List, ap, ◌∙◌}
use Rattle.title_chain.{specs.declared.ask.Entry.{Entry}, proofs.SpotEntries.{spot_entries}}
use Rattle.title_chain.proofs.filing.Filing.add_entries.Goals as goal

pub returns : goal.returns
returns c = record {
  added = (rw c.deref.ensures.value at c.in_ok-add_entries_at.ensures.added)
      ∙ ap (λ (es : List Entry). c.args.entries.now.items ++ es) (spot_entries c.args.self.now c.args.tract.now c.cover.result.now
      c.in_ok-found.found.items c.cover.ensures.cover c.cover.ensures.sized c.in_ok-found.ensures.ordered c.in_ok-found.ensures.found
      c.args.records.now c.requires.filed);
}
