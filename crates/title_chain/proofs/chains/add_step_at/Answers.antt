-- An index past the steps gives no entry, and else it gives that of its step.
use Rattle.std.proofs.{Common.{length, refl}, lemmas.{List.{append-nil}, Option.{slice_get_past, slice_get_read}}}
use Rattle.title_chain.proofs.chains.add_step_at.Goals as goal

pub returns-in_default : goal.returns-in_default
returns-in_default c = record { added = rw (slice_get_past c.args.steps.now c.args.index c.in_default.ensures.lookup.3, append-nil) refl }

pub returns : goal.returns
returns c =
    let found = c.in-Some.ensures.lookup in
    let steps = c.args.steps.now in
    let is = slice_get_read steps (length steps) c.args.index c.in-Some.step.now refl found.3.0 found.1 in
    record { added = rw is c.add_posted.ensures.added }
