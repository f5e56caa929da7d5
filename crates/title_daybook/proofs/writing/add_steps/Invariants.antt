use Rattle.std.{proofs.Common.{◌≡◌, ◌++◌, map, take}, specs.String.{string_bytes}}
use Rattle.title_daybook.specs.Added.{post_rows, posts_of, text_of}
use Rattle.title_daybook.proofs.writing.add_steps.Given as goal

abbrev pub invariant-loop-step : goal.invariant-loop-step
invariant-loop-step l =
    l.out.items ≡ l.fn.out.items ++ text_of (map string_bytes l.parties.keys) (post_rows l.examiner (posts_of (take l.step-index l.steps)))
