-- The laws are lemmas.
use Rattle.title_land.specs.Depth.{depth}
use Rattle.title_trace.specs.Laws.OneReply.{one_in_the_way, one_due_reply}
use Rattle.title_trace.proofs.laws.one_reply_is_due.Goals as goal

pub returns-clause-way : goal.returns-clause-way
returns-clause-way c = one_in_the_way

pub returns-clause-reply : goal.returns-clause-reply
returns-clause-reply c = one_due_reply depth
