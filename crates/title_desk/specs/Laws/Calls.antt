-- A call whose reply isn't Memory is added, and so are the three of a transaction of one step.
use Rattle.std.proofs.Common.{◌≡◌, ◌≢◌, ℕ, refl}
use Rattle.title_chain.specs.declared.ask.Ask.{Ask}
use Rattle.title_trace.specs.declared.call.{Request.{Request}, Reply.{Reply}}
use Rattle.title_trace.specs.declared.call.Reply.TheVariants as reply
use Rattle.title_desk.specs.{Told.{Books, Added, Told}, Singles.{AddedSingle, ToldSingle}}

pub added : (old new : Books) (q : Request) (r : Reply) → r ≢ reply.Memory → Told old q r new → Added old q r new
added old new q reply.Memory other told = absurd (other refl)
added old new q _ other told = told

pub added_single : (old new : Books) (e : ℕ) (a : Ask) (r : Reply) → r ≢ reply.Memory → ToldSingle old e a r new → AddedSingle old e a r new
added_single old new e a reply.Memory other told = absurd (other refl)
added_single old new e a _ other told = told
