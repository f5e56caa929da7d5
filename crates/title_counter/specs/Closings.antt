-- How a desk's trace ends.
use Rattle.std.specs.Prelude.{ℕ, List, [], ◌∷◌}
use Rattle.title_trace.specs.{declared.call.Call.{Call}, Due.{Setting}}
use Rattle.title_trace.specs.declared.call.Request.TheVariants as request
use Rattle.title_script.specs.Served.{after_call}

-- a trace after the transactions of these examiners are aborted, one after another
abbrev pub with_aborts : Setting → List Call → List ℕ → List Call
with_aborts setting trace [] = trace
with_aborts setting trace (e ∷ es) = with_aborts setting (after_call setting trace (request.Abort e)) es
