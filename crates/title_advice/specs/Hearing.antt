-- What a source or a sink shows of itself that passes on the bytes of another.
use Rattle.title_advice.specs.declared.{heard.Heard.{Heard}, listened.Listened.{Listened}, spoken.Spoken.{Spoken}}

-- the source whose bytes it gives
abbrev pub heard_source : {R : Type 0} → Heard R → R
heard_source heard = heard.inner

-- the same, where they are heard aside
abbrev pub listened_source : {R : Type 0} → Listened R → R
listened_source listened = listened.inner

-- the sink to which it passes on
abbrev pub spoken_sink : {W E : Type 0} → Spoken W E → W
spoken_sink spoken = spoken.inner
