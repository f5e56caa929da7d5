-- The headline as a law over all due traces.
use Rattle.std.specs.Prelude.{◌≡◌, ℕ, ◌≤◌, false, List, [], ◌∷◌}
use Rattle.title_chain.specs.{Alone.{IsSerial, most_parties}, Overlaps.{record_of}}
use Rattle.title_trace.specs.{declared.call.Call.{Call}, Trace.{is_open, committed, open_steps}, Due.{Setting, IsDue}}

-- in every due trace the committed transactions are serial: run alone, in the order of their commits, they get their answers
abbrev pub CommittedAreSerial : ℕ → Type 0
CommittedAreSerial depth = (setting : Setting) → setting.parties ≤ most_parties → (trace : List Call) → IsDue depth setting trace →
    IsSerial depth setting.townships (committed trace)

-- and they stay so with the open steps of any one examiner as a last record
abbrev pub OpenMayBeLast : ℕ → Type 0
OpenMayBeLast depth = (setting : Setting) → setting.parties ≤ most_parties → (trace : List Call) (e : ℕ) → IsDue depth setting trace →
    IsSerial depth setting.townships (record_of e (open_steps trace e) ∷ committed trace)

-- in a due trace an examiner that isn't open has no open steps
abbrev pub IdleHaveNoSteps : ℕ → Type 0
IdleHaveNoSteps depth = (setting : Setting) (trace : List Call) (e : ℕ) → IsDue depth setting trace →
    is_open e trace ≡ false → open_steps trace e ≡ []
