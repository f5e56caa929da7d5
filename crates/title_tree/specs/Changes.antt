-- What a change does to one holding.
use Rattle.std.specs.Prelude.{Option, Some, None, Result, Ok, Err}
use Rattle.title_share.specs.Division.{Division}

-- why there is no new holding
abbrev pub why_of : {R : Type 0} → Result Division R → Option R
why_of (Ok new) = None
why_of (Err why) = Some why

-- the new holding; where there is none, the one before
abbrev pub new_or : {R : Type 0} → Division → Result Division R → Division
new_or held (Ok new) = new
new_or held (Err why) = held

-- the holding after a change; where it is refused, the one before
abbrev pub after : {R : Type 0} → (Division → Result Division R) → Division → Division
after effect held = new_or held (effect held)
