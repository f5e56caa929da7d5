-- How long a script may be.
use Rattle.std.specs.Prelude.{ℕ}

-- the most bytes of a script
abbrev pub most_bytes : ℕ
most_bytes = 16777216
