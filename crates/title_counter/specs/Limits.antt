-- The limits of a counter.
use Rattle.std.specs.Prelude.{ℕ}

-- the most bytes of a line, less its line feed
abbrev pub longest_line : ℕ
longest_line = 8192

-- the most bytes that are taken: nobody comes so far
abbrev pub most_given : ℕ
most_given = 18446744073709543423
