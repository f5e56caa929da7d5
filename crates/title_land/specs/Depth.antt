-- How deep the grid of a section's cells is.
use Rattle.std.specs.Prelude.{ℕ}

-- how often a section is quartered down to its cells
unfoldable pub depth : ℕ
depth = 4
