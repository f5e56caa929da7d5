-- The limits of a script; those of its parties and townships are a desk's.
use Rattle.std.specs.Prelude.{ℕ}

-- the most rows
abbrev pub most_rows : ℕ
most_rows = 100000

-- the most bytes of a party's name
abbrev pub longest_name : ℕ
longest_name = 60

-- the greatest number of an examiner
abbrev pub last_examiner : ℕ
last_examiner = 9999

-- the greatest number of a document
abbrev pub last_document : ℕ
last_document = 999999999999
