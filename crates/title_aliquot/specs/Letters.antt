-- The letters of a text: its characters without spaces and periods, in lower case.
use Rattle.std.specs.Prelude.{ℕ, ◌+◌, ◌-◌, Bool, ◌||◌, ◌==◌, List, [], ◌∷◌, ◌++◌, map, filter, if◌then◌else◌, not, Option, Some, None}
use Rattle.std.specs.{Char.{to_ascii_lowercase, len_utf8}, Str.{chars}}
use denote.Ref.{Bor}

-- a space or a period
abbrev pub passed_over : ℕ → Bool
passed_over c = (c == 32) || (c == 46)

-- the other characters, ASCII capitals as small letters
abbrev pub letters : List ℕ → List ℕ
letters cs = map to_ascii_lowercase (filter (λ c. not (passed_over c)) cs)

-- the byte offset of the character that gives letter i, or the text's length where there are no more letters
abbrev pub offset : List ℕ → ℕ → ℕ
offset [] i = 0
offset (c ∷ cs) i =
    if passed_over c then len_utf8 c + offset cs i
    else (if i == 0 then 0 else len_utf8 c + offset cs (i - 1))

-- the next letter, those of the text behind its character and those of one more text; none where nothing is next
abbrev pub letters_from : Option (ℕ × Bor (List ℕ)) → List ℕ → List ℕ
letters_from None more = []
letters_from (Some p) more = p.0 ∷ (letters (chars p.1.now) ++ letters (chars more))
