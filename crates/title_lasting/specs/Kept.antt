-- What a block makes of a file, where there is one.
use Rattle.std.specs.{Prelude.{◌≡◌, ◌⊎◌, ℕ, List, Option, Some, None, Result, option_map}, Global.{Vec}}
use Rattle.title_journal.specs.{Blocks.{blocks_in}, Rest.{with_block}}

-- the bytes of a block, where there is one
abbrev pub text_in : Option (Vec ℕ) → Option (List ℕ)
text_in block = option_map (λ text. text.items) block

-- what stands with the block, or what stood where there is none
abbrev pub with_text : Option (List ℕ) → Result (List (List ℕ)) ℕ → Result (List (List ℕ)) ℕ
with_text None stood = stood
with_text (Some text) stood = with_block text stood

-- what stood stands, with the block or without it
abbrev pub IsWithOrWithout : Option (List ℕ) → List ℕ → List ℕ → Type 0
IsWithOrWithout block old file = (blocks_in file ≡ blocks_in old) ⊎ (blocks_in file ≡ with_text block (blocks_in old))
