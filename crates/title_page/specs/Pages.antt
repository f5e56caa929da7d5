-- What is written through a page: the bytes that the sink has taken, before and after, and those that stand on the page.
use Rattle.std.specs.{Prelude.{◌≡◌, ◌++◌, ℕ, List, Option}, Io.KnownBytes.{Appends}}

-- a text was written behind what stood on the page: of both, the sink took a beginning, and the page has the rest
pub record Written (taken : Option (List ℕ)) (page : List ℕ) (taken_after : Option (List ℕ)) (page_after text : List ℕ) : Type 0 where
  pub parts : (given : List ℕ) × Appends taken taken_after given × (page ++ text ≡ given ++ page_after)

-- the sink failed while a text was written behind what stood on the page: of both, it took a beginning
pub record Stopped (taken : Option (List ℕ)) (page : List ℕ) (taken_after : Option (List ℕ)) (text : List ℕ) : Type 0 where
  pub parts : (given rest : List ℕ) × Appends taken taken_after given × (page ++ text ≡ given ++ rest)
