-- By its number.
use Rattle.std.{proofs.Common.{◌∙◌, ℕ, ap}, specs.Prelude.{nat_le}}
use Rattle.title_land.specs.{NodeNumbers.{square_step}, Laws.NodeNumbers.{square_at}}
use Rattle.title_land.proofs.numbers.is_square_number.Goals as goal

pub returns : goal.returns
returns c = record { square = λ n is. ap (λ (k : ℕ). nat_le square_step k) is ∙ square_at n }
