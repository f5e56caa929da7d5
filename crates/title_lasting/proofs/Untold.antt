-- Nothing was written.
use Rattle.std.{proofs.Common.{refl, ℕ, List, Option, Some, None}, specs.Io.KnownBytes.{Keeps}}

-- what stands as it stood
pub keeps_itself : (known : Option (List ℕ)) → Keeps known known
keeps_itself None = tt
keeps_itself (Some known) = refl
