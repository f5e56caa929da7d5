-- What the code has, as definitions speak of it.
use Rattle.std.specs.{Prelude.{◌≡◌, ◌⊎◌, ℕ, map, reverse, Option, None, option_map}, String.{string_bytes}}
use Rattle.title_standing.specs.Records.{record_of}
use Rattle.title_daybook.specs.{declared.{book.Book.{Book}, fault.PlantFault.{PlantFault}}, KeptRows.{Progress}, Standing.{Standing}}
use Rattle.title_daybook.specs.declared.fault.PlantFault.TheVariants as fault
use Rattle.title_daybook.specs.declared.standing.Standing as declared

-- what stands; deeds have the oldest first
abbrev pub standing_of : declared.Standing → Standing
standing_of s = record {
  townships = s.townships.items;
  names = map string_bytes s.parties.keys;
  records = reverse (map record_of s.deeds.items);
}

-- where a reader is between two rows
abbrev pub progress_of : Book → Progress
progress_of b = record { stands = standing_of b.stands; begun = option_map record_of b.begun }

-- memory ran out, or the n-th row is at fault, since nothing comes of it
abbrev pub IsFaultAt : ℕ → Option Progress → PlantFault → Type 0
IsFaultAt n after e = (e ≡ fault.Memory) ⊎ ((e ≡ fault.Row n) × (after ≡ None))
