-- Two lands meet exactly where their covers do.
use Rattle.std.proofs.Common.{ℕ}
use Rattle.title_land.specs.{Lands.{meets}, CoverSets.{covers_meet, MeetsByCovers}, Laws.TractSharing.{meets_at_a_cell}}
use Rattle.title_land.specs.Laws.LandSharing.{equal_tests, lands_share}

pub meets_by_covers : (d : ℕ) → MeetsByCovers d
meets_by_covers d a b h k =
    let cells = meets_at_a_cell d a b h k in
    let covers = lands_share d a b in
    equal_tests (meets a b) (covers_meet d a b) (λ m. covers.0 (cells.0 m)) (λ m. cells.1 (covers.1 m))
