-- Tracts share a cell exactly where two nodes of their covers are one or lie one above the other.
use Rattle.title_land.specs.{Lands.{cover_of, meets}, Depth.{depth}, Laws.LandSharing.{equal_tests, lands_share}}
use Rattle.title_land.specs.Laws.TractSharing.{meets_at_a_cell}
use Rattle.title_lock.proofs.Overlap.{MeetByCovers, related_any}

pub meet_by_covers : MeetByCovers depth
meet_by_covers a b wide tall =
    let cells = meets_at_a_cell depth a b wide tall in
    let covers = lands_share depth a b in
    equal_tests (meets a b) (related_any (cover_of depth a) (cover_of depth b)) (λ h. covers.0 (cells.0 h)) (λ h. cells.1 (covers.1 h))
