-- Entries, who is in whose way by cells, and what is left when an examiner gives its locks back.
use Rattle.std.specs.Prelude.{ℕ, ◌≡◌, ◌≢◌, ◌<◌, Bool, true, false, ◌&&◌, ◌||◌, ◌==◌, nat_lt, if◌then◌else◌, List, [], ◌∷◌, Option}
use Rattle.std.specs.Prelude.{Some, None, filter, not}
use Rattle.title_land.specs.{declared.tract.Land.{Land}, Lands.{meets}}
use Rattle.title_lock.specs.declared.guards.{Access.{Access, TheVariants.{Read, Post}}, Entry.{Entry}, LockFault.{LockFault}}
use Rattle.title_lock.specs.declared.guards.LockFault.TheVariants.{Conflict, Memory}

abbrev pub is_post : Access → Bool
is_post Read = false
is_post Post = true

-- two accesses overlap: their tracts share a cell and one of them is a post
abbrev pub overlap : Land → Bool → Land → Bool → Bool
overlap land post other posted = (post || posted) && meets land other

-- an entry of examiner f overlaps this access
abbrev pub against : Land → Bool → ℕ → List Entry → Bool
against land post f [] = false
against land post f (x ∷ older) = (f == x.examiner && overlap land post x.tract (is_post x.access)) || against land post f older

-- the least number other than e that passes a test, if there is one
abbrev pub IsLeast : (ℕ → Bool) → ℕ → Option ℕ → Type 0
IsLeast test e None = (f : ℕ) → f ≢ e → test f ≡ false
IsLeast test e (Some f) = (f ≢ e) × (test f ≡ true) × ((g : ℕ) → g < f → g ≢ e → test g ≡ false)

-- the lesser of two examiners, where there may be none
abbrev pub least : Option ℕ → Option ℕ → Option ℕ
least None b = b
least (Some x) None = Some x
least (Some x) (Some y) = if nat_lt x y then Some x else Some y

-- the least other examiner in the way of an access of examiner e, if there is one
abbrev pub Stands : List Entry → ℕ → Land → Bool → Option ℕ → Type 0
Stands entries e land post = IsLeast (λ f. against land post f entries) e

-- a request is refused by the least examiner in its way, or for memory where nobody is
abbrev pub RefusedBy : List Entry → ℕ → Land → Bool → LockFault → Type 0
RefusedBy entries e land post (Conflict f) = Stands entries e land post (Some f)
RefusedBy entries e land post Memory = Stands entries e land post None

-- the entries of all examiners but e
abbrev pub without : ℕ → List Entry → List Entry
without e entries = filter (λ x. not (x.examiner == e)) entries
