-- Entries by the numbers of their coming, and which are whose.
use Rattle.std.specs.Prelude.{ℕ, ◌≡◌, ◌<◌, ◌==◌, nat_lt, Bool, false, if◌then◌else◌, List, [], ◌∷◌, ◌++◌, Option, Some, None, All, length}
use Rattle.std.specs.{Prelude.{vec_len, vec_capacity}, Global.{Vec}, Ordering.{nat_cmp}, BTreeMap.{BTreeMap, get, keys, IsOrdered}}
use Rattle.title_lock.specs.{declared.guards.Entry.{Entry}, Overlaps.{without}}

-- there is no entry
abbrev pub is_nothing : List Entry → Bool
is_nothing es = length es == 0

abbrev pub numbers_in : Option (Vec ℕ) → List ℕ
numbers_in None = []
numbers_in (Some v) = v.items

-- the numbers of examiner e's entries, the oldest first
abbrev pub numbers_of : BTreeMap ℕ (Vec ℕ) → ℕ → List ℕ
numbers_of m e = numbers_in (get nat_cmp m e)

abbrev pub room_for : Option (Vec ℕ) → Bool
room_for None = false
room_for (Some v) = nat_lt (vec_len v) (vec_capacity v)

-- one number of examiner e's more takes no memory
abbrev pub number_room : BTreeMap ℕ (Vec ℕ) → ℕ → Bool
number_room m e = room_for (get nat_cmp m e)

abbrev pub empty_in : Option (Vec ℕ) → Bool
empty_in None = false
empty_in (Some v) = vec_len v == 0

-- examiner e is kept among those with numbers, and has none
abbrev pub is_empty_kept : BTreeMap ℕ (Vec ℕ) → ℕ → Bool
is_empty_kept m e = empty_in (get nat_cmp m e)

-- the numbers under which examiner e's entries stand
abbrev pub own_keys : ℕ → List (ℕ × Entry) → List ℕ
own_keys e [] = []
own_keys e (p ∷ entries) = if (p.1).examiner == e then p.0 ∷ own_keys e entries else own_keys e entries

-- the entries stand under numbers that ascend, all below the next, and each examiner's numbers are those of its entries; no
-- examiner is kept that has none
pub record IsBook (entries : BTreeMap ℕ Entry) (numbers : BTreeMap ℕ (Vec ℕ)) (next : ℕ) : Type 0 where
  pub ascending : IsOrdered nat_cmp entries
  pub below : All (λ k. k < next) (keys entries)
  pub own : (e : ℕ) → numbers_of numbers e ≡ own_keys e entries.entries
  pub kept : (e : ℕ) → is_empty_kept numbers e ≡ false

-- the second list is the first with entry x of examiner e more, before which there is none of that examiner's
abbrev pub IsNewest : ℕ → Entry → List Entry → List Entry → Type 0
IsNewest e x fewer more =
    (newer : List Entry) × (older : List Entry) × (more ≡ newer ++ x ∷ older) × (fewer ≡ newer ++ older) × (without e newer ≡ newer)
