-- What the disk may have of a plant's file that is read otherwise, since the call that was under way failed.
use Rattle.std.specs.{Prelude.{◌≡◌, ◌≤◌, ℕ, true, List, [], ◌∷◌, ◌++◌, length, take, drop, Option, Some, None}, List.{AllByRecursion}}
use Rattle.title_journal.specs.{Blocks.{line_feed, open_gate, closed_gate, IsBlock}, Rest.{IsTail}}
use Rattle.title_file.specs.{Calls.{written, after}, Fronts.{front_of}, declared.gates.Gates.{Gates}}

-- What was under way, with what is read behind the blocks and what the disk has there.
pub data UnderWay : Type 0 where
  -- a block was put behind the closed gate: these bytes are read there, and these are kept
  Putting : List ℕ → List ℕ → UnderWay
  -- the gate of this block, which is on the disk, was opened: as it is read, and as it is kept
  Opening : List ℕ → ℕ → ℕ → UnderWay
  -- a tail was cut off, of which this is kept
  Cutting : List ℕ → UnderWay
  -- a closed gate was put where a tail was cut off: as it is read, and what is kept
  Closing : ℕ → List ℕ → UnderWay

-- a block behind this gate, at rest
abbrev pub behind_gate : List ℕ → ℕ → List ℕ
behind_gate block gate = gate ∷ line_feed ∷ (block ++ closed_gate ∷ [])

abbrev pub read_of : UnderWay → List ℕ
read_of (Putting read kept) = closed_gate ∷ read
read_of (Opening block read kept) = behind_gate block read
read_of (Cutting kept) = []
read_of (Closing read kept) = read ∷ []

abbrev pub kept_of : UnderWay → List ℕ
kept_of (Putting read kept) = closed_gate ∷ kept
kept_of (Opening block read kept) = behind_gate block kept
kept_of (Cutting kept) = kept
kept_of (Closing read kept) = kept

-- a file doesn't grow on the disk before it does where it is read, and what was cut off didn't count
abbrev pub CanBe : UnderWay → Type 0
CanBe (Putting read kept) = length kept ≤ length read
CanBe (Opening block read kept) = IsBlock block
CanBe (Cutting kept) = IsTail kept
CanBe (Closing read kept) = length kept ≤ 1

-- what a crash may leave behind the blocks while this is written again: of a byte that is the same on the disk that byte, else any
abbrev pub MayBecome : UnderWay → List ℕ → Type 0
MayBecome (Putting read kept) bytes = (any : List ℕ) × (bytes ≡ closed_gate ∷ any)
MayBecome (Opening block read kept) bytes = (gate : ℕ) × (bytes ≡ behind_gate block gate)
MayBecome (Cutting kept) bytes = (len : ℕ) × (bytes ≡ take len kept)
MayBecome (Closing read kept) bytes = length bytes ≤ 1

-- a file that is read so, and that the disk has so
pub record IsInDoubt (head : List ℕ) (under_way : UnderWay) (seen disk : List ℕ) : Type 0 where
  pub blocks : List (List ℕ)
  pub whole : AllByRecursion IsBlock blocks
  pub can_be : CanBe under_way
  pub seen_is : seen ≡ front_of head blocks ++ read_of under_way
  pub disk_is : disk ≡ front_of head blocks ++ kept_of under_way

-- the blocks that stand where a gate that was under way counts
abbrev pub with_opened : UnderWay → List (List ℕ) → List (List ℕ)
with_opened (Putting read kept) blocks = blocks
with_opened (Opening block read kept) blocks = blocks ++ block ∷ []
with_opened (Cutting kept) blocks = blocks
with_opened (Closing read kept) blocks = blocks

-- ---- written again

abbrev pub with_gate : Option ℕ → List ℕ → List ℕ
with_gate None content = content
with_gate (Some offset) content = after (written offset (open_gate ∷ []) true) content

abbrev pub with_tail : ℕ → List ℕ → List ℕ → List ℕ
with_tail end [] content = take end content
with_tail end (byte ∷ bytes) content = after (written end (byte ∷ bytes) true) content

-- a content once the last open gate, and what is read behind the blocks, or else the length, were written to it
abbrev pub written_again : List ℕ → Gates → List ℕ → List ℕ
written_again seen gates content = with_tail gates.end (drop gates.end seen) (with_gate gates.opened content)
