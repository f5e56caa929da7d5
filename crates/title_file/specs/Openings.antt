-- What an opening does to a file before it is open: the calls, the newest first.
use Rattle.std.specs.Prelude.{◌≡◌, ℕ, Bool, true, List, [], ◌∷◌, drop, Option, Some, None, IfSome, IfNone, IsErr, if◌then◌else◌}
use Rattle.std.specs.Str.{bytes_eq}
use Rattle.title_journal.specs.Blocks.{open_gate, closed_gate}
use Rattle.title_file.specs.{Calls.{Call, opened, kept, written, cut, synced}, Fronts.{AreGates, blocks_behind}}
use Rattle.title_file.specs.declared.gates.Gates.{Gates}

-- what lies behind the blocks and will be cut off: all of it, but a closed gate alone
abbrev pub loose_of : List ℕ → List ℕ
loose_of tail = if bytes_eq tail (closed_gate ∷ []) then [] else tail

-- after these calls, bytes are kept beside, or that has failed
abbrev pub kept_calls : List ℕ → Bool → List Call → List Call
kept_calls [] is_kept earlier = earlier
kept_calls (byte ∷ bytes) is_kept earlier = kept (byte ∷ bytes) is_kept ∷ earlier

-- the last open gate is written again
abbrev pub gate_calls : Option ℕ → List Call → List Call
gate_calls None earlier = earlier
gate_calls (Some offset) earlier = written offset (open_gate ∷ []) true ∷ earlier

-- what lies behind the blocks is written again, or else the length
abbrev pub tail_calls : ℕ → List ℕ → List Call → List Call
tail_calls end [] earlier = cut end true ∷ earlier
tail_calls end (byte ∷ bytes) earlier = written end (byte ∷ bytes) true ∷ earlier

abbrev pub again_calls : Gates → List ℕ → List Call → List Call
again_calls gates file earlier = tail_calls gates.end (drop gates.end file) (gate_calls gates.opened earlier)

-- what will be cut off is kept before anything is written again; what is no plant isn't written to
abbrev pub secure_calls : Option Gates → List ℕ → Bool → List Call
secure_calls None file is_kept = []
secure_calls (Some gates) file is_kept = again_calls gates file (kept_calls (loose_of (drop gates.end file)) is_kept [])

-- a file with this first row was brought by these calls to where a sync brings it onto the disk as it was read
pub record IsSecured (head file : List ℕ) (is_kept : Bool) (calls : List Call) : Type 0 where
  pub gates : Option Gates
  pub found : IfSome gates (AreGates head file)
  pub none : IfNone gates (IsErr (blocks_behind head file))
  pub calls_are : calls ≡ secure_calls gates file is_kept

-- the file of this name, with this first row, was opened by these calls
pub record IsOpening (path head : List ℕ) (is_kept : Bool) (calls : List Call) : Type 0 where
  pub file : List ℕ
  pub before : List Call
  pub secured : IsSecured head file is_kept before
  pub calls_are : calls ≡ opened path file ∷ synced true ∷ before
