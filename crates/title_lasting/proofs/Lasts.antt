-- How a run on a file that was opened comes out, and what it comes to for the file before its end was repaired.
use Rattle.std.proofs.Common.{◌≡◌, ◌∙◌, ℕ, List, Bool, Option, None, Ok, refl, sym, ap, subst, inl, inr, ⊎_elim, ◌++◌}
use Rattle.std.specs.Io.KnownBytes.{Keeps}
use Rattle.title_land.specs.Depth.{depth}
use Rattle.title_chain.specs.{declared.record.Record.{Record}, Alone.{IsSerial}}
use Rattle.title_trace.specs.Trace.{committed}
use Rattle.title_journal.specs.Blocks.{blocks_in}
use Rattle.title_plan.specs.{declared.{fault.ScriptFault.{ScriptFault}, line.Schedule.{Schedule}}, Onto.{script_onto}}
use Rattle.title_daybook.specs.{Files.{IsPlant, standing_after, standing_in}, Standing.{Standing}}
use Rattle.title_lasting.specs.declared.{serving.Made.{Made}, fault.LastingFault.{LastingFault}}
use Rattle.title_lasting.specs.{Days.{Day, IsBeforeOrAfter, declared_in, evening, stands_after}, Kept.{IsWithOrWithout, text_in, with_text}}
use Rattle.title_lasting.specs.Lastings.{Counts, IsCause, IsExpected, IsServed, IsUnsure, Leaves, Refuses, Stays}
use Rattle.title_lasting.specs.{Made.{IsAtFault, IsMade, IsUnmade}, Openings.{IsResting, StandsAs}}
use Rattle.title_lasting.specs.Laws.Plants.{adds_stand, one_stands}
use Rattle.title_lasting.specs.declared.fault.LastingFault.TheVariants as fault

-- ---- a day that was made of what stood in a file

module _ (sched : Schedule) (file : List ℕ) (left : Option (List ℕ)) (before : Standing) (plant : IsPlant file before) (made : Made)
    (is : IsMade sched before left made) where
  pub is_served : IsServed sched None file left is.day
  is_served = record {
    script = is.script;
    read = is.read;
    is_day = record {
      stood = subst (IsPlant file) (sym is.stood) plant;
      asks = subst (λ (s : Standing). script_onto sched (declared_in s) is.script ≡ Ok is.day.asked) (sym is.stood) is.asks;
      joined = subst (λ (s : Standing). IsSerial depth is.day.asked.townships s.records) (sym is.stood) is.joined;
    };
    expected = tt;
    goes_on = subst (λ (s : Standing). (news : List Record) × (committed (evening is.day) ≡ news ++ s.records)) (sym is.stood) is.goes_on;
    headline = is.headline;
  }

  -- a file in which what stood stands with the block is a plant of what stands after the day
  pub stands_then : (c : List ℕ) → blocks_in c ≡ with_text (text_in made.block) (blocks_in file) → IsPlant c (stands_after is.day)
  stands_then c now = (
    ap standing_after now ∙ adds_stand (text_in made.block) before (stands_after is.day) is.is_new.adds (blocks_in file) plant.0,
    is.serial,
  )

  pub stands_still : (c : List ℕ) → blocks_in c ≡ blocks_in file → IsPlant c is.day.before
  stands_still c now =
      subst (IsPlant c) (sym is.stood) (ap standing_after now ∙ plant.0, plant.1)

  pub at_any_moment : (c : List ℕ) → IsWithOrWithout (text_in made.block) file c → IsBeforeOrAfter is.day c
  at_any_moment c here = ⊎_elim (λ same. inl (stands_still c same)) (λ new. inr (stands_then c new)) here

-- ---- no day is made

module _ (sched : Schedule) (file : List ℕ) (left taken taken_after : Option (List ℕ)) (before : Standing) (plant : IsPlant file before)
    (may_leave : List ℕ → Type 0) (leaves : (List ℕ → Type 0) → Type 0) (stays : Stays file file may_leave leaves)
    (keeps : Keeps taken taken_after) (disk_failed source_failed sink_failed : Bool) where
  pub unmade_leaves : (e : LastingFault) → IsUnmade sched before left source_failed e
      → Leaves sched None file file may_leave leaves left taken taken_after e
  unmade_leaves (fault.NotAPlant row) is = absurd is
  unmade_leaves fault.Disk is = absurd is
  unmade_leaves fault.Unsure is = absurd is
  unmade_leaves (fault.After last) is = absurd is
  unmade_leaves (fault.Row n) is = (stays, keeps)
  unmade_leaves (fault.Order n) is = (stays, keeps)
  unmade_leaves (fault.Party n) is = (stays, keeps)
  unmade_leaves fault.Read is = (stays, keeps)
  unmade_leaves (fault.Joins place) is = (stays, keeps)
  unmade_leaves fault.Memory is = (stays, keeps)
  unmade_leaves fault.Write is = absurd is

  refuses : (e : ScriptFault) → IsAtFault sched (declared_in before) left e → Refuses sched None file left e
  refuses e at = record { stood = before; plant = plant; expected = tt; script = at.script; read = at.read; first_fault = at.first_fault }

  pub unmade_cause : (e : LastingFault) → IsUnmade sched before left source_failed e
      → IsCause sched None file left disk_failed source_failed sink_failed e
  unmade_cause (fault.NotAPlant row) is = absurd is
  unmade_cause fault.Disk is = absurd is
  unmade_cause fault.Unsure is = absurd is
  unmade_cause (fault.After last) is = absurd is
  unmade_cause (fault.Row n) is = refuses _ is
  unmade_cause (fault.Order n) is = refuses _ is
  unmade_cause (fault.Party n) is = refuses _ is
  unmade_cause fault.Read is = is
  unmade_cause (fault.Joins place) is = record {
    stood = before;
    plant = plant;
    expected = tt;
    script = is.is_asked.script;
    read = is.is_asked.read;
    asked = is.asked;
    asks = is.is_asked.asks;
    refused = is.refused;
  }
  unmade_cause fault.Memory is = tt
  unmade_cause fault.Write is = absurd is

-- ---- what it comes to for the file before its end was repaired

module _ (sched : Schedule) (after : Option ℕ) (old mid : List ℕ) (left taken taken_after : Option (List ℕ)) (stood : Standing)
    (plant : IsPlant mid stood) (alike : standing_in mid ≡ standing_in old) (expected : IsExpected after stood)
    (leaves_mid leaves_old : (List ℕ → Type 0) → Type 0)
    (longer : (P : List ℕ → Type 0) → ((c : List ℕ) → StandsAs old c → P c) → leaves_mid P → leaves_old P)
    (weaker : (P Q : List ℕ → Type 0) → ((c : List ℕ) → P c → Q c) → leaves_mid P → leaves_mid Q)
    (rests : IsResting mid) (unrepaired : IsResting old → mid ≡ old) where
  -- what stood in the one stood in the other
  again : leaves_mid (StandsAs mid) → leaves_mid (StandsAs old)
  again h = weaker (StandsAs mid) (StandsAs old) (λ c same. same ∙ alike) h

  moved : (s : Standing) → IsPlant mid s → IsPlant old s
  moved s is = (sym alike ∙ is.0, is.1)

  one_standing : (s : Standing) → IsPlant mid s → stood ≡ s
  one_standing s is = one_stands stood s (standing_in mid) plant.0 is.0

  expected_there : (s : Standing) → IsPlant mid s → IsExpected after s
  expected_there s is = subst (IsExpected after) (one_standing s is) expected

  served_there : (d : Day) → IsServed sched None mid left d → IsServed sched after old left d
  served_there d h = record {
    script = h.script;
    read = h.read;
    is_day = record { stood = moved d.before h.is_day.stood; asks = h.is_day.asks; joined = h.is_day.joined };
    expected = expected_there d.before h.is_day.stood;
    goes_on = h.goes_on;
    headline = h.headline;
  }

  -- what stood before a day stands wherever what stood in the file does
  before_there : (d : Day) → IsPlant mid d.before → (c : List ℕ) → StandsAs old c → IsBeforeOrAfter d c
  before_there d is c same = inl (same ∙ sym alike ∙ is.0, is.1)

  pub counts_there : (file_after : List ℕ) (may_leave : List ℕ → Type 0) (Told : List ℕ → Type 0)
      → Counts sched None mid file_after may_leave leaves_mid left Told → Counts sched after old file_after may_leave leaves_old left Told
  counts_there file_after may_leave Told h = record {
    day = h.day;
    served = served_there h.day h.served;
    stands = h.stands;
    durable = h.durable;
    any_moment = longer (IsBeforeOrAfter h.day) (before_there h.day h.served.is_day.stood) h.any_moment;
    quiet = λ resting same. h.quiet rests same ∙ unrepaired resting;
    report = h.report;
  }

  pub unsure_there : IsUnsure sched None mid leaves_mid left → IsUnsure sched after old leaves_old left
  unsure_there h = record {
    day = h.day;
    served = served_there h.day h.served;
    any_moment = longer (IsBeforeOrAfter h.day) (before_there h.day h.served.is_day.stood) h.any_moment;
  }

  stays_there : (file_after : List ℕ) (may_leave : List ℕ → Type 0) → Stays mid file_after may_leave leaves_mid
      → Stays old file_after may_leave leaves_old
  stays_there file_after may_leave h = record {
    stands = h.stands ∙ alike;
    durable = h.durable;
    any_moment = longer (StandsAs old) (λ c same. same) (again h.any_moment);
  }

  refuses_there : (e : ScriptFault) → Refuses sched None mid left e → Refuses sched after old left e
  refuses_there e h = record {
    stood = h.stood;
    plant = moved h.stood h.plant;
    expected = expected_there h.stood h.plant;
    script = h.script;
    read = h.read;
    first_fault = h.first_fault;
  }

  pub leaves_there : (file_after : List ℕ) (may_leave : List ℕ → Type 0) (e : LastingFault)
      → Leaves sched None mid file_after may_leave leaves_mid left taken taken_after e
      → ((row : ℕ) → e ≡ fault.NotAPlant row → ⊥) → Leaves sched after old file_after may_leave leaves_old left taken taken_after e
  leaves_there file_after may_leave (fault.NotAPlant row) h other = absurd (other row refl)
  leaves_there file_after may_leave fault.Disk h other = (longer (StandsAs old) (λ c same. same) (again h.0), h.1)
  leaves_there file_after may_leave fault.Unsure h other = (unsure_there h.0, h.1)
  leaves_there file_after may_leave (fault.After last) h other = (stays_there file_after may_leave h.0, h.1)
  leaves_there file_after may_leave (fault.Row n) h other = (stays_there file_after may_leave h.0, h.1)
  leaves_there file_after may_leave (fault.Order n) h other = (stays_there file_after may_leave h.0, h.1)
  leaves_there file_after may_leave (fault.Party n) h other = (stays_there file_after may_leave h.0, h.1)
  leaves_there file_after may_leave fault.Read h other = (stays_there file_after may_leave h.0, h.1)
  leaves_there file_after may_leave (fault.Joins place) h other = (stays_there file_after may_leave h.0, h.1)
  leaves_there file_after may_leave fault.Memory h other = (stays_there file_after may_leave h.0, h.1)
  leaves_there file_after may_leave fault.Write h other = counts_there file_after may_leave _ h

  pub cause_there : (disk_failed source_failed sink_failed : Bool) (e : LastingFault)
      → IsCause sched None mid left disk_failed source_failed sink_failed e → ((row : ℕ) → e ≡ fault.NotAPlant row → ⊥)
      → IsCause sched after old left disk_failed source_failed sink_failed e
  cause_there disk_failed source_failed sink_failed (fault.NotAPlant row) h other = absurd (other row refl)
  cause_there disk_failed source_failed sink_failed fault.Disk h other = h
  cause_there disk_failed source_failed sink_failed fault.Unsure h other = h
  cause_there disk_failed source_failed sink_failed (fault.After last) h other = absurd (cc h.asked)
  cause_there disk_failed source_failed sink_failed (fault.Row n) h other = refuses_there _ h
  cause_there disk_failed source_failed sink_failed (fault.Order n) h other = refuses_there _ h
  cause_there disk_failed source_failed sink_failed (fault.Party n) h other = refuses_there _ h
  cause_there disk_failed source_failed sink_failed fault.Read h other = h
  cause_there disk_failed source_failed sink_failed (fault.Joins place) h other = record {
    stood = h.stood;
    plant = moved h.stood h.plant;
    expected = expected_there h.stood h.plant;
    script = h.script;
    read = h.read;
    asked = h.asked;
    asks = h.asks;
    refused = h.refused;
  }
  cause_there disk_failed source_failed sink_failed fault.Memory h other = tt
  cause_there disk_failed source_failed sink_failed fault.Write h other = h
