-- How telling what stands in a file ends.
use Rattle.std.{proofs.Common.{◌≡◌, ℕ, List, Bool, true, Option, Result, Ok, Err, subst, sym}, specs.Io.KnownBytes.{Appends}}
use Rattle.title_daybook.specs.{Files.{IsPlant}, Standing.{Standing}}
use Rattle.title_lasting.specs.{Faults.{of_opening}, Lastings.{Begins}, Opened.{IsUnopened}, Tells.{IsNoScript, Telling, script_text}}
use Rattle.title_lasting.specs.declared.{checking.TellFault.{TellFault}, fault.LastingFault.{LastingFault}}
use Rattle.title_lasting.specs.declared.checking.TellFault.TheVariants as tell
use Rattle.title_lasting.specs.declared.fault.LastingFault.TheVariants as fault
use Rattle.title_lasting.proofs.Untold.{keeps_itself}

module _ {T : Type 0} (file : List ℕ) (text : Standing → List ℕ) (taken : Option (List ℕ)) (disk_failed sink_failed : Bool)
    (r : Result T TellFault) where
  why_unopened : (e : LastingFault) → IsUnopened file disk_failed e
      → Telling {T = T} file text taken taken disk_failed sink_failed (Err (of_opening e))
  why_unopened (fault.NotAPlant row) h = record { told = tt; stopped = keeps_itself taken; why = h }
  why_unopened fault.Disk h = record { told = tt; stopped = keeps_itself taken; why = h }
  why_unopened fault.Memory h = record { told = tt; stopped = keeps_itself taken; why = tt }
  why_unopened fault.Unsure h = absurd h
  why_unopened (fault.After place) h = absurd h
  why_unopened (fault.Row n) h = absurd h
  why_unopened (fault.Order n) h = absurd h
  why_unopened (fault.Party n) h = absurd h
  why_unopened fault.Read h = absurd h
  why_unopened (fault.Joins place) h = absurd h
  why_unopened fault.Write h = absurd h

  -- the file isn't opened
  pub unopened : (e : LastingFault) → r ≡ Err (of_opening e) → IsUnopened file disk_failed e
      → Telling file text taken taken disk_failed sink_failed r
  unopened e is h = subst (λ (x : Result T TellFault). Telling file text taken taken disk_failed sink_failed x) (sym is) (why_unopened e h)

  -- memory ran out
  pub no_memory : r ≡ Err tell.Memory → Telling file text taken taken disk_failed sink_failed r
  no_memory is = subst (λ (x : Result T TellFault). Telling file text taken taken disk_failed sink_failed x) (sym is)
      (record { told = tt; stopped = keeps_itself taken; why = tt })

  module _ (s : Standing) (plant : IsPlant file s) where
    -- no script says it
    pub no_script : (row : ℕ) → r ≡ Err (tell.NoScript row) → IsNoScript (script_text s) row
        → Telling file text taken taken disk_failed sink_failed r
    no_script row is h = subst (λ (x : Result T TellFault). Telling file text taken taken disk_failed sink_failed x) (sym is)
        (record { told = tt; stopped = keeps_itself taken; why = (s, plant, h) })

    -- the sink failed
    pub unwritten : {taken_after : Option (List ℕ)} → r ≡ Err tell.Write → Begins taken taken_after (text s) → sink_failed ≡ true
        → Telling file text taken taken_after disk_failed sink_failed r
    unwritten {taken_after} is begun failed =
        subst (λ (x : Result T TellFault). Telling file text taken taken_after disk_failed sink_failed x) (sym is)
        (record { told = tt; stopped = (s, plant, begun); why = failed })

    -- all of it is told
    pub all_told : {taken_after : Option (List ℕ)} (x : T) → r ≡ Ok x → Appends taken taken_after (text s)
        → Telling file text taken taken_after disk_failed sink_failed r
    all_told {taken_after} x is all =
        subst (λ (y : Result T TellFault). Telling file text taken taken_after disk_failed sink_failed y) (sym is)
        (record { told = (s, plant, all); stopped = tt; why = tt })
