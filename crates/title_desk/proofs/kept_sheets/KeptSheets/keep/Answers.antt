-- What is the plant's comes to its home, which is there or is put in, or all stays as it was.
use Rattle.std.{proofs.Common.{Option, Some, refl, subst, sym}, specs.Prelude.{IsSome}}
use Rattle.title_desk.specs.declared.kept_sheets.{Home.{Home}, KeptSheets.{KeptSheets}}
use Rattle.title_desk.{specs.Shown.{Stock, all_kept, kept_in, AllKept}, proofs.Homes.{none_kept, set_under, kept_set, kept_put}}
use Rattle.title_desk.proofs.kept_sheets.KeptSheets.keep.Goals as goal

pub returns-in-Some : goal.returns-in-Some
returns-in-Some c =
    let old = c.args.self.now in
    let k = c.number-number.result in
    let w = c.keep.new.self in
    let found = c.in-Some.ensures.value in
    let numbered = sym c.number-number.ensures.number in
    let new : KeptSheets = record { alloc = old.alloc; homes = c.get_mut.follows.lender w } in
    record {
      kept = λ ts p are is. kept_set ts p k (all_kept w) old new (set_under k (Some w) old.homes new.homes
          ((c.get_mut.follows.holds w).3 (subst (λ (o : Option Home). IsSome o) found refl)).0)
          (c.keep.ensures.kept ts p k (subst (λ (o : Option Home). AllKept ts p k (kept_in o)) (sym found) (are.each k))
          (is, numbered)) are;
    }

pub returns : goal.returns
returns c =
    let old = c.args.self.now in
    let k = c.number-number.result in
    let w = c.keep-2.new.self in
    let numbered = sym c.number-number.ensures.number in
    let none = c.get_mut.follows.holds-at-none in
    let new : KeptSheets = record { alloc = old.alloc; homes = c.insert.new.self } in
    record {
      kept = λ ts p are is. kept_put c.insert.result ts p k w old new (rw none at c.insert.ensures.updates)
          (rw none at c.insert.ensures.err)
          (c.keep-2.ensures.kept ts p k (subst (λ (s : Stock). AllKept ts p k s) (sym c.new-home.ensures.new) (none_kept ts p k))
          (is, numbered)) are;
    }
