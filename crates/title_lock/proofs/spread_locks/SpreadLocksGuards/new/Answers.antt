-- Where there are no entries nobody has a mode, and nobody has room.
use Rattle.std.proofs.Common.{◌∙◌, refl, sym, subst, List, true≢false, [], arith}
use Rattle.title_land.specs.Depth.{depth}
use Rattle.title_lock.specs.{declared.guards.Entry.{Entry}, Tables.{TableIs, on_all}}
use Rattle.title_lock.proofs.spread_locks.SpreadLocksGuards.new.Goals as goal

pub invariant_of-result : goal.invariant_of-result
invariant_of-result c =
    let none : TableIs depth [] (on_all c.new-2.result) = record {
      apart = λ e f other n. refl;
      sized = λ k x low. absurd (omega (arith, low));
      modes = λ e n. c.new-2.ensures.free e n;
    } in
    record {
      kept = subst (λ (es : List Entry). TableIs depth es (on_all c.new-2.result)) (sym c.new.ensures.empty) none;
      lean = record {
        idle = λ f n idle. absurd (true≢false (sym idle ∙ c.new-2.ensures.idle f n));
        used = c.new-2.ensures.used;
      };
    }
