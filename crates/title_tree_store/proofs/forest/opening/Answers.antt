-- One township more is one tree, of the holding that all have.
use Rattle.std.{proofs.{Common.{◌≡◌, ap, refl, arith, rules}, lemmas.Grind.{common_steps}}, specs.Arc.{arc_value}}
use Rattle.title_share.specs.Division.{all_to}
use Rattle.title_tree.specs.Plots.{Same}
use Rattle.title_tree_store.specs.{declared.ground.Ground.{Ground}, Grounds.{nothing, stands, is_closable}}
use Rattle.title_tree_store.proofs.GroundLawsPlaces.{pushed_each, pushed_none}
use Rattle.title_tree_store.proofs.forest.opening.Goals as goal

pub loop-held-preserved : goal.loop-held-preserved
loop-held-preserved c =
    let held : arc_value c.in_ok-clone.field-0 ≡ all_to 0 = grind (arith, common_steps) in
    record {
      opening = rw c.push_reserved.ensures.items (λ i j a b. pushed_each (λ (g : Ground). stands g j) nothing (λ _ t. t ≡ Same (all_to 0))
          c.loop-held.grounds.items _ (ap Same held) (λ k l. c.loop-held.invariant.opening k j l b) i a);
      closed = rw c.push_reserved.ensures.items (pushed_none is_closable c.loop-held.grounds.items _ refl c.loop-held.invariant.closed);
      within = grind (arith, common_steps);
      room = search rules;
    }
