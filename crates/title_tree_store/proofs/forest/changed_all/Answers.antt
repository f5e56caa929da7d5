-- One township more is made of the next one, in which no leaf refuses.
use Rattle.std.proofs.Common.{◌≡◌, ◌∙◌, ap, ℕ, ◌+◌, ◌<◌, None, false, length, below_more, rules}
use Rattle.std.proofs.lemmas.{List.{length_push}, Result.{err_from_is_err_and}}
use Rattle.title_instrument.specs.Effect.{holding_effect}
use Rattle.title_tree.specs.{Changes.{after}, Plots.{changed, first_refusal}}
use Rattle.title_tree_store.specs.{declared.ground.Ground.{Ground}, Grounds.{nothing, stands, is_parted, plot_in, parted_in}}
use Rattle.title_tree_store.proofs.{GroundLaws.{read_at}, GroundLawsPlaces.{pushed_each, tells_somewhere}}
use Rattle.title_tree_store.proofs.forest.changed_all.Goals as goal

pub returns-in_err-changed-clause-why : goal.returns-in_err-changed-clause-why
returns-in_err-changed-clause-why c =
    let out = err_from_is_err_and c.from_residual-in_err-changed.result c.from_residual-in_err-changed.ensures.1 in
    let why = c.in_err-changed.ensures.why in
    let read = read_at (λ (g : Ground). stands g why.0) c.args.grounds.now c.loop-ground.ground-index c.ground-item.result nothing
    c.loop-ground-test.true c.ground-item.is in
    rw (out.1, out.2) (tells_somewhere _ (length c.args.grounds.now)
    (λ i j. first_refusal (holding_effect c.args.passing.now.instrument c.args.passing.now.estate) (plot_in c.args.grounds.now i j))
    c.loop-ground.ground-index c.loop-ground-test.true (why.0, why.1, rw (read, ← c.loop-ground.invariant.same) why.2))

pub loop-ground-preserved : goal.loop-ground-preserved
loop-ground-preserved c =
    let inv = c.loop-ground.invariant in
    let gs = c.args.grounds.now in
    let made = c.loop-ground.made.items in
    let index = c.loop-ground.ground-index in
    let lt = c.loop-ground-test.true in
    let stood = λ (j : ℕ). read_at (λ (g : Ground). stands g j) gs index c.ground-item.result nothing lt c.ground-item.is in
    let was = read_at is_parted gs index c.ground-item.result false lt c.ground-item.is in
    record {
      none = below_more (λ (i : ℕ). (j : ℕ) → j < 36 → first_refusal
          (holding_effect c.args.passing.now.instrument c.args.passing.now.estate) (plot_in gs i j) ≡ None) index inv.none
          (λ j within. rw (stood j, ← inv.same) (c.in_ok-changed.ensures.none j within));
      new = rw c.push_reserved.ensures.items (λ i j a b. pushed_each (λ (g : Ground). stands g j) nothing
          (λ i t. t ≡ changed (after (holding_effect c.args.passing.now.instrument c.args.passing.now.estate)) (plot_in gs i j)) made _
          (rw (inv.count, stood j, ← inv.same) (c.in_ok-changed.ensures.new j b))
          (λ k l. inv.new k j l b) i a);
      parted = rw c.push_reserved.ensures.items (pushed_each is_parted false (λ i p. p ≡ parted_in gs i) made _
          (rw (inv.count, was) c.in_ok-changed.ensures.parted) inv.parted);
      same = c.changed.ensures.same ∙ inv.same;
      count = ap length c.push_reserved.ensures.items ∙ length_push made c.in_ok-changed.changed ∙ ap (λ n. n + 1) inv.count;
      room = search rules;
    }
