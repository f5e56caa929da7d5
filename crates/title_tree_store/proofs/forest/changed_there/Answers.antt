-- One section is quartered, and all others stay.
use Rattle.std.proofs.Common.{◌∙◌, ◌≡◌, ap, sym, subst, refl, Bool, cond, [], List, length}
use Rattle.std.proofs.lemmas.{Bool.{and_from}, List.{length-set}, Result.{IfErr-weaker, err_from_is_err_and, on_ok_weaker}}
use Rattle.std.specs.{Prelude.{◌==◌, ◌∷◌, None}, Option.{option_or}}
use Rattle.title_land.specs.declared.rectangle.Quarter.{Quarter}
use Rattle.title_instrument.specs.Effect.{holding_effect}
use Rattle.title_tree.specs.{Faults.{Tells}, Plots.{Plot, first_refusal}, Pieces.{refusal_at, split_all}}
use Rattle.title_tree_store.specs.{declared.spots.Home.{Home}, Grounds.{stands, is_parted, is_closable, plot_in}, Spots.{ways_at}}
use Rattle.title_tree_store.proofs.{Steps.{Stays, split_stays}, GroundLawsPlaces.{in_section, stays_whole, test_elsewhere, kept_parted}}
use Rattle.title_tree_store.proofs.GroundLawsPlaces.{read_parted, same_number, tells_or, tells_somewhere, was_here, one_untouched}
use Rattle.title_tree_store.proofs.forest.changed_there.Goals as goal

pub returns-clause-ok : goal.returns-clause-ok
returns-clause-ok c =
    let there = rw c.in-Section.is at c.requires.there in
    rw c.in-Section.is (on_ok_weaker c.changed_at.result (λ h. in_section c.args.grounds.now.items c.in-Section.township _
    c.changed_at.new.ground there.0 c.index_mut.ensures.value (λ (ps : List (List Quarter)) (t u : Plot). u ≡ split_all ps t)
    c.in-Section.index c.args.paths.now h c.changed_at.ensures.others (λ u. refl)) c.changed_at.ensures.split)

pub returns-clause-split : goal.returns-clause-split
returns-clause-split c =
    let there = rw c.in-Section.is at c.requires.there in
    let gs = c.args.grounds.now.items in
    let t = c.in-Section.township in
    let n = c.in-Section.index in
    let old = c.index_mut.result.now in
    let new = c.changed_at.new.ground in
    let paths = c.args.paths.now in
    let done = c.changed_at.ensures in
    let each = in_section gs t old new there.0 c.index_mut.ensures.value Stays n paths
    (split_stays c.changed_at.result paths (stands old n) (stands new n) done.split done.err done.err_fits done.err_elsewhere)
    (λ j l ne. subst (Stays [] (stands old j)) (sym (done.others j l ne)) (stays_whole (stands old j))) stays_whole in
    rw c.in-Section.is (record {
      sized = length-set gs t new;
      refines = λ i j a b. (each i j a b).0;
      within = λ i j a b. (each i j a b).1;
      elsewhere = λ i j a b. (each i j a b).2;
      kept = λ i. kept_parted gs t i new (λ h. done.kept (ap is_parted c.index_mut.ensures.value ∙ read_parted gs t old there.0 ∙ h));
      closed = λ i. test_elsewhere is_closable gs t i new;
    })

pub returns-in_err-ground-in-Township-clause-why : goal.returns-in_err-ground-in-Township-clause-why
returns-in_err-ground-in-Township-clause-why c =
    let out = err_from_is_err_and c.from_residual-in_err-ground-in-Township.result c.from_residual-in_err-ground-in-Township.ensures.1 in
    let there = rw c.in-Township.is at c.requires.there in
    let gs = c.args.grounds.now.items in
    let t = c.in-Township.index in
    let effect = holding_effect c.args.passing.now.instrument c.args.passing.now.estate in
    let why = c.in_err-ground-in-Township.ensures.why in
    let here = ap (λ (h : Home). refusal_at effect (ways_at h c.args.paths.now t why.0) (plot_in gs t why.0)) c.in-Township.is
    ∙ ap (λ (b : Bool). refusal_at effect (cond b ([] ∷ []) []) (plot_in gs t why.0)) (same_number t)
    ∙ ap (λ (u : Plot). option_or (first_refusal effect u) None) (was_here gs t c.index.result.now c.index.result.now there c.index.ensures
    why.0) in
    rw (out.1, out.2) (tells_somewhere _ (length gs) (λ i j. refusal_at effect (ways_at c.args.home c.args.paths.now i j) (plot_in gs i
    j)) t
    there (why.0, why.1, subst (Tells _) (sym here) (tells_or _ _ why.2)))

pub returns-clause-why : goal.returns-clause-why
returns-clause-why c =
    let there = rw c.in-Section.is at c.requires.there in
    let gs = c.args.grounds.now.items in
    let t = c.in-Section.township in
    let n = c.in-Section.index in
    let paths = c.args.paths.now in
    let effect = holding_effect c.args.passing.now.instrument c.args.passing.now.estate in
    let here = ap (λ (h : Home). refusal_at effect (ways_at h paths t n) (plot_in gs t n)) c.in-Section.is
    ∙ ap (λ (b : Bool). refusal_at effect (cond b paths []) (plot_in gs t n)) (and_from (t == t) (n == n) (same_number t) (same_number n))
    ∙ ap (refusal_at effect paths) (was_here gs t c.index_mut.result.now c.changed_at.new.ground there.0 c.index_mut.ensures.value n) in
    IfErr-weaker c.changed_at.result _ _ (λ f told. tells_somewhere f (length gs)
    (λ i j. refusal_at effect (ways_at c.args.home paths i j) (plot_in gs i j)) t there.0
    (n, there.1, subst (Tells f) (sym here) told)) c.changed_at.ensures.why

pub returns-clause-left : goal.returns-clause-left
returns-clause-left c whole =
    let there = rw c.in-Section.is at c.requires.there in
    one_untouched c.args.grounds.now.items c.in-Section.township c.index_mut.result.now c.changed_at.new.ground there.0
    c.index_mut.ensures.value (c.changed_at.ensures.left whole)
