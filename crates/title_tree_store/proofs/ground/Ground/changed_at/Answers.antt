-- Where one tree stood in all sections, it is what each of their own is; where nothing is made all is as it was.
use Rattle.std.proofs.Common.{◌≡◌, ◌∙◌, ap, sym, ℕ, ◌<◌, arith, get_or, List, length, map, replicate}
use Rattle.std.proofs.lemmas.{Result.{err_from_is_err_and, on_err_weaker}}
use Rattle.title_tree.specs.{declared.tree.Tree.{Tree}, Plots.{Plot, split}, Trees.{plot}}
use Rattle.title_tree_store.specs.declared.ground.Ground.{Ground, TheVariants.{Whole}}
use Rattle.title_tree_store.specs.Grounds.{nothing, stands, are_one, is_closable}
use Rattle.title_tree_store.proofs.GroundLaws.{read_plot, set_plot, other_plot, each_copy, long_copies, same_plots}
use Rattle.title_tree_store.proofs.ground.Ground.changed_at.Goals as goal

-- the copy at the index is what stood in each section
copied : (xs : List Tree) (ground : Ground) (tree t : Tree) (i : ℕ) → map plot xs ≡ replicate 36 (plot tree) → ground ≡ Whole tree → i < 36
    → t ≡ get_or xs i t → plot t ≡ stands ground i
copied xs ground tree t i copies whole lt at =
    ap plot at ∙ read_plot xs i t (long_copies xs (plot tree) i copies lt) ∙ each_copy xs (plot tree) i copies lt ∙ ap (λ (g : Ground).
    stands g i) (sym whole)

pub returns-in_err-made-in-Whole-clause-why : goal.returns-in_err-made-in-Whole-clause-why
returns-in_err-made-in-Whole-clause-why g c =
    let out = err_from_is_err_and c.from_residual-in_err-made-in-Whole.result c.from_residual-in_err-made-in-Whole.ensures.1 in
    let stood = copied c.in_ok-trees-in-Whole.trees.items c.args.self.now c.in-Whole.tree c.index_mut.result.now c.args.index
    c.in_ok-trees-in-Whole.ensures.copies c.in-Whole.is c.requires.section c.index_mut.ensures.value in
    rw (out.1, out.2) (rw (stood, c.changed.ensures.same) at c.in_err-made-in-Whole.ensures.why)

pub returns-in_ok-made-in-Whole-clause-new : goal.returns-in_ok-made-in-Whole-clause-new
returns-in_ok-made-in-Whole-clause-new g c =
    let stood = copied c.in_ok-trees-in-Whole.trees.items c.args.self.now c.in-Whole.tree c.index_mut.result.now c.args.index
    c.in_ok-trees-in-Whole.ensures.copies c.in-Whole.is c.requires.section c.index_mut.ensures.value in
    rw (stood, c.changed.ensures.same) at c.in_ok-made-in-Whole.ensures.new

pub returns-in_ok-made-in-Whole-clause-split : goal.returns-in_ok-made-in-Whole-clause-split
returns-in_ok-made-in-Whole-clause-split g c =
    let trees = c.in_ok-trees-in-Whole.trees.items in
    let stood = copied trees c.args.self.now c.in-Whole.tree c.index_mut.result.now c.args.index
    c.in_ok-trees-in-Whole.ensures.copies c.in-Whole.is c.requires.section c.index_mut.ensures.value in
    set_plot trees c.args.index c.changed_at.new.self (long_copies trees (plot c.in-Whole.tree) c.args.index
    c.in_ok-trees-in-Whole.ensures.copies c.requires.section)
    ∙ c.in_ok-made-in-Whole.ensures.split ∙ ap (split c.args.path) stood

pub returns-in_ok-made-in-Whole-clause-others : goal.returns-in_ok-made-in-Whole-clause-others
returns-in_ok-made-in-Whole-clause-others g c j lt ne =
    other_plot c.in_ok-trees-in-Whole.trees.items c.args.index j c.changed_at.new.self ne
    ∙ each_copy c.in_ok-trees-in-Whole.trees.items (plot c.in-Whole.tree) j c.in_ok-trees-in-Whole.ensures.copies lt
    ∙ ap (λ (ground : Ground). stands ground j) (sym c.in-Whole.is)

pub returns-in-Parted-clause-err : goal.returns-in-Parted-clause-err
returns-in-Parted-clause-err g c =
    let trees = c.in-Parted.sections.trees.items in
    on_err_weaker c.changed_at-in-Parted.result (λ same.
    let long : c.args.index < length trees = omega (arith, c.in-Parted.sections.all, c.requires.section) in
    let all = same_plots trees c.args.index c.index_mut-in-Parted.result.now c.changed_at-in-Parted.new.self long
    c.index_mut-in-Parted.ensures.value same in
    record {
      stays = λ j lt. ap (λ (ts : List Plot). get_or ts j nothing) all ∙ ap (λ (ground : Ground). stands ground j) (sym c.in-Parted.is);
      closable = ap are_one all ∙ ap is_closable (sym c.in-Parted.is);
    }) c.changed_at-in-Parted.ensures.err
