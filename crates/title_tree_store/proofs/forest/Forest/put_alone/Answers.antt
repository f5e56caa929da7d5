-- Of each estate that is named what was made takes its places; where it stopped what was quartered is joined again.
use Rattle.std.proofs.Common.{refl, length}
use Rattle.title_instrument.specs.declared.parts.Estate.TheVariants.{S, O, M}
use Rattle.title_tree_store.specs.{Grounds.{Everywhere}, Spots.{paths_in, ways_at}, Forests.{Each, IsRejoined, grounds, plots}}
use Rattle.title_tree_store.proofs.{Contents.{each, for_each}, Settling.{made_for, settled, tidy_settled, rejoined, tidy_rejoined}}
use Rattle.title_tree_store.proofs.Settling.{untouched, tidy_untouched}
use Rattle.title_tree.specs.Laws.Swaps.{on_err}
use Rattle.title_tree_store.proofs.forest.Forest.put_alone.Goals.{then-making, else-making}
use Rattle.title_tree_store.proofs.forest.Forest.put_alone.Goals as goal

pub settle-requires-clause-made : goal.settle-requires-clause-made
settle-requires-clause-made c =
    made_for c.args.instrument.now c.args.home (paths_in c.args.paths) c.args.self.now c.made.new.self
    (rw c.as_slice.ensures.paths at c.made.ensures.split)
    (record { home = c.args.home; estates = c.estates.result; paths = c.args.paths }) refl refl c.estates.ensures.estates c.in-Ok.parts
    c.requires.disjoint (rw c.as_slice.ensures.paths at c.in-Ok.ensures.made) c.requires.order S

pub settle-requires-in-Ok-clause-made : goal.settle-requires-in-Ok-clause-made
settle-requires-in-Ok-clause-made c =
    made_for c.args.instrument.now c.args.home (paths_in c.args.paths) c.args.self.now c.made.new.self
    (rw c.as_slice.ensures.paths at c.made.ensures.split)
    (record { home = c.args.home; estates = c.estates.result; paths = c.args.paths }) refl refl c.estates.ensures.estates c.in-Ok.parts
    c.requires.disjoint (rw c.as_slice.ensures.paths at c.in-Ok.ensures.made) c.requires.order O

pub settle-requires-in-Ok-2-clause-made : goal.settle-requires-in-Ok-2-clause-made
settle-requires-in-Ok-2-clause-made c =
    made_for c.args.instrument.now c.args.home (paths_in c.args.paths) c.args.self.now c.made.new.self
    (rw c.as_slice.ensures.paths at c.made.ensures.split)
    (record { home = c.args.home; estates = c.estates.result; paths = c.args.paths }) refl refl c.estates.ensures.estates c.in-Ok.parts
    c.requires.disjoint (rw c.as_slice.ensures.paths at c.in-Ok.ensures.made) c.requires.order M

pub returns-in-Ok-clause-settled : goal.returns-in-Ok-clause-settled
returns-in-Ok-clause-settled c =
    for_each (settled c.args.instrument.now c.args.home (paths_in c.args.paths) c.args.self.now c.made.new.self (rw
    c.as_slice.ensures.paths at c.made.ensures.split)
    (record { home = c.args.home; estates = c.estates.result; paths = c.args.paths }) refl refl c.estates.ensures.estates c.in-Ok.parts
    c.requires.disjoint
    (rw c.as_slice.ensures.paths at c.in-Ok.ensures.made)
    (record {
      s = c.settle.new.grounds;
      o = c.settle-in-Ok.new.grounds;
      m = c.settle-in-Ok-2.new.grounds;
      written =
          c.made.new.self.written;
    })
    (each (record { s = c.settle.ensures.tidied; o = c.settle-in-Ok.ensures.tidied; m = c.settle-in-Ok-2.ensures.tidied })))

pub returns-in-Ok-clause-tidy : goal.returns-in-Ok-clause-tidy
returns-in-Ok-clause-tidy c =
    tidy_settled c.args.instrument.now c.args.home (paths_in c.args.paths) c.args.self.now c.made.new.self (rw c.as_slice.ensures.paths at
    c.made.ensures.split)
    (record { home = c.args.home; estates = c.estates.result; paths = c.args.paths }) refl refl c.estates.ensures.estates c.in-Ok.parts
    c.requires.disjoint
    (rw c.as_slice.ensures.paths at c.in-Ok.ensures.made) _
    (each (record { s = c.settle.ensures.tidied; o = c.settle-in-Ok.ensures.tidied; m = c.settle-in-Ok-2.ensures.tidied }))
    c.requires.tidy
    (each (record { s = c.settle.ensures.sized; o = c.settle-in-Ok.ensures.sized; m = c.settle-in-Ok-2.ensures.sized }))
    (each (record { s = c.settle.ensures.closed; o = c.settle-in-Ok.ensures.closed; m = c.settle-in-Ok-2.ensures.closed }))
    (each (record { s = c.settle.ensures.others; o = c.settle-in-Ok.ensures.others; m = c.settle-in-Ok-2.ensures.others }))

pub returns-clause-stopped : goal.returns-clause-stopped
returns-clause-stopped c =
    let same : Each (λ e. Everywhere (length (grounds c.args.self.now e)) (λ i j. IsRejoined (ways_at c.args.home (paths_in c.args.paths)
    i j)
    (plots c.args.self.now e i j) (plots c.if-making.self e i j))) = elim c.if-making.branch [
      | then-making w ↦ rw w.self-is (for_each (rejoined c.args.instrument.now c.args.home (paths_in c.args.paths) c.args.self.now
          c.made.new.self (rw c.as_slice.ensures.paths at c.made.ensures.split)
          (record { home = c.args.home; estates = c.estates.result; paths = c.args.paths }) refl refl c.estates.ensures.estates
          w.tidy_after.new.self
          (each w.tidy_after.ensures.tidied)))
      | else-making w ↦ rw w.self-is (for_each (untouched c.args.home (paths_in c.args.paths) c.args.self.now c.made.new.self
          (each (c.made.ensures.left w.if-making.false))))
    ] in
    on_err c.if-making.result _ same

pub returns-clause-tidy : goal.returns-clause-tidy
returns-clause-tidy c = elim c.if-making.branch [
  | then-making w ↦ rw w.self-is (tidy_rejoined c.args.instrument.now c.args.home (paths_in c.args.paths) c.args.self.now c.made.new.self
      (rw c.as_slice.ensures.paths at c.made.ensures.split)
      (record { home = c.args.home; estates = c.estates.result; paths = c.args.paths }) refl refl c.estates.ensures.estates
      w.tidy_after.new.self
      (each w.tidy_after.ensures.tidied) c.requires.tidy (each w.tidy_after.ensures.sized) (each w.tidy_after.ensures.closed)
      (each w.tidy_after.ensures.others))
  | else-making w ↦ rw w.self-is (tidy_untouched c.args.home (paths_in c.args.paths) c.args.self.now c.made.new.self
      (each (c.made.ensures.left w.if-making.false)) c.requires.tidy (λ e. (each c.made.ensures.split.split e).sized))
]
