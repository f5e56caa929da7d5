-- Parts of a section are joined on the way up, and all other sections stay.
use Rattle.std.proofs.Common.{arith, refl, subst, inl, ℕ, ◌<◌, List, [], ◌∷◌, length, map, slice_set}
use Rattle.title_tree.specs.{Plots.{Plot}, Parts.{piece}, Pieces.{Piece, paths, swapped}}
use Rattle.title_land.specs.declared.rectangle.Quarter.{Quarter}
use Rattle.title_tree_store.specs.{Grounds.{IsTidied, plot_in}, Forests.{parts_at}}
use Rattle.title_tree_store.proofs.{GroundLawsPlaces.{in_section, goes_here, order_here, township_tests}, Tidying.{tidied_here}}
use Rattle.title_tree_store.proofs.forest.Parts.settle.Goals as goal

pub settle-requires-clause-parted : goal.settle-requires-clause-parted
settle-requires-clause-parted c = let wanted = c.requires.made.wanted c.in-Section.township in grind (arith, township_tests)

pub settle-requires-clause-there : goal.settle-requires-clause-there
settle-requires-clause-there c =
    let goes = goes_here c.args.grounds.now.items c.args.put.now.home c.args.self.now c.in-Section.township c.in-Section.index _
    c.in-Section.is c.requires.there c.index_mut.ensures.value c.requires.made.goes in
    (rw c.in-One.is at goes).1 c.in-One.part.path (inl refl)

pub returns-in-One-clause-tidied : goal.returns-in-One-clause-tidied
returns-in-One-clause-tidied c i j a b =
    let there = rw c.in-Section.is at c.requires.there in
    let gs = c.args.grounds.now.items in
    let all : (i j : ℕ) → i < length gs → j < 36 → IsTidied (paths (parts_at c.args.put.now.home c.args.self.now i j) ∷ [])
    (swapped (parts_at c.args.put.now.home c.args.self.now i j) (plot_in gs i j))
    (plot_in (slice_set gs c.in-Section.township c.settle.new.self) i j) =
    rw (c.in-Section.is, c.in-One.is) (in_section gs c.in-Section.township _ c.settle.new.self there.0 c.index_mut.ensures.value
    (λ (xs : List Piece) (t u : Plot). IsTidied (paths xs ∷ []) (swapped xs t) u) c.in-Section.index (piece c.in-One.part ∷ [])
    (tidied_here (c.in-One.part.path ∷ []) _ _ c.settle.ensures.stands) (λ k l ne. tidied_here [] _ _ (c.settle.ensures.others k l ne))
    (λ u. tidied_here [] u u refl)) in
    subst (λ (ps : List (List Quarter)). IsTidied (ps ∷ []) (swapped (parts_at c.args.put.now.home c.args.self.now i j) (plot_in gs i j))
    (plot_in (slice_set gs c.in-Section.township c.settle.new.self) i j)) (c.requires.made.own i j a b) (all i j a b)

pub settle_all-requires-clause-parted : goal.settle_all-requires-clause-parted
settle_all-requires-clause-parted c = let wanted = c.requires.made.wanted c.in-Section.township in grind (arith, township_tests)

pub settle_all-requires-clause-disjoint : goal.settle_all-requires-clause-disjoint
settle_all-requires-clause-disjoint c =
    let goes = goes_here c.args.grounds.now.items c.args.put.now.home c.args.self.now c.in-Section.township c.in-Section.index _
    c.in-Section.is c.requires.there c.index_mut-in-Many.ensures.value c.requires.made.goes in
    rw c.deref_mut.ensures.value (rw c.in-Many.is at goes).0

pub settle_all-requires-clause-ready : goal.settle_all-requires-clause-ready
settle_all-requires-clause-ready c =
    let goes = goes_here c.args.grounds.now.items c.args.put.now.home c.args.self.now c.in-Section.township c.in-Section.index _
    c.in-Section.is c.requires.there c.index_mut-in-Many.ensures.value c.requires.made.goes in
    rw c.deref_mut.ensures.value (rw c.in-Many.is at goes).1

pub settle_all-requires-clause-order : goal.settle_all-requires-clause-order
settle_all-requires-clause-order c =
    let own = order_here c.args.grounds.now.items c.args.put.now.home c.args.self.now c.in-Section.township c.in-Section.index
    c.in-Section.is c.requires.there c.requires.made.order in
    rw c.deref_mut.ensures.value (rw c.in-Many.is at own)

pub returns-in-Many-clause-tidied : goal.returns-in-Many-clause-tidied
returns-in-Many-clause-tidied c i j a b =
    let there = rw c.in-Section.is at c.requires.there in
    let gs = c.args.grounds.now.items in
    let all : (i j : ℕ) → i < length gs → j < 36 → IsTidied (paths (parts_at c.args.put.now.home c.args.self.now i j) ∷ [])
    (swapped (parts_at c.args.put.now.home c.args.self.now i j) (plot_in gs i j))
    (plot_in (slice_set gs c.in-Section.township c.settle_all.new.self) i j) =
    rw (c.in-Section.is, c.in-Many.is) (in_section gs c.in-Section.township _ c.settle_all.new.self there.0
    c.index_mut-in-Many.ensures.value
    (λ (xs : List Piece) (t u : Plot). IsTidied (paths xs ∷ []) (swapped xs t) u) c.in-Section.index (map piece c.in-Many.parts.items)
    (tidied_here (paths (map piece c.in-Many.parts.items)) _ _ (rw c.deref_mut.ensures.value at c.settle_all.ensures.stands))
    (λ k l ne. tidied_here [] _ _ (c.settle_all.ensures.others k l ne)) (λ u. tidied_here [] u u refl)) in
    subst (λ (ps : List (List Quarter)). IsTidied (ps ∷ []) (swapped (parts_at c.args.put.now.home c.args.self.now i j) (plot_in gs i j))
    (plot_in (slice_set gs c.in-Section.township c.settle_all.new.self) i j)) (c.requires.made.own i j a b) (all i j a b)
