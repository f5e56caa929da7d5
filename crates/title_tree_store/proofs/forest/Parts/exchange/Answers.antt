-- Parts of one township, or of one section, change places with what stands there, and all others stay.
use Rattle.std.proofs.Common.{arith, ◌≡◌, ◌∙◌, ap, refl, inl, List, [], ◌∷◌, map}
use Rattle.title_tree.specs.{Plots.{Plot}, Parts.{piece}, Pieces.{Piece, swapped}}
use Rattle.title_tree_store.specs.{declared.ground.Ground.{Ground}, Grounds.{stands}, Forests.{whole}}
use Rattle.title_tree_store.proofs.GroundLawsPlaces.{in_township, in_section, goes_here, township_tests}
use Rattle.title_tree_store.proofs.forest.Parts.exchange.Goals as goal

pub exchange-requires-clause-parted : goal.exchange-requires-clause-parted
exchange-requires-clause-parted c = let wanted = c.requires.wanted c.in-Section.township in grind (arith, township_tests)

pub exchange_all-requires-clause-parted : goal.exchange_all-requires-clause-parted
exchange_all-requires-clause-parted c = let wanted = c.requires.wanted c.in-Section.township in grind (arith, township_tests)

pub exchange-requires-clause-there : goal.exchange-requires-clause-there
exchange-requires-clause-there c =
    let goes = goes_here c.args.grounds.now.items c.args.home c.args.self.now c.in-Section.township c.in-Section.index _ c.in-Section.is
    c.requires.there c.index_mut-in-One.ensures.value c.requires.goes in
    (rw c.in-One.is at goes).1 c.in-One.part.path (inl refl)

pub exchange_all-requires-clause-disjoint : goal.exchange_all-requires-clause-disjoint
exchange_all-requires-clause-disjoint c =
    let goes = goes_here c.args.grounds.now.items c.args.home c.args.self.now c.in-Section.township c.in-Section.index _ c.in-Section.is
    c.requires.there c.index_mut-in-Many.ensures.value c.requires.goes in
    rw c.deref_mut.ensures.value (rw c.in-Many.is at goes).0

pub exchange_all-requires-clause-ready : goal.exchange_all-requires-clause-ready
exchange_all-requires-clause-ready c =
    let goes = goes_here c.args.grounds.now.items c.args.home c.args.self.now c.in-Section.township c.in-Section.index _ c.in-Section.is
    c.requires.there c.index_mut-in-Many.ensures.value c.requires.goes in
    rw c.deref_mut.ensures.value (rw c.in-Many.is at goes).1

pub returns-in-Township-self-clause-grounds : goal.returns-in-Township-self-clause-grounds
returns-in-Township-self-clause-grounds c =
    let there = rw c.in-Township.is at c.requires.there in
    rw (c.in-Township.is, c.in-Township-self.is) (in_township c.args.grounds.now.items c.in-Township.township _
    c.swap-in-Township-self.new.y there c.index_mut.ensures.value (λ (xs : List Piece) (t u : Plot). u ≡ swapped xs t)
    (λ j. whole (stands c.in-Township-self.ground.value j) ∷ [])
    (λ j _. ap (λ (g : Ground). stands g j) (c.swap-in-Township-self.ensures.y_after ∙ c.as_mut.ensures.value)) (λ u. refl))

pub returns-in-One-clause-grounds : goal.returns-in-One-clause-grounds
returns-in-One-clause-grounds c =
    let there = rw c.in-Section.is at c.requires.there in
    rw (c.in-Section.is, c.in-One.is) (in_section c.args.grounds.now.items c.in-Section.township _ c.exchange.new.self there.0
    c.index_mut-in-One.ensures.value (λ (xs : List Piece) (t u : Plot). u ≡ swapped xs t) c.in-Section.index (piece c.in-One.part ∷ [])
    c.exchange.ensures.stands c.exchange.ensures.others (λ u. refl))

pub returns-in-Many-clause-grounds : goal.returns-in-Many-clause-grounds
returns-in-Many-clause-grounds c =
    let there = rw c.in-Section.is at c.requires.there in
    rw (c.in-Section.is, c.in-Many.is) (in_section c.args.grounds.now.items c.in-Section.township _ c.exchange_all.new.self there.0
    c.index_mut-in-Many.ensures.value (λ (xs : List Piece) (t u : Plot). u ≡ swapped xs t) c.in-Section.index
    (map piece c.in-Many.parts.items) (rw c.deref_mut.ensures.value at c.exchange_all.ensures.stands) c.exchange_all.ensures.others
    (λ u. refl))
