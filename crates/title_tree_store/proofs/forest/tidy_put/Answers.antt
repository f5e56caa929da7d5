-- What a put wrote is all, a township or a section.
use Rattle.std.proofs.Common.{◌∙◌, [], ◌∷◌, ap, refl, sym, List, get_or}
use Rattle.title_land.specs.declared.rectangle.Quarter.{Quarter}
use Rattle.title_tree_store.specs.{Grounds.{IsTidied}, Spots.{paths_in}}
use Rattle.title_tree_store.proofs.{Tidying.{tidied_here}, GroundLawsPlaces.{in_township, in_section}}
use Rattle.title_tree_store.proofs.forest.tidy_put.Goals as goal

pub returns-in-Everything-clause-tidied : goal.returns-in-Everything-clause-tidied
returns-in-Everything-clause-tidied c i j a b =
    let named = sym c.has.ensures.has ∙ c.if-not-has.false in
    rw (named, c.in-Everything.is) (tidied_here ([] ∷ []) _ _ (c.tidy_each.ensures.tidied i j a b))

pub returns-in-Township-clause-tidied : goal.returns-in-Township-clause-tidied
returns-in-Township-clause-tidied c =
    let named = sym c.has.ensures.has ∙ c.if-not-has.false in
    let there = rw c.in-Township.is at c.requires.there in
    rw (named, c.in-Township.is) (in_township c.args.grounds.now c.in-Township.index _ c.tidy.new.self there
    (ap (get_or c.args.grounds.now c.in-Township.index) c.index-grounds-index.is) (λ (ps : List (List Quarter)). IsTidied (ps ∷ []))
    (λ _. [] ∷ []) (λ k l. tidied_here ([] ∷ []) _ _ (c.tidy.ensures.tidied k l)) (λ u. tidied_here [] u u refl))

pub returns-in-Section-clause-tidied : goal.returns-in-Section-clause-tidied
returns-in-Section-clause-tidied c =
    let named = sym c.has.ensures.has ∙ c.if-not-has.false in
    let there = rw c.in-Section.is at c.requires.there in
    rw (named, c.in-Section.is) (in_section c.args.grounds.now c.in-Section.township _ c.tidy_at.new.self there.0
    (ap (get_or c.args.grounds.now c.in-Section.township) c.index-grounds-township.is) (λ (ps : List (List Quarter)). IsTidied (ps ∷ []))
    c.in-Section.index (paths_in c.args.put.now.paths) (rw c.as_slice.ensures.paths at c.tidy_at.ensures.tidied)
    c.tidy_at.ensures.others (λ u. tidied_here [] u u refl))
