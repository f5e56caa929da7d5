-- Two nodes share a cell by their kinds.
use Rattle.std.{proofs.Common.{◌≡◌, Bool, refl, subst, ◌∙◌, sym, ap}, specs.Prelude.{◌||◌, true}}
use Rattle.title_land.specs.{Depth.{depth}, declared.{node.Node.{Node}, survey.Section.{Section}}, Survey.{same_section}, Nodes.{IsNode}}
use Rattle.title_land.{specs.{Nestings.{lies_in}, Laws.SameLand.{same_section-is, same_section-self}}, proofs.Nestings.{squares_related}}
use Rattle.title_land.specs.Laws.NodeSharing.{township_part_related, part_township_related, sections_apart}
use Rattle.title_land.proofs.node.Node.meets.Goals as goal

pub returns-in-Part-other : goal.returns-in-Part-other
returns-in-Part-other c =
    let short = subst (λ (n : Node). IsNode depth n) c.in-Part-other.is c.is_in_tree-2.ensures.tree in
    let e = c.is-in-Part-other.ensures.is ∙ township_part_related depth c.in-Township.t c.in-Part-other.u c.in-Part-other.field-1 short in
    record { meets = rw (c.in-Township.is, c.in-Part-other.is) e }

pub returns-in-Township-other-2 : goal.returns-in-Township-other-2
returns-in-Township-other-2 c =
    let short = subst (λ (n : Node). IsNode depth n) c.in-Part.is c.is_in_tree.ensures.tree in
    let e = c.is-in-Township-other-2.ensures.is ∙ part_township_related depth c.in-Part.s c.in-Part.v c.in-Township-other-2.u short in
    record { meets = rw (c.in-Part.is, c.in-Township-other-2.is) e }

-- the squares lie in one section
in_section : (s u : Section) (b : Bool) → b ≡ same_section s u → b ≡ true → (same_section s u ≡ true) × (same_section u s ≡ true)
in_section s u b is holds =
    let one = sym is ∙ holds in
    (one, ap (same_section u) (same_section-is s u one) ∙ same_section-self u)

pub returns-then-lies_in : goal.returns-then-lies_in
returns-then-lies_in c =
    let one = in_section c.in-Part.s c.in-Part-other-2.u _ c.is-in-Part-other-2.ensures.is c.if-is.true in
    let e = c.if-lies_in.true ∙ sym (ap (λ (b : Bool). b || lies_in c.in-Part.v c.in-Part-other-2.w) c.if-lies_in.true)
    ∙ squares_related c.in-Part.s c.in-Part-other-2.u c.in-Part.v c.in-Part-other-2.w _ _ one.0 one.1 c.lies_in.ensures.lies refl in
    record { meets = rw (c.in-Part.is, c.in-Part-other-2.is) e }

pub returns-else-lies_in : goal.returns-else-lies_in
returns-else-lies_in c =
    let one = in_section c.in-Part.s c.in-Part-other-2.u _ c.is-in-Part-other-2.ensures.is c.if-is.true in
    let e = sym (ap (λ (b : Bool). b || c.lies_in-else-lies_in.result) c.if-lies_in.false)
    ∙ squares_related c.in-Part.s c.in-Part-other-2.u c.in-Part.v c.in-Part-other-2.w _ _ one.0 one.1 c.lies_in.ensures.lies
    c.lies_in-else-lies_in.ensures.lies in
    record { meets = rw (c.in-Part.is, c.in-Part-other-2.is) e }

pub returns-else-is : goal.returns-else-is
returns-else-is c =
    let v = subst (λ (n : Node). IsNode depth n) c.in-Part.is c.is_in_tree.ensures.tree in
    let w = subst (λ (n : Node). IsNode depth n) c.in-Part-other-2.is c.is_in_tree-2.ensures.tree in
    let e = c.is-in-Part-other-2.ensures.is ∙ sections_apart depth c.in-Part.s c.in-Part-other-2.u c.in-Part.v c.in-Part-other-2.w v w
    (sym c.is-in-Part-other-2.ensures.is ∙ c.if-is.false) in
    record { meets = rw (c.in-Part.is, c.in-Part-other-2.is) e }
