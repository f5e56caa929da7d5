-- Two squares are one where their sections and their paths are.
use Rattle.std.{proofs.{Common.{Bool, sym, ap, ◌∙◌}, Math.Bool.{and-true, and-false}}, specs.Prelude.{◌&&◌}}
use Rattle.title_land.specs.Survey.{same_section}
use Rattle.title_land.proofs.node.Node.is.Goals as goal

pub returns-then-is-clause-told : goal.returns-then-is-clause-told
returns-then-is-clause-told c =
    let sections = same_section c.in-Part-Part.s c.in-Part-Part.u in
    let e = c.is-then-is.ensures.is ∙ sym (and-true sections)
    ∙ ap (λ (b : Bool). sections && b) (sym c.if-is.true ∙ c.is-in-Part-Part.ensures.told) in
    rw (c.in-Part-Part.is-0, c.in-Part-Part.is-1) e

pub returns-else-is-clause-told : goal.returns-else-is-clause-told
returns-else-is-clause-told c =
    let sections = same_section c.in-Part-Part.s c.in-Part-Part.u in
    let e = c.if-is.false ∙ sym (and-false sections)
    ∙ ap (λ (b : Bool). sections && b) (sym c.if-is.false ∙ c.is-in-Part-Part.ensures.told) in
    rw (c.in-Part-Part.is-0, c.in-Part-Part.is-1) e
