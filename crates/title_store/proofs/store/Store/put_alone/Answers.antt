-- The image that was taken is out; what is refused changes no cell.
use Rattle.std.proofs.Common.{◌∙◌}
use Rattle.title_land.specs.Depth.{depth}
use Rattle.title_store.specs.Laws.{EffectLaws.{effect_refused}, Taken.{image_out}}
use Rattle.title_store.proofs.store.Store.put_alone.Goals as goal

pub forget-requires-clause-out : goal.forget-requires-clause-out
forget-requires-clause-out g c =
    let h = rw c.in-Done.is at c.in_ok-image.ensures.put in
    image_out h.1

pub returns-in-Refused-clause-put : goal.returns-in-Refused-clause-put
returns-in-Refused-clause-put g c =
    let h = rw c.in-Refused.is at c.in_ok-image.ensures.put in (
      h.0,
      λ d. c.in_ok-image.ensures.content d ∙ effect_refused depth (g.Self.Store.declared c.args.self.now) c.args.instrument.now
          c.args.tract.now (g.Self.Store.content c.args.self.now) d _ h.0,
    )
