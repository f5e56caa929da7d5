-- The sheets that are left are those of the plant after the post alone.
use Rattle.std.proofs.Common.{◌∙◌}
use Rattle.title_land.specs.Depth.{depth}
use Rattle.title_store.specs.Laws.EffectLaws.{effect_refused}
use Rattle.title_desk.proofs.Shows.{kept_left, kept_same}
use Rattle.title_desk.proofs.shown_store.ShownStoreStore.put_alone.Goals as goal

pub invariant_of-self-in-Done : goal.invariant_of-self-in-Done
invariant_of-self-in-Done g c =
    let left = rw c.estates.ensures.estates at c.let_go.ensures.left in
    kept_left (g.S.Store.declared c.self.inside.store) (g.S.Store.declared c.put_alone.new.self) c.args.tract.now c.args.instrument.now
    (g.S.Store.content c.self.inside.store) (g.S.Store.content c.put_alone.new.self) c.self.inside.kept c.let_go.new.self
    c.put_alone.ensures.declared c.in_ok-put.ensures.content left c.self.invariant

pub invariant_of-self-in_default : goal.invariant_of-self-in_default
invariant_of-self-in_default g c =
    let h = rw c.in_default.is at c.in_ok-put.ensures.put in
    kept_same (g.S.Store.declared c.self.inside.store) (g.S.Store.declared c.put_alone.new.self) (g.S.Store.content c.self.inside.store)
    (g.S.Store.content c.put_alone.new.self) c.self.inside.kept c.put_alone.ensures.declared
    (λ d. c.in_ok-put.ensures.content d
    ∙ effect_refused depth (g.S.Store.declared c.self.inside.store) c.args.instrument.now c.args.tract.now
    (g.S.Store.content c.self.inside.store) d _ h.0) c.self.invariant

pub invariant_of-self : goal.invariant_of-self
invariant_of-self g c = kept_same _ _ _ _ c.self.inside.kept c.put_alone.ensures.declared c.in_err-put.ensures.err_content c.self.invariant
