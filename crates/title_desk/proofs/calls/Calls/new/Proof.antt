-- `new` has no calls. Assumes `Logic`.
use Rattle.std.proofs.{Common.{[], ◌∷◌, refl}, raw_atomic.Walks.{proved_at}}
use contract.Running.{tables}
use types.Kit.{‵, raw, ◌⊛◌, ◌$◌, ◌∵◌, !, qed, move, keep, drop, split, fjoin, suffices, done}
use types.Part.{agg}
use types.Run.{enter, returns, no_more}
use types.ByLocal.{alloc_all, pass_all, free_all, look_at, sets}
use denote.RattleType.{owns}
use denote.Signature.{types_at}
use denote.Steps.{nothing}
use denote.Triple.Entry.{alive}
use denote.Triple.Walked.{says, Stays, walk_of, ends_at}
use Rattle.title_desk.{proofs.Walks.{none, none_made}, specs.contracts.calls.Calls.new.Key.{name as #self}}
use Rattle.title_desk.specs.contracts.calls.Calls as Calls
use Rattle.title_desk.{specs.contracts.calls.Calls.new.{ended, clauses}, proofs.calls.Calls.new.Statement.{statement}}
use Rattle.title_desk.proofs.calls.Calls.new.Code as code

abbrev stayed : Stays ended.signature.params ended.kept
stayed = tt

pub new_spec : {M : Type 1} → statement M
new_spec 𝓤 𝓛 𝓜 𝓡 wired =
    let held = clauses 𝓛 𝓜.mem 𝓡.returns in
    let 𝓣 = tables 𝓤 𝓛.H 𝓜 𝓡 𝓡.env in
    proved_at 𝓛 ended stayed held 𝓜 𝓡 tt #self code.function (code.unfolded 𝓤 𝓛.H 𝓜 𝓡 wired) (λ z _.
    let toks = alive 𝓛 ended.signature z.0.0 z.0.1 in
    let made : (Calls.the_row).Denot = record { list = [] } in
    qed 𝓛 ((raw toks ⊛ ‵ (owns (types_at ended.signature.params z.0.0) z.0.3 z.0.4)) ∷ raw ((held z.0.0 z.0.3).requires z.1) ∷ []) ∵
    keep ! (0 ∷ []) $ split ! $ move ! (1 ∷ []) $ drop ! $
    enter ! 𝓣.C 𝓣.Λ code.function [] ((walk_of 𝓛 ended stayed held).post z) $ alloc_all ! (λ l. pass_all ! refl tt $
    sets ! (agg ! (no_more !)) refl (tt, tt) $
    nothing ! $ none_made ! $ fjoin ! $
    returns ! (look_at ! 0 refl) $ free_all ! refl $
    suffices ! _ (ends_at 𝓛 ended stayed held z none made tt tt) $ says ! refl $
    nothing ! $ move ! (2 ∷ 0 ∷ 1 ∷ []) $ done !))
