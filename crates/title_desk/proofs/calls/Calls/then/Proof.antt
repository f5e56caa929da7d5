-- `then` has the calls of before, and one more. Assumes `Logic`.
use Rattle.std.proofs.{Common.{List, [], ◌∷◌, ◌++◌, refl}, raw_atomic.Walks.{proved_at}}
use mir.Val.{Val, vptr}
use base.Logic.{SProp}
use prog.Wp.{WpFn}
use contract.Running.{tables}
use types.Kit.{‵, raw, ◌⊛◌, prop, ◌$◌, ◌∵◌, !, qed, move, keep, drop, split, fsplit, fjoin, feq_l, regoal, suffices, done}
use types.Part.{agg}
use types.Run.{enter, returns, no_more}
use types.ByLocal.{alloc_all, pass_all, free_all, look_at, sets}
use denote.Exit.{yes}
use denote.RattleType.{owns}
use denote.Builtin.{RefOf}
use denote.Signature.{plain, types_at}
use denote.Steps.{nothing}
use denote.Triple.Entry.{alive}
use denote.Triple.Walked.{says, Stays, stay_dropped, walk_of, ends_at, Goes-dropped}
use Rattle.title_desk.{proofs.Walks.{none, none_made}, specs.contracts.calls.Calls.then.Key.{name as #self}}
use Rattle.title_desk.specs.contracts.calls.Calls as Calls
use Rattle.title_trace.specs.contracts.call.Request as Request
use Rattle.title_trace.specs.contracts.call.Reply as Reply
use Rattle.title_desk.{specs.contracts.calls.Calls.then.{ended, clauses}, proofs.calls.Calls.then.Statement.{statement}}
use Rattle.title_desk.proofs.calls.Calls.then.Code as code

abbrev stayed : Stays ended.signature.params ended.kept
stayed = (stay_dropped _ yes, (stay_dropped _ yes, (stay_dropped _ yes, tt)))

pub then_spec : {M : Type 1} → statement M
then_spec 𝓤 𝓛 𝓜 𝓡 wired =
    let held = clauses 𝓛 𝓜.mem 𝓡.returns in
    let 𝓣 = tables 𝓤 𝓛.H 𝓜 𝓡 𝓡.env in
    proved_at 𝓛 ended stayed held 𝓜 𝓡 (
      Goes-dropped 𝓛 3 (RefOf (0 ∷ []) tt (plain (λ _. Calls.the_row)) (λ _. tt)) yes (λ κs x f. refl),
      (
        Goes-dropped 𝓛 3 (RefOf (1 ∷ []) tt (plain (λ _. Request.the_row)) (λ _. tt)) yes (λ κs x f. refl),
        (Goes-dropped 𝓛 3 (RefOf (2 ∷ []) tt (plain (λ _. Reply.the_row)) (λ _. tt)) yes (λ κs x f. refl), tt),
      ),
    ) #self code.function (code.unfolded 𝓤 𝓛.H 𝓜 𝓡 wired) (λ z _.
    let a = z.0.3 in
    let vss = z.0.4 in
    let Post : Val → SProp 𝓤 = (walk_of 𝓛 ended stayed held).post z in
    let u : Val = vptr a.0.ref_ptr.0 a.0.ref_ptr.1 in
    let v : Val = vptr a.1.0.ref_ptr.0 a.1.0.ref_ptr.1 in
    let w : Val = vptr a.1.1.0.ref_ptr.0 a.1.1.0.ref_ptr.1 in
    let made : (Calls.the_row).Denot = record { list = record { request = a.1.0.now; reply = a.1.1.0.now } ∷ a.0.now.list } in
    let toks = alive 𝓛 ended.signature z.0.0 z.0.1 in
    qed 𝓛 ((raw toks ⊛ ‵ (owns (types_at ended.signature.params z.0.0) a vss)) ∷ raw ((held z.0.0 a).requires z.1) ∷ []) ∵
    keep ! (0 ∷ []) $ split ! $ move ! (1 ∷ []) $ fsplit ! $ fsplit ! $ feq_l ! (λ is₀. drop ! $
    fsplit ! $ fsplit ! $ feq_l ! (λ is₁. drop ! $
    fsplit ! $ fsplit ! $ feq_l ! (λ is₂. drop ! $ drop ! $
    regoal ! (λ (us : List Val). prop (WpFn 𝓤 𝓛.H 𝓣.C 𝓣.Λ code.function (us ++ (vss.1.0 ++ (vss.1.1.0 ++ []))) Post)) is₀ refl $
    regoal ! (λ (us : List Val). prop (WpFn 𝓤 𝓛.H 𝓣.C 𝓣.Λ code.function ((u ∷ []) ++ (us ++ (vss.1.1.0 ++ []))) Post)) is₁ refl $
    regoal ! (λ (us : List Val). prop (WpFn 𝓤 𝓛.H 𝓣.C 𝓣.Λ code.function ((u ∷ []) ++ ((v ∷ []) ++ (us ++ []))) Post)) is₂ refl $
    enter ! 𝓣.C 𝓣.Λ code.function (u ∷ v ∷ w ∷ []) Post $
    alloc_all ! (λ l. pass_all ! refl ((tt, tt), ((tt, tt), ((tt, tt), tt))) $
    sets ! (agg ! (no_more !)) refl (tt, tt) $
    nothing ! $ none_made ! $ fjoin ! $
    returns ! (look_at ! 0 refl) $ free_all ! refl $
    suffices ! _ (ends_at 𝓛 ended stayed held z none made (tt, (tt, (tt, tt))) (tt, (tt, (tt, tt)))) $ says ! refl $
    nothing ! $ nothing ! $ fjoin ! $ nothing ! $ fjoin ! $ nothing ! $ fjoin ! $ move ! (2 ∷ 0 ∷ 1 ∷ []) $ done !)))))
