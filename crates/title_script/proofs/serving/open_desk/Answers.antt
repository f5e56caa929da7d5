use Rattle.std.{proofs.{Common.{◌≡◌, ◌∙◌, ℕ, List, IfOk, ap₂, arith, subst, sym}, lemmas.List.{length-map}}, specs.String.{string_bytes}}
use Rattle.title_land.specs.declared.survey.Township.{Township}
use Rattle.title_trace.specs.Due.{MayOpen, Setting}
use Rattle.title_script.proofs.serving.open_desk.Goals as goal

pub overflow_cast-parties : goal.overflow_cast-parties
overflow_cast-parties g c = omega (arith, c.len-parties.ensures.len, c.requires.opens.1)

pub open-requires : goal.open-requires
open-requires g c = record {
  may_open = subst (λ (ts : List Township). MayOpen c.len-parties.result ts) (sym c.as_slice.ensures.value)
      (subst (λ (n : ℕ). MayOpen n c.args.plan.now.townships.items) (sym c.len-parties.ensures.len) c.requires.opens);
}

pub returns : goal.returns
returns g c =
    let count = c.len-parties.ensures.len ∙ sym (length-map c.args.plan.now.parties.keys string_bytes) in
    let same = ap₂ (λ (n : ℕ) (ts : List Township). record { parties = n; townships = ts }) count c.as_slice.ensures.value in
    record {
      setting = subst (λ (s : Setting). IfOk c.open.result (λ d. d.setting ≡ s)) same c.open.ensures.setting;
      trace = c.open.ensures.trace;
    }
