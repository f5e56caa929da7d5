-- One word more.
use Rattle.std.proofs.{Common.{◌∙◌, ◌+◌, ◌*◌, ℕ, List, ap, drop, map, subst, sym}, lemmas.List.{drop-map, take_rest}}
use Rattle.std.specs.String.{string_bytes}
use Rattle.title_report.{specs.Rosters.{AreJudged, IsJudged}, proofs.Judged.{one_word_more}}
use Rattle.title_report.proofs.roster.judge.Goals as goal

pub loop-word-preserved : goal.loop-word-preserved
loop-word-preserved c =
    let names = map string_bytes c.args.names.now in
    let words = c.loop-word.words.items in
    let from = c.loop-word.word in
    let rest = ap (map string_bytes) (take_rest c.args.names.now (from * 64))
    ∙ sym (drop-map string_bytes (from * 64) c.args.names.now)
    ∙ ap (λ (n : ℕ). drop (n * 64) names) (sym c.loop-word.invariant.1) in
    let judged = subst (λ (ns : List (List ℕ)). IsJudged ns c.judge_word.result) rest c.judge_word.ensures.judged in (
      subst (λ (ws : List ℕ). AreJudged names ws) (sym c.in-Ok.ensures.ok)
          (one_word_more names words c.judge_word.result c.loop-word.invariant.0 judged),
      c.in-Ok.ensures.len ∙ ap (λ (n : ℕ). n + 1) c.loop-word.invariant.1,
    )
