use Rattle.std.proofs.{Common.{◌≡◌, length}, lemmas.Result.{IfOk-weaker}}
use Rattle.title_dealing.{specs.Dealing.{AreDealt}, proofs.DealingLaws.{all_told}}
use Rattle.title_dealing.proofs.dealing.deal.Goals as goal

pub returns : goal.returns
returns c =
    let r = c.scripts_of.result in
    let lines = c.args.lines.now.items in
    let hands = c.deal_lines.new.hands.items in
    let all = IfOk-weaker r _ (λ scripts. AreDealt lines 1 scripts.items × (length scripts.items ≡ c.args.examiners))
    (λ scripts told. all_told lines c.args.examiners c.in_ok-hands.hands.items hands scripts.items c.in_ok-hands.ensures.empty
    c.in_ok-deal_lines.ensures.dealt c.deal_lines.ensures.many told)
    c.scripts_of.ensures.told in
    record {
      many = IfOk-weaker r _ _ (λ scripts both. both.1) all;
      dealt = IfOk-weaker r _ _ (λ scripts both. both.0) all;
    }
