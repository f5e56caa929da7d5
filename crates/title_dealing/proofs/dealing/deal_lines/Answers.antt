use Rattle.std.proofs.{Common.{◌∙◌, Some, length}, lemmas.List.Elements.{All-pop}}
use Rattle.title_dealing.{specs.{Turns.{IsAskedBy}, Dealing.{with_lines_each}}, proofs.DealingLaws.{rest_dealt}}
use Rattle.title_dealing.proofs.dealing.deal_lines.Goals as goal

pub loop-line-preserved : goal.loop-line-preserved
loop-line-preserved c =
    let before = c.loop-line.lines.items in
    let left = c.pop_back.new.self.items in
    let line = c.in-Some.line in
    let hands = c.args.hands.now.items in
    let taken = c.in-Some.ensures.items in
    record {
      many = c.deal_line.ensures.many ∙ c.loop-line.invariant.many;
      asked = (All-pop (IsAskedBy (length hands)) before left (Some line) taken c.loop-line.invariant.asked).0;
      dealt = rest_dealt before left line c.loop-line.hands.items c.deal_line.new.hands.items
          (with_lines_each 1 c.args.lines.now.items hands) taken c.in_ok-deal_line.ensures.dealt c.loop-line.invariant.dealt;
    }
