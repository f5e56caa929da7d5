-- A spot is written into the list at the node, or into a new list there.
use Rattle.std.{proofs.{Common.{◌∙◌, ◌||◌, ap, subst, List, Option, Some}, lemmas.Result.{on_ok_weaker}}, specs.Global.{Vec}}
use Rattle.title_chain.specs.{declared.spot.Spot.{Spot}, PostSpots.{same_spot, is_listed}, SpotMaps.{spots_in}}
use Rattle.title_chain.proofs.Filings.{Lists, Writes, is_there, one_more_under}
use Rattle.title_chain.proofs.filing.file_under.Goals as goal

pub returns-in-Some : goal.returns-in-Some
returns-in-Some c =
    let w = c.push_once.new.list in
    let had = c.in-Some.ensures.value in record {
      filed = on_ok_weaker c.push_once.result
          (λ more. one_more_under c.args.lists.now (c.get_mut.follows.lender w) c.args.number (Some w) c.args.spot
          ((c.get_mut.follows.holds w).3 (is_there _ _ had)).0
          (λ p. more p ∙ ap (λ (o : Option (Vec Spot)). is_listed p (spots_in o) || same_spot p c.args.spot) had))
          c.push_once.ensures.listed;
    }

pub returns : goal.returns
returns c =
    let v = c.push_once-2.new.list in record {
      filed = one_more_under c.args.lists.now c.insert.new.self c.args.number (Some v) c.args.spot
          (subst (λ (m : Lists). Writes m c.insert.new.self c.args.number (Some v)) c.get_mut.follows.holds-at-none
          c.in_ok-insert.ensures.updates.0)
          (λ p. c.in_ok-push_once.ensures.listed p
          ∙ ap (λ (spots : List Spot). is_listed p spots || same_spot p c.args.spot)
          (c.new-list.ensures.items ∙ ap spots_in c.in_default.ensures.value));
    }
