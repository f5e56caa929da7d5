-- A post alone: the trees are joined first, then what was put in is at once, and nothing of it can go back.
use Rattle.std.proofs.Common.{◌≡◌, ◌∙◌, ap, subst, sym, true, List}
use Rattle.title_land.specs.{Depth.{depth}, declared.survey.Township.{Township}, Lands.{is_in_plant}}
use Rattle.title_store.specs.Plants.{plant_effect, refused_in}
use Rattle.title_tree_store.specs.{Out.{images}, Forests.{plots}, Keeping.{loans_of}}
use Rattle.title_tree_store.proofs.{CellPaths.{own_ways_apart, own_ways_in_order}, Contents.{for_each}, Keeps.{no_loans}}
use Rattle.title_tree_store.proofs.Stopped.{fails, refused, refused_plant}
use Rattle.title_tree_store.proofs.{Joining.{all_joined, from_joined, joined_none}, Alone.{done_none, done_shows, stopped_same, kept_alone}}
use Rattle.title_tree_store.proofs.tree_store.TreeStoreStore.put_alone.Goals as goal

pub put_alone-requires : goal.put_alone-requires
put_alone-requires c = record {
  there = for_each (λ e. rw (c.tidy.new.self.kept.sized e) c.home_of-home.ensures.there);
  disjoint = rw c.in_ok-paths.ensures.ways (own_ways_apart c.args.tract.now);
  order = rw c.in_ok-paths.ensures.ways (own_ways_in_order c.args.tract.now);
  tidy = from_joined c.tidy.new.self.forest c.tidy.ensures.joined;
}

pub invariant_of-self : goal.invariant_of-self
invariant_of-self c =
    let store = c.tidy.new.self in
    let none = no_loans store.townships (plots store.forest) (images store.lent) c.tidy.ensures.out in
    let within = subst (λ (ts : List Township). is_in_plant ts c.args.tract.now ≡ true) (sym c.tidy.ensures.declared) c.requires.within in
    record {
      once = store.once;
      kept = kept_alone store.townships store.forest c.put_alone.new.self (images store.lent) _ store.kept none c.args.tract.now
          c.args.instrument.now within c.put_alone.ensures.sized c.put_alone.result
          (rw (c.home_of-home.ensures.home, c.in_ok-paths.ensures.ways) at c.put_alone.ensures.settled)
          (rw (c.home_of-home.ensures.home, c.in_ok-paths.ensures.ways) at c.put_alone.ensures.stopped);
      joined = joined_none store.townships c.put_alone.new.self (images store.lent) none c.put_alone.ensures.tidy;
      noted = rw c.put_alone.ensures.written store.noted;
    }

-- ---- a post that is done

pub returns-in-Ok-clause-put : goal.returns-in-Ok-clause-put
returns-in-Ok-clause-put c =
    let store = c.tidy.new.self in
    let none = no_loans store.townships (plots store.forest) (images store.lent) c.tidy.ensures.out in
    let within = subst (λ (ts : List Township). is_in_plant ts c.args.tract.now ≡ true) (sym c.tidy.ensures.declared) c.requires.within in (
      sym (λ k. refused_in depth (c.tidy.ensures.declared k) c.args.instrument.now (λ z. c.tidy.ensures.content z k) c.args.tract.now)
          ∙ done_none store.townships store.forest c.put_alone.new.self (images store.lent) _ store.kept none c.args.tract.now
          c.args.instrument.now within c.put_alone.ensures.sized
          (rw (c.home_of-home.ensures.home, c.in_ok-paths.ensures.ways) at c.in-Ok.ensures.settled),
      all_joined c.put_alone.new.self c.put_alone.ensures.tidy,
    )

pub returns-in-Ok-clause-content : goal.returns-in-Ok-clause-content
returns-in-Ok-clause-content c x =
    let store = c.tidy.new.self in
    let none = no_loans store.townships (plots store.forest) (images store.lent) c.tidy.ensures.out in
    let within = subst (λ (ts : List Township). is_in_plant ts c.args.tract.now ≡ true) (sym c.tidy.ensures.declared) c.requires.within in
    done_shows store.townships store.forest c.put_alone.new.self (images store.lent) _ store.kept none c.args.tract.now
    c.args.instrument.now within c.put_alone.ensures.sized
    (rw (c.home_of-home.ensures.home, c.in_ok-paths.ensures.ways) at c.in-Ok.ensures.settled) x
    ∙ (λ k. plant_effect depth (c.tidy.ensures.declared k) c.args.instrument.now (λ z. c.tidy.ensures.content z k) c.args.tract.now x)

pub returns-in-Ok-clause-out : goal.returns-in-Ok-clause-out
returns-in-Ok-clause-out c = ap (loans_of c.tidy.new.self.townships (plots c.put_alone.new.self))
    (no_loans c.tidy.new.self.townships (plots c.tidy.new.self.forest) (images c.tidy.new.self.lent) c.tidy.ensures.out)

-- ---- one that stopped

pub returns-in-Err-Memory-clause-out : goal.returns-in-Err-Memory-clause-out
returns-in-Err-Memory-clause-out c = ap (loans_of c.tidy.new.self.townships (plots c.put_alone.new.self))
    (no_loans c.tidy.new.self.townships (plots c.tidy.new.self.forest) (images c.tidy.new.self.lent) c.tidy.ensures.out)

pub returns-in-Err-Memory-clause-err_content : goal.returns-in-Err-Memory-clause-err_content
returns-in-Err-Memory-clause-err_content c x =
    let store = c.tidy.new.self in
    let none = no_loans store.townships (plots store.forest) (images store.lent) c.tidy.ensures.out in
    let within = subst (λ (ts : List Township). is_in_plant ts c.args.tract.now ≡ true) (sym c.tidy.ensures.declared) c.requires.within in
    (λ k. stopped_same store.townships store.forest c.put_alone.new.self (images store.lent) _ store.kept none c.args.tract.now
    c.args.instrument.now within c.put_alone.ensures.sized
    (rw (c.home_of-home.ensures.home, c.in_ok-paths.ensures.ways) at c.in-Err-Memory.ensures.stopped) k x) ∙ c.tidy.ensures.content x

pub refusal-rule-requires-clause-fails : goal.refusal-rule-requires-clause-fails
refusal-rule-requires-clause-fails c =
    let store = c.tidy.new.self in
    let none = no_loans store.townships (plots store.forest) (images store.lent) c.tidy.ensures.out in
    let within = subst (λ (ts : List Township). is_in_plant ts c.args.tract.now ≡ true) (sym c.tidy.ensures.declared) c.requires.within in
    let same = stopped_same store.townships store.forest c.put_alone.new.self (images store.lent) _ store.kept none c.args.tract.now
    c.args.instrument.now within c.put_alone.ensures.sized
    (rw (c.home_of-home.ensures.home, c.in_ok-paths.ensures.ways) at c.in-Err-Refused.ensures.stopped) in
    let why = c.in-Err-Refused.ensures.why in
    fails store.townships store.forest c.put_alone.new.self c.args.tract.now c.args.instrument.now same store.kept store.once within why.0 _
    (rw (c.in-Err-Refused.field-0-is, c.home_of-home.ensures.home, c.in_ok-paths.ensures.ways) at why.1)

pub returns-in-Err-Refused-clause-put : goal.returns-in-Err-Refused-clause-put
returns-in-Err-Refused-clause-put c =
    let store = c.tidy.new.self in
    let none = no_loans store.townships (plots store.forest) (images store.lent) c.tidy.ensures.out in
    let within = subst (λ (ts : List Township). is_in_plant ts c.args.tract.now ≡ true) (sym c.tidy.ensures.declared) c.requires.within in
    let same = stopped_same store.townships store.forest c.put_alone.new.self (images store.lent) _ store.kept none c.args.tract.now
    c.args.instrument.now within c.put_alone.ensures.sized
    (rw (c.home_of-home.ensures.home, c.in_ok-paths.ensures.ways) at c.in-Err-Refused.ensures.stopped) in (
      sym (λ k. refused_in depth (c.tidy.ensures.declared k) c.args.instrument.now (λ z. c.tidy.ensures.content z k) c.args.tract.now)
          ∙ refused store.townships store.forest c.put_alone.new.self c.args.tract.now c.args.instrument.now same _
          c.refusal-rule.ensures.refused,
      λ x. (λ k. same k x) ∙ c.tidy.ensures.content x,
    )

pub returns-in-Err-Refused-clause-content : goal.returns-in-Err-Refused-clause-content
returns-in-Err-Refused-clause-content c x =
    let store = c.tidy.new.self in
    let none = no_loans store.townships (plots store.forest) (images store.lent) c.tidy.ensures.out in
    let within = subst (λ (ts : List Township). is_in_plant ts c.args.tract.now ≡ true) (sym c.tidy.ensures.declared) c.requires.within in
    let same = stopped_same store.townships store.forest c.put_alone.new.self (images store.lent) _ store.kept none c.args.tract.now
    c.args.instrument.now within c.put_alone.ensures.sized
    (rw (c.home_of-home.ensures.home, c.in_ok-paths.ensures.ways) at c.in-Err-Refused.ensures.stopped) in
    refused_plant store.townships store.forest c.put_alone.new.self c.args.tract.now c.args.instrument.now same _
    c.refusal-rule.ensures.refused x
    ∙ (λ k. plant_effect depth (c.tidy.ensures.declared k) c.args.instrument.now (λ z. c.tidy.ensures.content z k) c.args.tract.now x)

pub returns-in-Err-Refused-clause-out : goal.returns-in-Err-Refused-clause-out
returns-in-Err-Refused-clause-out c = ap (loans_of c.tidy.new.self.townships (plots c.put_alone.new.self))
    (no_loans c.tidy.new.self.townships (plots c.tidy.new.self.forest) (images c.tidy.new.self.lent) c.tidy.ensures.out)
