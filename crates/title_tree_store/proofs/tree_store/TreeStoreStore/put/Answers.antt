-- A put that is refused leaves all as it was; one that is done lends what the tract's cells held.
use Rattle.std.proofs.Common.{◌≡◌, ◌∙◌, ◌++◌, ◌∷◌, [], suc, ap, sym, inl, arith, length}
use Rattle.title_store.specs.Plants.{Plant}
use Rattle.title_tree_store.specs.{declared.lent.Lent.{Lent}, Out.{images}}
use Rattle.title_tree_store.proofs.{CellPaths.{is_there, own_ways_apart}, Contents.{each, for_each, everywhere}}
use Rattle.title_tree_store.proofs.Puts.{IsDone, done_from, made_goes, put_shows, put_takes, kept_put, refused_none}
use Rattle.title_tree_store.proofs.{Joining.{joined_stopped, joined_put}, Keeps.{kept_stopped}, Steps.{homes_noted, noted_anyway}}
use Rattle.title_tree_store.proofs.Stopped.{same_plant, same_loans, fails, refused, refused_plant}
use Rattle.title_tree_store.proofs.tree_store.TreeStoreStore.put.Goals as goal

pub changed-requires : goal.changed-requires
changed-requires c = record {
  there = for_each (λ e. rw (c.args.self.now.kept.sized e) c.home_of-home.ensures.there);
  disjoint = rw c.in_ok-paths.ensures.ways (own_ways_apart c.args.tract.now);
}

pub exchange-requires : goal.exchange-requires
exchange-requires c =
    let store = c.args.self.now in
    let split = each c.changed.ensures.split.split in
    let made = c.in-Ok.ensures.made in
    record {
      there = for_each (λ e. rw ((split e).sized ∙ store.kept.sized e) c.home_of-home.ensures.there);
      all = for_each (λ e. rw (split e).sized (made.all e));
      wanted = for_each (λ e. made.wanted e);
      goes = for_each (λ e. rw c.home_of-home.ensures.home (everywhere (sym ((split e).sized ∙ store.kept.sized e)) (made_goes
          store.townships c.args.tract.now
          c.args.instrument.now store.kept.sized
          (rw (c.home_of-home.ensures.home, c.in_ok-paths.ensures.ways) at made) e)));
    }

-- ---- a put that is done

done : (c : goal.After-add-number) → IsDone c.args.self.now.townships c.args.tract.now c.args.instrument.now c.args.self.now.forest
    c.exchange.new.self c.exchange.new.parts
done c =
    let place = c.home_of-home.ensures.home in
    let ways = c.in_ok-paths.ensures.ways in
    done_from c.args.self.now.kept.sized (rw (place, ways) at c.in-Ok.ensures.made) (rw (place, ways) at c.changed.ensures.split)
    (rw (place, ways) at c.in-Ok.ensures.noted) c.exchange.ensures.written (λ e. rw place at (each c.exchange.ensures.exchanged e))

abbrev image : goal.After-add-number → Lent
image c = record { number = c.args.self.now.lent.next; land = c.args.tract.now; trees = c.exchange.new.parts }

out : (c : goal.After-add-number) → images c.add-number.new.self ≡ images c.args.self.now.lent ++ image c ∷ []
out c = c.add-number.ensures.images ∙ (λ i. c.reserve.ensures.images i ++ record {
  number = c.reserve.ensures.next i;
  land = c.in_ok-land.ensures.copy i;
  trees = c.exchange.new.parts;
} ∷ [])

pub invariant_of-self-in-Ok : goal.invariant_of-self-in-Ok
invariant_of-self-in-Ok c =
    let store = c.args.self.now in
    let more : c.add-number.new.self.next ≡ suc store.lent.next = omega (arith, c.add-number.ensures.next, c.reserve.ensures.next) in
    record {
      once = store.once;
      kept = rw (out c, more) (kept_put store.kept c.args.tract.now c.args.instrument.now c.requires.within (done c));
      joined = rw (out c) (joined_put (image c) store.kept.sized (done c) store.joined);
      noted = homes_noted (length store.townships) (inl (done c).noted) (is_there store.townships c.args.tract.now c.requires.within)
          store.noted;
    }

pub returns-in-Ok-clause-put : goal.returns-in-Ok-clause-put
returns-in-Ok-clause-put c =
    let store = c.args.self.now in (
      refused_none store.kept c.args.tract.now c.args.instrument.now c.requires.within (done c.before),
      rw (c.add-number.ensures.number ∙ c.reserve.ensures.next, out c.before)
          (put_takes store.kept c.args.tract.now c.args.instrument.now c.requires.within (done c.before)),
    )

pub returns-in-Ok-clause-content : goal.returns-in-Ok-clause-content
returns-in-Ok-clause-content c x = put_shows c.args.self.now.kept c.args.tract.now c.args.instrument.now c.requires.within (done c.before) x

-- ---- one that stopped

pub invariant_of-self-in-Err-1 : goal.invariant_of-self-in-Err-1
invariant_of-self-in-Err-1 c =
    let store = c.args.self.now in
    let noted = noted_anyway c.changed.result c.changed.ensures.noted c.changed.ensures.err_noted in
    record {
      once = store.once;
      kept = rw (c.reserve.ensures.images, c.reserve.ensures.next) (kept_stopped c.args.tract.now
          (rw (c.home_of-home.ensures.home, c.in_ok-paths.ensures.ways) at c.changed.ensures.split) store.kept);
      joined = rw c.reserve.ensures.images (joined_stopped c.changed.ensures.split noted store.joined);
      noted = homes_noted (length store.townships) noted c.home_of-home.ensures.there store.noted;
    }

pub returns-in-Err-Memory-clause-err_content : goal.returns-in-Err-Memory-clause-err_content
returns-in-Err-Memory-clause-err_content c x =
    let store = c.args.self.now in
    ap (λ (p : Plant). p x) (same_plant store.townships store.forest c.changed.new.self (images store.lent) _ store.kept c.args.tract.now
    c.args.instrument.now (rw (c.home_of-home.ensures.home, c.in_ok-paths.ensures.ways) at c.changed.ensures.split))

pub returns-in-Err-Memory-clause-err_out : goal.returns-in-Err-Memory-clause-err_out
returns-in-Err-Memory-clause-err_out c =
    let store = c.args.self.now in
    rw c.reserve.ensures.images (same_loans store.townships store.forest c.changed.new.self (images store.lent) _ store.kept
    c.args.tract.now c.args.instrument.now (rw (c.home_of-home.ensures.home, c.in_ok-paths.ensures.ways) at c.changed.ensures.split))

pub refusal-rule-requires-clause-fails : goal.refusal-rule-requires-clause-fails
refusal-rule-requires-clause-fails c =
    let store = c.args.self.now in
    let why = c.in-Err-Refused.ensures.why in
    fails store.townships store.forest c.changed.new.self c.args.tract.now c.args.instrument.now
    (same_plant store.townships store.forest c.changed.new.self (images store.lent) _ store.kept
    c.args.tract.now c.args.instrument.now (rw (c.home_of-home.ensures.home, c.in_ok-paths.ensures.ways) at c.changed.ensures.split))
    store.kept store.once c.requires.within why.0 _
    (rw (c.in-Err-Refused.field-0-is, c.home_of-home.ensures.home, c.in_ok-paths.ensures.ways) at why.1)

pub returns-clause-put : goal.returns-clause-put
returns-clause-put c =
    let store = c.args.self.now in
    let split = rw (c.home_of-home.ensures.home, c.in_ok-paths.ensures.ways) at c.changed.ensures.split in (
      refused store.townships store.forest c.changed.new.self c.args.tract.now c.args.instrument.now
          (same_plant store.townships store.forest c.changed.new.self (images store.lent) _ store.kept c.args.tract.now
          c.args.instrument.now split) _ c.refusal-rule.ensures.refused,
      rw c.reserve.ensures.images (same_loans store.townships store.forest c.changed.new.self (images store.lent) _ store.kept
          c.args.tract.now c.args.instrument.now split),
    )

pub returns-clause-content : goal.returns-clause-content
returns-clause-content c =
    let store = c.args.self.now in
    refused_plant store.townships store.forest c.changed.new.self c.args.tract.now c.args.instrument.now
    (same_plant store.townships store.forest c.changed.new.self (images store.lent) _ store.kept
    c.args.tract.now c.args.instrument.now (rw (c.home_of-home.ensures.home, c.in_ok-paths.ensures.ways) at c.changed.ensures.split))
    _ c.refusal-rule.ensures.refused
