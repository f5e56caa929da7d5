-- The images left can be let go in their turn, and what they leave is what all of them leave.
use Rattle.std.proofs.Common.{◌≡◌, map, reverse, vec_len}
use Rattle.title_store.specs.{Loans.{IsFirst}, Plants.{SameContent}}
use Rattle.title_desk.specs.Images.{InTurn, without_all}
use Rattle.title_desk.proofs.images.forget_all.Given as goal

abbrev pub invariant-loop-image : goal.invariant-loop-image
invariant-loop-image g l =
    let s = g.S.Store in
    record {
      able : InTurn IsFirst (map s.number (reverse l.images.items)) (s.out l.store);
      declared : s.declared l.store ≡ s.declared l.initial.store;
      content : SameContent (s.content l.initial.store) (s.content l.store);
      gone : without_all (map s.number (reverse l.images.items)) (s.out l.store)
          ≡ without_all (map s.number (reverse l.initial.images.items)) (s.out l.initial.store);
    }

abbrev pub decreases-loop-image : goal.decreases-loop-image
decreases-loop-image g l = vec_len l.images
