-- The images left can go back in their turn, and what they leave is what all of them leave.
use Rattle.std.proofs.Common.{◌≡◌, map, reverse, vec_len}
use Rattle.title_store.specs.{Loans.{IsLast}, Plants.{Plant}}
use Rattle.title_desk.specs.Images.{InTurn, IsRestored, without_all}
use Rattle.title_desk.proofs.images.restore_all.Given as goal

abbrev pub invariant-loop-image : goal.invariant-loop-image
invariant-loop-image g l =
    let s = g.S.Store in
    record {
      able : InTurn IsLast (map s.number (reverse l.images.items)) (s.out l.store);
      declared : s.declared l.store ≡ s.declared l.initial.store;
      content : (q : Plant) → IsRestored (s.declared l.initial.store) (map s.number (reverse l.images.items)) (s.out l.store)
          (s.content l.store) q →
          IsRestored (s.declared l.initial.store) (map s.number (reverse l.initial.images.items)) (s.out l.initial.store)
          (s.content l.initial.store) q;
      gone : without_all (map s.number (reverse l.images.items)) (s.out l.store)
          ≡ without_all (map s.number (reverse l.initial.images.items)) (s.out l.initial.store);
    }

abbrev pub decreases-loop-image : goal.decreases-loop-image
decreases-loop-image g l = vec_len l.images
