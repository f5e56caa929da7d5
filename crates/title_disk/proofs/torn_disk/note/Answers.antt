use Rattle.std.proofs.Common.{refl}
use Rattle.title_disk.proofs.torn_disk.note.Goals as goal

pub returns-clause-ok : goal.returns-clause-ok
returns-clause-ok c = record {
  kept = record { call = c.args.asked; before = c.in_ok-before.before };
  call_is = refl;
  before_is = c.in_ok-before.ensures.items_if_clones_equal (λ x y e. e);
  calls_are = c.in_ok-push.ensures.items;
}
