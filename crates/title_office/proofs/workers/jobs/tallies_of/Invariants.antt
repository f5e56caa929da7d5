-- The tallies so far are those of the scripts passed.
use Rattle.std.proofs.Common.{◌≡◌, ◌+◌, map, take, vec_len}
use Rattle.title_office.proofs.workers.jobs.tallies_of.Given as goal

abbrev pub invariant-loop-script : goal.invariant-loop-script
invariant-loop-script l = record {
  left : map (λ t. t.left) l.tallies.items ≡ map (λ s. vec_len s.transactions) (take l.script-index l.scripts);
  empty : map (λ t. vec_len t.outcomes + t.aborted + t.given_up) l.tallies.items ≡ map (λ _. 0) (take l.script-index l.scripts);
}
