-- The viewers so far, and room for the rest.
use Rattle.std.proofs.Common.{◌≡◌, ◌≤◌, replicate, vec_capacity}
use Rattle.title_office.specs.Offices.{sight_on}
use Rattle.title_office.proofs.opening_on.viewers_on.Given as goal

abbrev pub invariant-loop-before : goal.invariant-loop-before
invariant-loop-before g l = record {
  viewers : l.all.items ≡ replicate l._before (sight_on l.number l.fronts);
  room : l.viewers ≤ vec_capacity l.all;
}
