-- What the rows so far give the party.
use Rattle.std.proofs.Common.{◌≡◌, ◌<◌, ◌^◌, take}
use Rattle.title_plat.specs.NetAcres.{net_units}
use Rattle.title_plat.proofs.acres.net_units.Given as goal

abbrev pub invariant-loop-row : goal.invariant-loop-row
invariant-loop-row l = record {
  fits : l.sum < 2 ^ 64;
  sum : l.sum ≡ net_units l.townships l.party l.estate (take l.row-index l.rows);
}
