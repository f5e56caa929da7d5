-- No row so far is the party's.
use Rattle.std.proofs.Common.{◌≡◌, drop}
use Rattle.title_share.specs.Rows.{units_in}
use Rattle.title_share.proofs.holding.units_among.Given as goal

abbrev pub invariant-loop-row : goal.invariant-loop-row
invariant-loop-row l = units_in l.party l.rows ≡ units_in l.party (drop l.row-index l.rows)
