-- Shares in texts, and those of some texts.
use Rattle.std.proofs.Common.{refl}
use Rattle.title_share.specs.Laws.Texts.{shares_read}
use Rattle.title_share.proofs.laws.shares_are_read.Goals as goal

pub returns-clause-law : goal.returns-clause-law
returns-clause-law c = shares_read

pub returns-clause-texts : goal.returns-clause-texts
returns-clause-texts c = record {
  half = refl;
  two_quarters = refl;
  whole = refl;
  least = refl;
  below_least = refl;
  nothing = refl;
  above_whole = refl;
  leading_zero = refl;
  third = refl;
  no_number_above = refl;
  two_lines = refl;
}
