-- Numbers in texts, and those of some texts.
use Rattle.std.proofs.Common.{refl}
use Rattle.title_share.specs.Laws.Texts.{numbers_read}
use Rattle.title_share.proofs.laws.numbers_are_read.Goals as goal

pub returns-clause-law : goal.returns-clause-law
returns-clause-law c = numbers_read

pub returns-clause-texts : goal.returns-clause-texts
returns-clause-texts c = record { one = refl; ten = refl; nothing = refl; leading_zero = refl; sign = refl; empty = refl }
