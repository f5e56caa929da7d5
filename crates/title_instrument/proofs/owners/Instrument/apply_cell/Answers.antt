-- An estate that isn't named stays.
use Rattle.std.proofs.Common.{rules}
use Rattle.title_instrument.specs.{Effect.{cell_effect}, Laws.EffectLaws.{unnamed_in}}
use Rattle.title_instrument.proofs.owners.Instrument.apply_cell.Goals as goal

pub returns-clause-effect : goal.returns-clause-effect
unfolding cell_effect
returns-clause-effect c = search rules

pub returns-clause-unnamed : goal.returns-clause-unnamed
returns-clause-unnamed c = unnamed_in _ _ _ (returns-clause-effect c)
