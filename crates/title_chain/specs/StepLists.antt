-- Steps of transactions as they are kept.
use Rattle.std.specs.Prelude.{List, [], ◌∷◌}
use Rattle.title_chain.specs.declared.{ask.Step.{Step}, lists.KeptSteps.{KeptSteps, TheVariants.{One, Many}}}

-- the steps, however they are kept
abbrev pub steps_in : KeptSteps → List Step
steps_in (One step) = step ∷ []
steps_in (Many steps) = steps.items
