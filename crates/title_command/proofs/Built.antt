-- What was built is the command that was wanted.
use Rattle.std.{proofs.Common.{◌≡◌}, specs.Prelude.{Result, Ok, Err, IfOk}}
use Rattle.clap.specs.{Simple.{App, app_of}, declared.builder.command.Command.{Command}}
use Rattle.title_command.specs.Building.{IsApp}

pub built_is : {E : Type 0} (a : App) (r : Result Command E) → IsApp a r → IfOk r (λ c. app_of c ≡ a)
built_is a (Ok c) is = is.0
built_is a (Err e) is = is
