-- How the program's command is built: each step adds to what the one before came to.
use Rattle.std.specs.Prelude.{◌≡◌, false, [], Result, IfOk}
use Rattle.clap.specs.{Simple.{App, Shape, app_of}, declared.builder.command.Command.{Command, TheViews.{out-Command}}}

-- a command without subcommands
abbrev pub leaf_of : Shape → App
leaf_of s = record { top = s; subs = [] }

-- where there was memory for it, what was built is that command, and none of its arguments goes on into subcommands
abbrev pub IsApp : {E : Type 0} → App → Result Command E → Type 0
IsApp a r = IfOk r (λ c. (app_of c ≡ a) × ((out-Command c).has_globals ≡ false))
