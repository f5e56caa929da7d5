-- Whether joining a plot's quarters changes it.
use Rattle.std.specs.Prelude.{Bool, false, ◌&&◌}
use Rattle.title_tree.specs.Plots.{Plot, Same, Four, same_leaf}

-- its quarters are leaves that have the same division
abbrev pub is_joinable : Plot → Bool
is_joinable (Same held) = false
is_joinable (Four a b c d) = same_leaf a b && same_leaf a c && same_leaf a d
