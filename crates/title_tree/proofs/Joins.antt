-- Where quarters aren't leaves that have the same division, joining changes nothing.
use Rattle.std.proofs.Common.{◌≡◌, false, cond, refl, sym}
use Rattle.title_tree.specs.{Joins.{is_joinable}, Plots.{Plot, Same, Four, joined}}

pub not_joined : (t : Plot) → is_joinable t ≡ false → t ≡ joined t
not_joined (Same held) h = refl
not_joined (Four a b c d) h = λ i. cond (sym h i) a (Four a b c d)
