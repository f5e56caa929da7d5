-- What a post of a township leaves, whatever its estates.
use Rattle.std.proofs.Common.{◌≡◌, ◌∙◌, subst, sym}
use Rattle.title_land.specs.{Lands.{home_of}, declared.{survey.Township.{Township}, tract.Land.{Land}}}
use Rattle.title_land.specs.declared.node.Node.TheVariants as node
use Rattle.title_land.specs.declared.tract.Land.TheVariants as land
use Rattle.title_desk.specs.Shown.{SameOutside}
use Rattle.title_desk.proofs.kept_sheets.KeptSheets.let_go.Goals as goal

-- only a township's tract has it as home
town_of : (l : Land) (t : Township) → home_of l ≡ node.Township t → l ≡ land.Township t
town_of land.Everything t e = absurd cc
town_of (land.Township s) t e = cc
town_of (land.Part s g) t e = absurd cc

pub returns-in-Township-clause-left : goal.returns-in-Township-clause-left
returns-in-Township-clause-left c ts before after outside same are = c.let_go_in_township.ensures.left c.args.estates ts before after
    (subst (λ (l : Land). SameOutside ts l before after)
    (town_of c.args.tract.now c.in-Township.township (sym c.home.ensures.home ∙ c.in-Township.is)) outside) same are
