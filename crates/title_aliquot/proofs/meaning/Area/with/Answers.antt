-- One more rectangle.
use Rattle.std.proofs.Common.{◌||◌, Bool, ap}
use Rattle.title_land.specs.Depth.{depth}
use Rattle.title_aliquot.proofs.Areas.{area_next}
use Rattle.title_aliquot.proofs.meaning.Area.with.Goals as goal

pub returns : goal.returns
returns c = record {
  with = λ shapes is. area_next depth c.args.shape shapes c.args.self c.nothing.result _ c.with-alone.result c.requires.inside is
      c.nothing.ensures.nothing c.with-alone.ensures.with c.with.ensures.with
      (ap (λ (b : Bool). b || c.args.self.overlap) c.meets.ensures.meets);
}
