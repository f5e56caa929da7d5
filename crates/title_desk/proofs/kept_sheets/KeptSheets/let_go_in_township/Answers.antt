-- One section more, and at last the township and the plant.
use Rattle.std.proofs.Common.{◌≡◌, ℕ, refl, subst, arith}
use Rattle.title_land.specs.declared.survey.Section.{Section}
use Rattle.title_desk.proofs.Homes.{AreSwept, none_swept, swept_more, outside_more, township_left, township_others}
use Rattle.title_desk.proofs.kept_sheets.KeptSheets.let_go_in_township.Goals as goal

pub loop-number-init : goal.loop-number-init
loop-number-init c = record { swept = none_swept c.args.township c.args.self.now; outside = λ n far. refl }

pub loop-number-preserved : goal.loop-number-preserved
loop-number-preserved c =
    let s : Section = record {
      township = c.args.township;
      number = c.loop-number.number;
      numbered = (c.loop-number.auto.number, c.loop-number-test.true);
    } in
    let gone = rw c.node.ensures.node at c.drop_home.ensures.gone in
    record {
      swept = swept_more s c.args.self.now c.loop-number.self c.drop_home.new.self c.loop-number.invariant.swept gone;
      outside = outside_more s c.args.self.now c.loop-number.self c.drop_home.new.self c.loop-number.invariant.outside gone;
    }

pub returns : goal.returns
returns c =
    let last : c.loop-number.number ≡ 37 = omega arith in
    let swept = subst (λ (n : ℕ). AreSwept c.args.township n c.args.self.now c.loop-number.self) last c.loop-number.invariant.swept in
    record {
      left = township_left c.args.township c.args.self.now c.loop-number.self c.drop_home-2.new.self c.drop_home-3.new.self swept
          c.drop_home-2.ensures.gone c.drop_home-3.ensures.gone;
      others = township_others c.args.township c.args.self.now c.loop-number.self c.drop_home-2.new.self c.drop_home-3.new.self
          c.loop-number.invariant.outside c.drop_home-2.ensures.gone c.drop_home-3.ensures.gone;
    }
