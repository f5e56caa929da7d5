-- It is the other, or what it is a quarter of lies in the other.
use Rattle.std.proofs.{Common.{◌∙◌, ap, sym}, lemmas.Bool.{eqb-false, eqb-true}}
use Rattle.title_land.specs.{Paths.{path_number}, Laws.PathNumbers.{path_number-is}}
use Rattle.title_land.proofs.Nestings.{lies_below, lies_where_apart, lies_where_same}
use Rattle.title_land.proofs.node.Within.+lies_in.Goals as goal

pub returns-then-eq : goal.returns-then-eq
returns-then-eq t c = record {
  lies = lies_where_same c.args.other c.args.self
      (path_number-is c.args.self c.args.other (eqb-true _ _ (sym c.eq.ensures ∙ c.if-eq.true)));
}

pub returns-in-Some : goal.returns-in-Some
returns-in-Some t c = record {
  lies = c.lies_in.ensures.lies ∙ sym (ap (lies_below c.args.other) c.in-Some.ensures.split)
      ∙ lies_where_apart c.args.other c.args.self
      (λ same. eqb-false _ _ (sym c.eq.ensures ∙ c.if-eq.false) (ap path_number same));
}
