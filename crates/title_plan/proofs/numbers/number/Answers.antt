use Rattle.std.proofs.Common.{◌∙◌, sym}
use Rattle.title_plan.proofs.numbers.number.Goals as goal
use Rattle.title_plan.specs.Laws.Names.{position_name}

pub returns-in-Some : goal.returns-in-Some
returns-in-Some c = record {
  number = sym (position_name c.args.name.now c.args.parties.now.keys ∙ sym c.get_index_of.ensures.index ∙ c.in-Some.is);
}

pub returns-in-None : goal.returns-in-None
returns-in-None c = record {
  number = sym (position_name c.args.name.now c.args.parties.now.keys ∙ sym c.get_index_of.ensures.index ∙ c.in-None.is);
}
