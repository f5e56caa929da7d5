use Rattle.std.{proofs.{Common.{◌∙◌, sym, map, arith}, lemmas.Bool.Decides.{nat_tests}}, specs.{Str.{bytes_eq}, String.{string_bytes}}}
use Rattle.title_plan.{proofs.Behind.{at_none, at_number, first_alone}, specs.Laws.Names.{position_name}}
use Rattle.title_plan.proofs.plan.Plan.is_party_of.Goals as goal

pub returns-then-index-gt0 : goal.returns-then-index-gt0
returns-then-index-gt0 c =
    let keys = c.args.self.now.parties.keys in
    let has = position_name c.args.name.now keys ∙ sym c.get_index_of.ensures.index ∙ c.in-Some.is in
    let alone = first_alone c.args.name.now keys c.len-parties.ensures.unique in
    let is = at_number (bytes_eq c.args.name.now) c.args.stood.parties c.in-Some.index (map string_bytes keys) alone has in
    record { again = grind (arith, nat_tests, is) }

pub returns-else-index-gt0 : goal.returns-else-index-gt0
returns-else-index-gt0 c =
    let keys = c.args.self.now.parties.keys in
    let has = position_name c.args.name.now keys ∙ sym c.get_index_of.ensures.index ∙ c.in-Some.is in
    let alone = first_alone c.args.name.now keys c.len-parties.ensures.unique in
    let is = at_number (bytes_eq c.args.name.now) c.args.stood.parties c.in-Some.index (map string_bytes keys) alone has in
    record { again = grind (arith, nat_tests, is) }

pub returns-in-None : goal.returns-in-None
returns-in-None c =
    let keys = c.args.self.now.parties.keys in
    let has = position_name c.args.name.now keys ∙ sym c.get_index_of.ensures.index ∙ c.in-None.is in
    record { again = sym (at_none (bytes_eq c.args.name.now) c.args.stood.parties (map string_bytes keys) has) }
