use Rattle.std.{proofs.Common.{◌∙◌, refl, sym}, specs.{Str.{bytes_eq}, String.{string_bytes}}}
use Rattle.title_plan.specs.Laws.Names.{any_map, insert_name}
use Rattle.title_plan.proofs.declaring.add_party.Goals as goal

pub returns-then-contains-clause-new : goal.returns-then-contains-clause-new
returns-then-contains-clause-new c =
    rw (any_map string_bytes (bytes_eq c.args.name.now) c.args.parties.now.keys ∙ sym c.if-contains.ensures) refl

pub returns-clause-new : goal.returns-clause-new
returns-clause-new c = rw (any_map string_bytes (bytes_eq c.args.name.now) c.args.parties.now.keys ∙ sym c.if-contains.ensures) refl

pub returns-clause-added : goal.returns-clause-added
returns-clause-added c =
    rw (c.in_ok-insert.ensures.keys)
    (insert_name c.args.name.now c.in_ok-name.name c.args.parties.now.keys c.in_ok-name.ensures.ok (sym c.if-contains.ensures))
