use Rattle.std.{proofs.Common.{◌<◌, List, ℕ, ◌++◌, ◌∷◌, [], ◌∙◌, ap, drop, length, map, sym, take, arith}, specs.String.{string_bytes}}
use Rattle.std.proofs.lemmas.List.{append-nil, drop_all, length-map, length-take, map-append, take_all}
use Rattle.title_spelling.specs.{Posts.{name_of}, Rows.{PlantRow}}
use Rattle.title_spelling.specs.Rows as plant
use Rattle.title_daybook.{specs.Added.{text_of}, proofs.WrittenRows.{behind, parties_more}}
use Rattle.title_daybook.proofs.writing.add_parties.Goals as goal

pub loop-party-init : goal.loop-party-init
loop-party-init c = λ names.
    let keys = map string_bytes c.args.parties.now.keys in
    sym (append-nil c.args.out.now.items)
    ∙ ap (λ (l : List (List ℕ)). c.args.out.now.items ++ text_of names (map plant.Party l))
    (sym (drop_all c.args.from (take c.args.from keys) (omega (arith, length-take c.args.from keys))))

pub loop-party-preserved : goal.loop-party-preserved
loop-party-preserved c = λ names.
    let keys = map string_bytes c.args.parties.now.keys in
    let i = c.loop-party.party in
    let within : i < length keys = rw length-map (omega arith) in
    let name = name_of keys i in
    let rows = drop c.args.from (take i keys) in
    behind names (map plant.Party rows) (plant.Party name ∷ []) c.args.out.now.items c.loop-party.out.items _ (c.loop-party.invariant names)
    (c.in_ok-add_party.ensures.added names)
    ∙ ap (λ (l : List PlantRow). c.args.out.now.items ++ text_of names l) (sym (map-append plant.Party rows (name ∷ []))
    ∙ ap (map plant.Party) (sym (parties_more keys c.args.from i (omega arith) within)))

pub returns : goal.returns
returns c = record {
  added = λ names.
      let keys = map string_bytes c.args.parties.now.keys in
      c.loop-party.invariant names
      ∙ ap (λ (l : List (List ℕ)). c.args.out.now.items ++ text_of names (map plant.Party (drop c.args.from l))) (take_all
      c.loop-party.party keys (rw length-map (omega arith)));
}
