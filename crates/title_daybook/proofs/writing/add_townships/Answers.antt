use Rattle.std.proofs.{Common.{List, ℕ, ◌++◌, ◌∷◌, [], ◌∙◌, ap, map, sym}, lemmas.List.{append-nil, map-append}}
use Rattle.title_spelling.specs.Rows as plant
use Rattle.title_daybook.proofs.WrittenRows.{all_written, one_more, text_one}
use Rattle.title_daybook.proofs.writing.add_townships.Goals as goal

pub loop-township-init : goal.loop-township-init
loop-township-init c = λ names. sym (append-nil c.args.out.now.items)

pub loop-township-preserved : goal.loop-township-preserved
loop-township-preserved c = λ names.
    let t = c.township-item.result in
    one_more (map plant.Township) (λ ts u. map-append plant.Township ts (u ∷ [])) names c.args.townships.now c.loop-township.township-index
    t c.args.out.now.items c.loop-township.out.items _ c.loop-township-test.true c.township-item.is (c.loop-township.invariant names)
    (c.in_ok-township_row.ensures.added
    ∙ ap (λ (text : List ℕ). c.loop-township.out.items ++ text) (sym (text_one names (plant.Township t))))

pub returns : goal.returns
returns c = record {
  added = λ names. all_written (map plant.Township) (λ ts u. map-append plant.Township ts (u ∷ [])) names c.args.townships.now
      c.loop-township.township-index c.args.out.now.items c.loop-township.out.items c.loop-township-test.false
      (c.loop-township.invariant names);
}
