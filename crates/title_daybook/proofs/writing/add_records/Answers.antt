use Rattle.std.{proofs.Common.{List, ◌++◌, ◌∷◌, [], ◌∙◌, ap, map, sym}, specs.{List.{flat_map}, String.{string_bytes}}}
use Rattle.std.proofs.lemmas.{Grind.{flat_map-append}, List.{append-nil}}
use Rattle.title_spelling.specs.Rows.{PlantRow}
use Rattle.title_daybook.{specs.Added.{record_rows, text_of}, proofs.WrittenRows.{all_written, one_more}}
use Rattle.title_daybook.proofs.writing.add_records.Goals as goal

pub loop-record-init : goal.loop-record-init
loop-record-init c = sym (append-nil c.args.out.now.items)

pub loop-record-preserved : goal.loop-record-preserved
loop-record-preserved c =
    let names = map string_bytes c.args.parties.now.keys in
    let r = c.record-item.result in
    one_more (flat_map record_rows) (λ rs s. flat_map-append record_rows rs (s ∷ [])) names c.args.records.now c.loop-record.record-index
    r c.args.out.now.items c.loop-record.out.items _ c.loop-record-test.true c.record-item.is c.loop-record.invariant
    (c.in_ok-add_record.ensures.added
    ∙ ap (λ (rows : List PlantRow). c.loop-record.out.items ++ text_of names rows) (sym (append-nil (record_rows r))))

pub returns : goal.returns
returns c = record {
  added = all_written (flat_map record_rows) (λ rs s. flat_map-append record_rows rs (s ∷ [])) (map string_bytes c.args.parties.now.keys)
      c.args.records.now c.loop-record.record-index c.args.out.now.items c.loop-record.out.items c.loop-record-test.false
      c.loop-record.invariant;
}
