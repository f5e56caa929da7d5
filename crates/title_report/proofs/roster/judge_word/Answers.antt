-- One bit more.
use Rattle.std.{proofs.Common.{◌∙◌, ◌<◌, ◌+◌, ◌*◌, ◌%◌, ◌^◌, [], ℕ, List, ap, arith, length, map, subst, sym}, specs.Prelude.{bit_or}}
use Rattle.std.{proofs.lemmas.List.{get_or-map, length-map}, specs.String.{string_bytes}}
use Rattle.csv.specs.Writing.{needs_quotes}
use Rattle.title_page.specs.Rows.{row_writer}
use Rattle.title_report.proofs.Judged.{HasBits, no_bits, one_bit_more, word_judged}
use Rattle.title_report.proofs.roster.judge_word.Goals as goal

pub loop-at-init : goal.loop-at-init
loop-at-init c = no_bits (map string_bytes c.args.names.now)

pub loop-at-preserved : goal.loop-at-preserved
loop-at-preserved c =
    let names = map string_bytes c.args.names.now in
    let at = c.loop-at.at in
    let within : at < length c.args.names.now = omega arith in
    let is = c.is_quoted.ensures.quoted ∙ ap (λ (z : List ℕ). needs_quotes row_writer z) (c.as_bytes.ensures.value
    ∙ ap string_bytes c.index-names-at.is
    ∙ sym (get_or-map string_bytes c.args.names.now at c.index-names-at.result [] within)) in
    subst (λ (bit : ℕ). HasBits names (bit_or c.loop-at.word (bit * 2 ^ at % 2 ^ 64)) (at + 1)) (sym c.from.ensures)
    (one_bit_more names c.loop-at.word at c.is_quoted.result (omega arith) is c.loop-at.invariant)

pub returns : goal.returns
returns c = record {
  judged = word_judged (map string_bytes c.args.names.now) c.loop-at.word c.loop-at.at c.loop-at.invariant
      (λ i past few. omega (arith, past, few, length-map c.args.names.now string_bytes));
}
