-- A row more, which ends the block or doesn't.
use Rattle.std.proofs.Common.{ℕ, take, drop, length-drop, true, false, ap, sym, ◌∙◌}
use Rattle.std.proofs.{Common.{subst, arith}, lemmas.List.{take_rest}}
use Rattle.title_journal.specs.{Blocks.{IsBlock}, Laws.Rows.{SomeRows, row_taken, one_row_more, last_row_more, row_at, same_length}}
use Rattle.title_file.proofs.gates.block_len.Goals as goal

pub returns-then-ends-clause-block : goal.returns-then-ends-clause-block
returns-then-ends-clause-block c =
    let bytes = c.args.bytes.now in
    let at = c.loop-len.at in
    let len = c.in-Some.len in
    let found = c.in-Some.ensures.row in
    let row = row_at bytes _ _ at len true (take_rest bytes at)
    (ap (λ (n : ℕ). take n (drop at bytes)) (same_length at len)) found.0 found.1 found.2 (sym c.if-ends.true
    ∙ c.starts_with-ends.ensures.value) in (
      omega (arith, row.within, length-drop at bytes),
      subst IsBlock (sym (row_taken bytes at len row.within row.feed))
          (last_row_more (take at bytes) (take len (drop at bytes)) c.loop-len.invariant.rows row.row row.ends),
    )

pub loop-len-preserved : goal.loop-len-preserved
loop-len-preserved c =
    let bytes = c.args.bytes.now in
    let at = c.loop-len.at in
    let len = c.in-Some.len in
    let found = c.in-Some.ensures.row in
    let row = row_at bytes _ _ at len false (take_rest bytes at)
    (ap (λ (n : ℕ). take n (drop at bytes)) (same_length at len)) found.0 found.1 found.2 (sym c.if-ends.false
    ∙ c.starts_with-ends.ensures.value) in
    record {
      within = omega (arith, row.within, length-drop at bytes);
      rows = subst SomeRows (sym (row_taken bytes at len row.within row.feed))
          (one_row_more (take at bytes) (take len (drop at bytes)) c.loop-len.invariant.rows row.row row.ends);
    }
