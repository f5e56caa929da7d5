-- Each turn of the loop finds a block more, or that the file is no plant.
use Rattle.std.proofs.{Common.{◌≤◌, ◌+◌, ℕ, List, length, take, sym, ◌∙◌, subst}, lemmas.List.{take_rest}}
use Rattle.title_journal.specs.Blocks.{IsBlock, IsUnfinished}
use Rattle.title_file.proofs.Walking.{walk_begun, shut, at_the_end, no_line_feed, breaks_off, one_block_more}
use Rattle.title_file.proofs.gates.find_gates.Goals as goal

pub loop-offset-init : goal.loop-offset-init
loop-offset-init c = walk_begun c.args.head.now c.args.file.now (sym c.starts_with.ensures.value ∙ c.if-not-starts_with.false)

pub returns-then-file-offset-ne10-clause-none : goal.returns-then-file-offset-ne10-clause-none
returns-then-file-offset-ne10-clause-none c =
    no_line_feed c.args.head.now c.args.file.now _ c.loop-offset.offset c.loop-offset.invariant c.loop-offset-test.true
    c.if-file-offset-eq43.true c.if-file-offset-ne10.true

pub returns-in_default-clause-none : goal.returns-in_default-clause-none
returns-in_default-clause-none c =
    let file = c.args.file.now in
    let unfinished = subst IsUnfinished (take_rest file (c.loop-offset.offset + 2)) c.in_default.ensures.unfinished in
    breaks_off c.args.head.now file _ c.loop-offset.offset c.loop-offset.invariant c.loop-offset-test.true c.if-file-offset-eq43.true
    c.if-file-offset-ne10.false unfinished

pub loop-offset-preserved : goal.loop-offset-preserved
loop-offset-preserved c =
    let file = c.args.file.now in
    let start = c.loop-offset.offset + 2 in
    let len = c.in-Some.len in
    let rest_is = take_rest file start in
    let found = c.in-Some.ensures.block in
    let fits = subst (λ (l : List ℕ). len ≤ length l) rest_is found.0 in
    let is = subst (λ (l : List ℕ). IsBlock (take len l)) rest_is found.1 in
    one_block_more c.args.head.now file _ c.loop-offset.offset c.loop-offset.invariant c.loop-offset-test.true
    c.if-file-offset-eq43.true c.if-file-offset-ne10.false len fits is

pub returns-else-file-offset-eq43-clause-gates : goal.returns-else-file-offset-eq43-clause-gates
returns-else-file-offset-eq43-clause-gates c =
    shut c.args.head.now c.args.file.now _ c.loop-offset.offset c.loop-offset.invariant c.loop-offset-test.true
    c.if-file-offset-eq43.false

pub returns-after-loop-offset-clause-gates : goal.returns-after-loop-offset-clause-gates
returns-after-loop-offset-clause-gates c =
    at_the_end c.args.head.now c.args.file.now _ c.loop-offset.offset c.loop-offset.invariant c.loop-offset-test.false
