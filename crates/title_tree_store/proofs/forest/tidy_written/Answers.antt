-- One put more.
use Rattle.std.proofs.{Common.{◌≤◌, arith, length}, lemmas.List.{take_all, take_more}}
use Rattle.title_tree_store.proofs.Tidying.{tidied_more}
use Rattle.title_tree_store.proofs.forest.tidy_written.Goals as goal

pub tidy_put-requires : goal.tidy_put-requires
tidy_put-requires c = record {
  there = rw (c.loop-put.invariant.sized, c.put-item.is) (c.requires.there c.loop-put.put-index c.put-item.result c.loop-put-test.true);
}

pub loop-put-preserved : goal.loop-put-preserved
loop-put-preserved c =
    let put = c.put-item.result in
    let tidy = c.tidy_put.ensures in
    rw (take_more c.args.written.now c.loop-put.put-index put c.loop-put-test.true, ← c.put-item.is)
    (tidied_more put c.loop-put.invariant tidy.tidied tidy.closed tidy.others tidy.sized)

pub returns : goal.returns
returns c =
    let high : length c.args.written.now ≤ c.loop-put.put-index = omega arith in
    record { tidied = rw (take_all c.loop-put.put-index c.args.written.now high) at c.loop-put.invariant }
