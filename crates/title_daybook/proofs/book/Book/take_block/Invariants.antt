use Rattle.std.proofs.Common.{◌-◌, length, drop}
use Rattle.title_daybook.{specs.{Books.{progress_of}, Readers.{IsAt}}, proofs.Blocks.{IsUpTo}}
use Rattle.title_daybook.proofs.book.Book.take_block.Given as goal

abbrev pub invariant-rows : goal.invariant-rows
invariant-rows l = record {
  read : IsUpTo l.first l.text (progress_of l.fn.self) l.n l.at (progress_of l.self);
  front : IsAt l.reader (drop l.at l.text);
}

abbrev pub decreases-rows : goal.decreases-rows
decreases-rows l = length l.text - l.at
