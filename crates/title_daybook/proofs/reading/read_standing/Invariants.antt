use Rattle.title_daybook.{specs.Books.{progress_of}, proofs.Blocks.{AreUpTo}}
use Rattle.title_daybook.proofs.reading.read_standing.Given as goal

abbrev pub invariant-blocks-2 : goal.invariant-blocks-2
invariant-blocks-2 l = AreUpTo l.blocks.texts.items l.n l.text-index (progress_of l.book)
