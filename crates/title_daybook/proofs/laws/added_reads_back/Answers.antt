use Rattle.title_daybook.proofs.Lasting.{added_reads_back}
use Rattle.title_daybook.proofs.laws.added_reads_back.Goals as goal

pub returns : goal.returns
returns c = record {
  law = added_reads_back c.rows_are_lines.ensures.law c.only_ends_end.ensures.law c.marks_read_back.ensures.law
      c.posts_read_back.ensures.law;
}
