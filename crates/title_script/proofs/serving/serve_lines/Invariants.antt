-- What came of the steps so far, with what comes of those that are left, is what comes of all; and so is the trace after them.
use Rattle.std.proofs.Common.{◌≡◌, [], length}
use Rattle.title_script.{specs.ReportLaws.{after_lines}, proofs.ServedLaws.{and_rest}}
use Rattle.title_script.proofs.serving.serve_lines.Given as goal

abbrev pub invariant-loop-line : goal.invariant-loop-line
invariant-loop-line g l = record {
  setting : l.desk.setting ≡ l.fn.desk.setting;
  trace : after_lines l.desk.setting l.desk.trace l.lines.items ≡ after_lines l.fn.desk.setting l.fn.desk.trace l.fn.lines.items;
  told : and_rest l.desk.setting l.all.items l.desk.trace l.lines.items
      ≡ and_rest l.fn.desk.setting [] l.fn.desk.trace l.fn.lines.items;
}

abbrev pub decreases-loop-line : goal.decreases-loop-line
decreases-loop-line g l = length l.lines.items
