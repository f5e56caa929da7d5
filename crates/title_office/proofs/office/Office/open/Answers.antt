-- A desk that has just been opened has no record, and a fault of it is want of memory.
use Rattle.std.proofs.Common.{◌∙◌, ap, sym}
use Rattle.title_trace.specs.Due.{Setting}
use Rattle.title_office.proofs.Faults.{no_want_of_place}
use Rattle.title_office.proofs.office.Office.open.Goals as goal

pub returns-in_err-desk-clause-why : goal.returns-in_err-desk-clause-why
returns-in_err-desk-clause-why g c = no_want_of_place c.args.viewers c.from_residual.result c.from_residual.ensures.1

pub open_on-requires : goal.open_on-requires
open_on-requires g c = record {
  book = c.requires.book;
  setting = c.requires.setting ∙ sym c.in_ok-desk.ensures.setting;
  townships = sym (ap (λ (s : Setting). s.townships) c.in_ok-desk.ensures.setting);
  once = c.requires.may_open.3;
  seats = c.requires.seats;
  viewers = c.requires.viewers;
}
