-- What was left to show of `new`.
use Rattle.std.{proofs.{Common.{◌∙◌}, lemmas.List.{append-nil}}, specs.Str.{chars}}
use Rattle.title_aliquot.{specs.Letters.{letters}, proofs.TextWalks.{no_letters}}
use Rattle.title_aliquot.proofs.reader.Reader.new.Goals as goal

pub returns : goal.returns
returns c = record { new = c.of_both.ensures.both ∙ rw no_letters (append-nil (letters (chars c.args.text.now))) }
