-- What the loop of `split_letter` keeps.
use Rattle.std.{proofs.Common.{◌≡◌}, specs.Str.{IsUtf8, chars, Iter.{chars_rest}}}
use Rattle.title_aliquot.specs.Letters.{letters}
use Rattle.title_aliquot.proofs.letters.split_letter.Given as goal

abbrev pub invariant-passed : goal.invariant-passed
invariant-passed l = record {
  utf8 : IsUtf8 (chars_rest l.characters);
  same : letters (chars l.text) ≡ letters (chars (chars_rest l.characters));
}
