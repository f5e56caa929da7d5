-- What the loop of `offset_of` keeps.
use Rattle.std.{proofs.Common.{◌≡◌, ◌+◌, length}, specs.Str.{IsUtf8, chars, Iter.{char_indices_rest, char_indices_offset}}}
use Rattle.title_aliquot.specs.Letters.{offset}
use Rattle.title_aliquot.proofs.letters.offset_of.Given as goal

abbrev pub invariant-walk : goal.invariant-walk
invariant-walk l = record {
  utf8 : IsUtf8 (char_indices_rest l.at-iterator);
  whole : char_indices_offset l.at-iterator + length (char_indices_rest l.at-iterator) ≡ length l.text;
  same : offset (chars l.text) l.letter ≡ char_indices_offset l.at-iterator + offset (chars (char_indices_rest l.at-iterator)) l.left;
}
