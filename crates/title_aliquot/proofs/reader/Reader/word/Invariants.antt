-- What the loop of `word` keeps.
use Rattle.std.proofs.Common.{◌≡◌, drop}
use Rattle.title_grammar.specs.Reading.{word_at}
use Rattle.title_aliquot.proofs.reader.Reader.word.Given as goal

abbrev pub invariant-bytes : goal.invariant-bytes
invariant-bytes l = word_at (drop l.b-index l.b-items) l.self ≡ word_at l.fn.word l.fn.self
