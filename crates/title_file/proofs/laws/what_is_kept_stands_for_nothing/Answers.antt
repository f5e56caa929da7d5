-- Up to its last gate a file is the front of its blocks, behind which no tail is one too.
use Rattle.std.proofs.{Common.{◌≡◌, [], take, sym, ◌∙◌, ap}, lemmas.List.{append-nil, take_at}}
use Rattle.title_journal.specs.Blocks.{blocks_in, front}
use Rattle.title_file.proofs.laws.what_is_kept_stands_for_nothing.Goals as goal

pub returns : goal.returns
returns c = record {
  alike = λ file gates are.
      let law = c.blocks_stand_where_they_are.ensures in
      let parts = law.made file are.blocks are.stand in
      let begun : take gates.end file ≡ front are.blocks =
      ap (take gates.end) parts.parts ∙ take_at (front are.blocks) parts.tail gates.end (sym are.end) in
      ap blocks_in begun
      ∙ law.read (front are.blocks) are.blocks
      (record { tail = []; parts = sym (append-nil (front are.blocks)); whole = parts.whole; ends = tt })
      ∙ sym are.stand;
}
