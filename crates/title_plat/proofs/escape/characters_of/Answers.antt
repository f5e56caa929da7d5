-- The characters that are collected are those of the text.
use Rattle.std.proofs.lemmas.Iterator.{items_from_collect, YieldsList-from_chars}
use Rattle.title_plat.proofs.escape.characters_of.Goals as goal

pub returns : goal.returns
returns c =
    record {
      characters = items_from_collect c.collect.result c.collect.ensures.ran
          (YieldsList-from_chars c.args.text.now c.utf8.text c.chars.ensures.rest);
    }
