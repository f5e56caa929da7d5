-- What the words that were read say, without where they lie in memory.
use Rattle.std.specs.Option.{option_map}
use Rattle.title_aliquot.specs.declared.syntax.{SectionWords.{SectionWords}, LandWords.{LandWords}, Words.{Words}}
use Rattle.title_aliquot.specs.Grammar.{SectionSyntax, LandSyntax, Syntax, Everything, InTownship}
use Rattle.title_aliquot.specs.declared.syntax.Words.TheVariants as words

abbrev pub section_view : SectionWords → SectionSyntax
section_view s = record { number = s.number; parts = s.parts }

abbrev pub land_view : LandWords → LandSyntax
land_view d =
    record { township = d.township; north = d.north; range = d.range; east = d.east; section = option_map section_view d.section }

abbrev pub words_view : Words → Syntax
words_view words.Everything = Everything
words_view (words.Land p) = InTownship (land_view p)
