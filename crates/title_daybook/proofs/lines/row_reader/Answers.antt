use Rattle.std.proofs.Common.{List, ℕ, Some, inr, true, ap, ◌∙◌}
use Rattle.csv.specs.{Reading.{with_flexible}, declared.reader.ReaderBuilder.{ReaderBuilder}}
use Rattle.title_daybook.proofs.Marks.{not_stripped}
use Rattle.title_daybook.proofs.lines.row_reader.Goals as goal

pub returns : goal.returns
returns c =
    let reader = c.from_reader.ensures in
    let builder = c.flexible.ensures ∙ ap (λ (b : ReaderBuilder). with_flexible b true) c.has_headers.ensures in
    record {
      at = record {
        trims = rw builder at reader.trim ∙ c.new.ensures.trim;
        ready = inr (inr (rw builder at reader.has_headers, reader.headers));
        config = rw builder at reader.config ∙ c.new.ensures.config;
        state = reader.state;
        source = reader.source ∙ ap (λ (l : List ℕ). Some l) (not_stripped c.args.text.now c.requires.unmarked);
      };
    }
