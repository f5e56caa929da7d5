use Rattle.std.proofs.Common.{◌∙◌, ap, inr, true}
use Rattle.csv.specs.{Reading.{with_flexible}, declared.reader.ReaderBuilder.{ReaderBuilder}}
use Rattle.title_plan.proofs.script.open_rows.Goals as goal

pub returns : goal.returns
returns c =
    let reader = c.from_reader.ensures in
    let builder = c.flexible.ensures ∙ ap (λ (b : ReaderBuilder). with_flexible b true) c.has_headers.ensures in
    record {
      first = record {
        trims = rw builder at reader.trim ∙ c.new.ensures.trim;
        ready = inr (inr (rw builder at reader.has_headers, reader.headers));
        config = rw builder at reader.config ∙ c.new.ensures.config;
        flexible = rw builder at reader.flexible;
        state = reader.state;
        source = reader.source;
      };
    }
