use Rattle.std.proofs.Common.{◌+◌, ◌∙◌, ap, arith, inl, inr, length, refl, true}
use Rattle.csv.specs.{Reading.{strip_bom, with_flexible}, declared.reader.ReaderBuilder.{ReaderBuilder}}
use Rattle.title_lasting.proofs.look_rows.open_text.Goals as goal

pub returns : goal.returns
returns c =
    let reader = c.from_reader.ensures in
    let builder = c.flexible.ensures ∙ ap (λ (b : ReaderBuilder). with_flexible b true) c.has_headers.ensures in
    record {
      left = record {
        trims = rw builder at reader.trim ∙ c.new.ensures.trim;
        ready = inr (inr (rw builder at reader.has_headers, reader.headers));
        config = rw builder at reader.config ∙ c.new.ensures.config;
        rest = strip_bom c.args.text.now;
        source = reader.source;
        count = length (strip_bom c.args.text.now) + 1;
        counted = inl (omega arith);
        rows_are = rw reader.state refl;
      };
    }
