-- The names are those of the parties, and what is kept is as much as the records.
use Rattle.std.{proofs.{Common.{◌∙◌, ap, arith, length, refl, sym}, lemmas.List.{length-map, length-reverse}}, specs.String.{string_bytes}}
use Rattle.title_trace.specs.Trace.{committed}
use Rattle.title_standing.specs.Standing.{kept}
use Rattle.title_kept_desk.proofs.news.mark_at.Goals as goal

pub returns : goal.returns
returns c = record {
  gate = refl;
  stood = record {
    townships = omega arith;
    names = c.len-2.ensures.len ∙ sym (length-map c.args.clerk.now.declared.parties.keys string_bytes);
    records = omega (
      arith,
      ap length c.records.ensures.records,
      length-reverse c.records.result.now,
      length-map (committed c.args.clerk.now.desk.trace) kept,
    );
  };
}
