use Rattle.std.{proofs.Common.{Bor, List, ℕ, ◌≡◌, ◌∙◌, false, add-one, subst, sym, take}, specs.{Prelude.{option_map}, List.{list_any}}}
use Rattle.csv.specs.Records.{fields_of}
use Rattle.title_daybook.{specs.Lines.{has_line_feed}, proofs.FirstLines.{next_clear, spoilt_there}}
use Rattle.title_daybook.proofs.lines.goes_over.Goals as goal

pub loop-i-preserved : goal.loop-i-preserved
loop-i-preserved c =
    let fields = fields_of c.args.raw.now in
    let found = option_map (λ (f : Bor (List ℕ)). f.now) c.get.result in
    let clean = sym c.has_line_feed.ensures.has ∙ c.if-has_line_feed.false in
    subst (λ (n : ℕ). list_any has_line_feed (take n fields) ≡ false) (sym (add-one c.loop-i.i))
    (next_clear fields c.loop-i.i found c.get.ensures.value clean c.loop-i.invariant)

pub returns-then-has_line_feed : goal.returns-then-has_line_feed
returns-then-has_line_feed c =
    let fields = fields_of c.args.raw.now in
    let found = option_map (λ (f : Bor (List ℕ)). f.now) c.get.result in
    let spoilt = sym c.has_line_feed.ensures.has ∙ c.if-has_line_feed.true in
    record { over = sym (spoilt_there fields c.loop-i.i found c.get.ensures.value spoilt) }
