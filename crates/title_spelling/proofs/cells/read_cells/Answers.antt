-- Which texts are of no cells form, and how one is read that may be.
use Rattle.std.{proofs.Common.{◌≡◌, ◌∙◌, ◌-◌, Option, Some, None, length, drop, take, refl, sym, rules, subst}, specs.Prelude.{codes, IfOk}}
use Rattle.std.proofs.lemmas.Str.Pattern.{starts_text}
use Rattle.title_land.specs.declared.tract.Land.{Land}
use Rattle.title_spelling.{specs.Cells.{marked_in}, proofs.CellsTexts.{last_marked, not_cut, other_word, read_by, too_short}}
use Rattle.title_spelling.proofs.cells.read_cells.Goals as goal

pub returns-then-text-lt-CELLS_BYTES : goal.returns-then-text-lt-CELLS_BYTES
returns-then-text-lt-CELLS_BYTES c = record { said = too_short c.args.text.now c.if-text-lt-CELLS_BYTES.true }

pub returns-in_default : goal.returns-in_default
returns-in_default c = record { said = not_cut c.args.text.now (λ cut. cc (c.in_default.ensures.variant.1 cut)) }

pub returns-then-not-starts_with : goal.returns-then-not-starts_with
returns-then-not-starts_with c =
    let tail_is : c.in-Some.cells.now ≡ drop (length c.args.text.now - 86) c.args.text.now = search rules in
    record {
      said = other_word c.args.text.now c.in-Some.cells.now tail_is
          (starts_text _ (codes " cells") c.in-Some.cells.now c.if-not-starts_with.ensures.cases);
    }

pub returns-in_default-2 : goal.returns-in_default-2
returns-in_default-2 c =
    let front_is : c.in-Some.front.now ≡ take (length c.args.text.now - 86) c.args.text.now = search rules in
    record {
      said = read_by c.args.text.now c.in-Some.front.now None (marked_in c.args.text.now) front_is
          (sym c.in_default-2.is ∙ c.in_ok-section.ensures.section) refl;
    }

pub returns : goal.returns
returns c =
    let front_is : c.in-Some.front.now ≡ take (length c.args.text.now - 86) c.args.text.now = search rules in
    let is = read_by c.args.text.now c.in-Some.front.now (Some c.in-Some-2.section) c.marked.result front_is
    (sym c.in-Some-2.is ∙ c.in_ok-section.ensures.section)
    (last_marked c.args.text.now c.as_bytes-bytes.result.now c.marked.result c.as_bytes-bytes.ensures.value c.marked.ensures.marked) in
    record { said = subst (λ (x : Option Land). IfOk c.if_spelled.result (λ said. said ≡ x)) is c.if_spelled.ensures.said }
