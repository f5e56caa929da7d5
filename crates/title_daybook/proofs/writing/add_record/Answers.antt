-- One post is a row, and any other number of posts stands between a begin and a commit.
use Rattle.std.{proofs.Common.{◌≡◌, ◌∙◌, ◌++◌, ◌∷◌, [], List, ℕ, ap, length, map, sym}, specs.String.{string_bytes}}
use Rattle.std.proofs.lemmas.Result.{on_ok_weaker}
use Rattle.title_chain.specs.declared.ask.Step.{Step}
use Rattle.title_spelling.specs.Rows.{PlantRow}
use Rattle.title_spelling.specs.Rows as plant
use Rattle.title_daybook.{specs.Added.{post_rows, posts_of, text_of}, proofs.WrittenRows.{behind, several, single, text_one}}
use Rattle.title_daybook.proofs.writing.add_record.Goals as goal

pub returns-then-post_count-eq1 : goal.returns-then-post_count-eq1
returns-then-post_count-eq1 c =
    let names = map string_bytes c.args.parties.now.keys in
    let r = c.args.record.now in
    let steps_are = c.as_slice-steps.ensures.slice in
    let counted : length (posts_of r.steps) ≡ 1 =
    ap (λ (s : List Step). length (posts_of s)) (sym steps_are) ∙ sym c.post_count.ensures.count ∙ c.if-post_count-eq1.true in
    let rows_are = ap (λ (s : List Step). post_rows r.examiner (posts_of s)) steps_are
    ∙ sym (single r.examiner (posts_of r.steps) counted) in
    record {
      added = on_ok_weaker c.add_steps.result
          (λ e. e ∙ ap (λ (rows : List PlantRow). c.args.out.now.items ++ text_of names rows) rows_are) c.add_steps.ensures.added;
    }

pub returns : goal.returns
returns c =
    let names = map string_bytes c.args.parties.now.keys in
    let r = c.args.record.now in
    let out = c.args.out.now.items in
    let steps_are = c.as_slice-steps.ensures.slice in
    let not_one = λ (one : length (posts_of r.steps) ≡ 1).
    c.if-post_count-eq1.false (c.post_count.ensures.count ∙ ap (λ (s : List Step). length (posts_of s)) steps_are ∙ one) in
    let rows = post_rows r.examiner (posts_of c.as_slice-steps.result.now) in
    let rows_are = ap (λ (s : List Step). plant.Begin r.examiner ∷ (post_rows r.examiner (posts_of s) ++ plant.Commit r.examiner ∷
    [])) steps_are
    ∙ sym (several r.examiner (posts_of r.steps) not_one) in
    let first = c.in_ok-begin_row.ensures.added ∙ ap (λ (t : List ℕ). out ++ t) (sym (text_one names (plant.Begin r.examiner))) in
    let second = behind names (plant.Begin r.examiner ∷ []) rows out _ _ first c.in_ok-add_steps.ensures.added in
    record {
      added = on_ok_weaker c.commit_row.result
          (λ e. behind names (plant.Begin r.examiner ∷ rows) (plant.Commit r.examiner ∷ []) out _ _ second
          (e ∙ ap (λ (t : List ℕ). c.add_steps-2.new.out.items ++ t) (sym (text_one names (plant.Commit r.examiner))))
          ∙ ap (λ (l : List PlantRow). out ++ text_of names l) rows_are) c.commit_row.ensures.added;
    }
