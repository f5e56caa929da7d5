-- Answers that are passed on, and the end of a session.
use Rattle.std.{proofs.Common.{◌≡◌, ◌++◌, ◌∷◌, [], refl, sym, subst, inl, inr, ℕ, List, Option, take}, specs.Io.KnownBytes.{Appends}}
use Rattle.std.proofs.lemmas.List.{append-nil}
use Rattle.title_page.specs.{Pages.{Stopped, Written}, Rows.{row, rows_text}}
use Rattle.title_page.specs.Laws.InTurn.{all_given, part_given, stopped_as, stopped_then, written_as, written_then}
use Rattle.title_report.specs.Replies.{end_row}
use Rattle.title_counter.specs.Counters.{Counter}
use Rattle.title_counter.specs.Sessions.{Answers, BrokenOff, Ended, Ends, GotAnswers, IsSound, LostAnswers, LostBatch, PassedBatch}

module _ {taken : Option (List ℕ)} {page : List ℕ} (empty : page ≡ []) where
  -- a text was written, and all that stood on the page was passed on
  all_passed : {b c : Option (List ℕ)} {q r : List ℕ} (text : List ℕ) → Written taken page b q text → Written b q c r [] → r ≡ []
      → Appends taken c text
  all_passed {b} {c} {q} {r} text w u none =
      let all = written_as (sym (append-nil text)) (written_then text [] w u) in
      all_given text
      (subst (λ (x : List ℕ). Written taken [] c x text) none (subst (λ (x : List ℕ). Written taken x c r text) empty all))

  -- the sink failed while it was written
  part_written : {b : Option (List ℕ)} (text : List ℕ) → Stopped taken page b text → (n : ℕ) × Appends taken b (take n text)
  part_written {b} text v = part_given text (subst (λ (x : List ℕ). Stopped taken x b text) empty v)

  -- or while it was passed on
  part_passed : {b c : Option (List ℕ)} {q : List ℕ} (text : List ℕ) → Written taken page b q text → Stopped b q c []
      → (n : ℕ) × Appends taken c (take n text)
  part_passed text w v = part_written text (stopped_as (sym (append-nil text)) (stopped_then text [] w v))

  -- ---- the answers of a batch

  pub passed_on : {b c : Option (List ℕ)} {q r : List ℕ} (before after : Counter) (lines : List (List ℕ))
      → GotAnswers before lines after taken page b q → Written b q c r [] → r ≡ [] → PassedBatch before lines after taken c
  passed_on before after lines got u none = record {
    text = got.text;
    answers = got.answers;
    written = all_passed got.text got.written u none;
  }

  pub lost_in : {b : Option (List ℕ)} (before after : Counter) (lines : List (List ℕ))
      → LostAnswers before lines after taken page b → LostBatch before lines after taken b
  lost_in before after lines lost =
      let part = part_written lost.text lost.stopped in
      record {
        first = lost.first;
        more = lost.more;
        lines_are = lost.lines_are;
        text = lost.text;
        answers = lost.answers;
        count = part.0;
        written = part.1;
      }

  pub lost_last : {b c : Option (List ℕ)} {q : List ℕ} (before after : Counter) (lines : List (List ℕ))
      → GotAnswers before lines after taken page b q → Stopped b q c [] → LostBatch before lines after taken c
  lost_last before after lines got v =
      let part = part_passed got.text got.written v in
      record {
        first = lines;
        more = [];
        lines_are = sym (append-nil lines);
        text = got.text;
        answers = got.answers;
        count = part.0;
        written = part.1;
      }

  -- ---- the end

  with_row : {b c : Option (List ℕ)} {q r : List ℕ} (text : List ℕ) (last : List (List ℕ)) → Written taken page b q text
      → Written b q c r (rows_text (last ∷ [])) → Written taken page c r (text ++ row last)
  with_row {b} {c} {q} {r} text last w v =
      written_then text (row last) w (subst (λ (t : List ℕ). Written b q c r t) (append-nil (row last)) v)

  pub ended : {b c d : Option (List ℕ)} {q r s : List ℕ} (before after : Counter) (lines : List (List ℕ)) → IsSound after → Ends after
      → GotAnswers before lines after taken page b q → Written b q c r (rows_text (end_row after.steps ∷ [])) → Written c r d s [] → s ≡ []
      → Ended before lines taken d
  ended before after lines sound ends got w u none = record {
    text = got.text;
    after = after;
    answers = got.answers;
    written = all_passed (got.text ++ row (end_row after.steps)) (with_row got.text (end_row after.steps) got.written w) u none;
    sound = sound;
    ends = ends;
  }

  pub broken_in : {b : Option (List ℕ)} (before after : Counter) (lines : List (List ℕ)) → IsSound after
      → LostAnswers before lines after taken page b → BrokenOff before lines taken b
  broken_in before after lines sound lost =
      let part = part_written lost.text lost.stopped in
      record {
        first = lost.first;
        more = lost.more;
        lines_are = lost.lines_are;
        text = lost.text;
        after = after;
        answers = lost.answers;
        all = lost.text;
        all_is = inl refl;
        count = part.0;
        written = part.1;
        sound = sound;
      }

  -- the sink failed in the last row
  broken_after : {d : Option (List ℕ)} (before after : Counter) (lines : List (List ℕ)) (text : List ℕ) → IsSound after
      → Answers before lines text after → (n : ℕ) × Appends taken d (take n (text ++ row (end_row after.steps)))
      → BrokenOff before lines taken d
  broken_after before after lines text sound answers part = record {
    first = lines;
    more = [];
    lines_are = sym (append-nil lines);
    text = text;
    after = after;
    answers = answers;
    all = text ++ row (end_row after.steps);
    all_is = inr (refl, refl);
    count = part.0;
    written = part.1;
    sound = sound;
  }

  pub broken_at_row : {b c : Option (List ℕ)} {q : List ℕ} (before after : Counter) (lines : List (List ℕ)) → IsSound after
      → GotAnswers before lines after taken page b q → Stopped b q c (rows_text (end_row after.steps ∷ []))
      → BrokenOff before lines taken c
  broken_at_row {b} {c} {q} before after lines sound got v =
      broken_after before after lines got.text sound got.answers
      (part_written (got.text ++ row (end_row after.steps)) (stopped_then got.text (row (end_row after.steps)) got.written
      (subst (λ (t : List ℕ). Stopped b q c t) (append-nil (row (end_row after.steps))) v)))

  pub broken_at_end : {b c d : Option (List ℕ)} {q r : List ℕ} (before after : Counter) (lines : List (List ℕ)) → IsSound after
      → GotAnswers before lines after taken page b q → Written b q c r (rows_text (end_row after.steps ∷ [])) → Stopped c r d []
      → BrokenOff before lines taken d
  broken_at_end before after lines sound got w v =
      broken_after before after lines got.text sound got.answers
      (part_passed (got.text ++ row (end_row after.steps)) (with_row got.text (end_row after.steps) got.written w) v)
