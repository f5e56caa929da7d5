-- Answers to lines one after another, through a page.
use Rattle.std.proofs.Common.{◌≡◌, ◌<◌, ◌+◌, ◌∙◌, ◌++◌, ◌∷◌, [], refl, ap, sym, subst, ℕ, List, Option, append_assoc}
use Rattle.std.proofs.{Common.{drop, get_or, length, take}, lemmas.List.{append-nil, take-append-drop}}
use Rattle.title_page.specs.{Pages.{Stopped, Written}, Rows.{rows_text}, Laws.InTurn.{stopped_then, written_none, written_then}}
use Rattle.title_counter.specs.{Counters.{Answered, Counter}, Lines.{lines_from}, Sessions.{Answers, GotAnswers, LostAnswers, MayAnswer}}
use Rattle.title_counter.specs.Laws.{AnswersInTurn.{answers_then}, LineLaws.{whole_more, whole_to}}

-- the answer to one line
one_answer : (c : Counter) (line : List ℕ) (answer : Answered) → MayAnswer c line answer
    → Answers c (line ∷ []) (rows_text answer.rows) answer.after
one_answer c line answer may = (answer, [], may, (refl, refl), sym (append-nil (rows_text answer.rows)))

module _ {taken taken_after : Option (List ℕ)} {page : List ℕ} where
  pub got_one : {page_after : List ℕ} (c : Counter) (line : List ℕ) (answer : Answered) → MayAnswer c line answer
      → Written taken page taken_after page_after (rows_text answer.rows)
      → GotAnswers c (line ∷ []) answer.after taken page taken_after page_after
  got_one c line answer may written = record {
    text = rows_text answer.rows;
    answers = one_answer c line answer may;
    written = written;
  }

  pub lost_one : (c : Counter) (line : List ℕ) (answer : Answered) → MayAnswer c line answer
      → Stopped taken page taken_after (rows_text answer.rows) → LostAnswers c (line ∷ []) answer.after taken page taken_after
  lost_one c line answer may stopped = record {
    first = line ∷ [];
    more = [];
    lines_are = refl;
    text = rows_text answer.rows;
    answers = one_answer c line answer may;
    stopped = stopped;
  }

-- no line, no answer
pub got_none : (c : Counter) (taken : Option (List ℕ)) (page : List ℕ) → GotAnswers c [] c taken page taken page
got_none c taken page = record { text = []; answers = (refl, refl); written = written_none taken page }

module _ {taken middle taken_after : Option (List ℕ)} {page between : List ℕ} (c m a : Counter) (xs ys : List (List ℕ)) where
  -- answers to further lines
  pub got_then : {page_after : List ℕ} → GotAnswers c xs m taken page middle between
      → GotAnswers m ys a middle between taken_after page_after → GotAnswers c (xs ++ ys) a taken page taken_after page_after
  got_then h k = record {
    text = h.text ++ k.text;
    answers = answers_then c m a xs ys h.text k.text h.answers k.answers;
    written = written_then h.text k.text h.written k.written;
  }

  -- the sink failed at further lines
  pub lost_then : GotAnswers c xs m taken page middle between → LostAnswers m ys a middle between taken_after
      → LostAnswers c (xs ++ ys) a taken page taken_after
  lost_then h k = record {
    first = xs ++ k.first;
    more = k.more;
    lines_are = ap (λ (ls : List (List ℕ)). xs ++ ls) k.lines_are ∙ sym (append_assoc xs k.first k.more);
    text = h.text ++ k.text;
    answers = answers_then c m a xs k.first h.text k.text h.answers k.answers;
    stopped = stopped_then h.text k.text h.written k.stopped;
  }

-- the sink failed before further lines
pub lost_before : {taken taken_after : Option (List ℕ)} {page : List ℕ} (c a : Counter) (xs ys : List (List ℕ))
    → LostAnswers c xs a taken page taken_after → LostAnswers c (xs ++ ys) a taken page taken_after
lost_before c a xs ys h = record {
  first = h.first;
  more = h.more ++ ys;
  lines_are = ap (λ (ls : List (List ℕ)). ls ++ ys) h.lines_are ∙ append_assoc h.first h.more ys;
  text = h.text;
  answers = h.answers;
  stopped = h.stopped;
}

-- ---- byte by byte

-- all lines, and those up to one more byte
whole_of : (line bytes : List ℕ) (i : ℕ) → i < length bytes → (here : List ℕ) → here ≡ (lines_from line (take i bytes)).rest
    → (lines_from line bytes).whole
    ≡ ((lines_from line (take i bytes)).whole ++ (lines_from here (get_or bytes i 0 ∷ [])).whole)
    ++ (lines_from (lines_from line (take (i + 1) bytes)).rest (drop (i + 1) bytes)).whole
whole_of line bytes i lt here at =
    ap (λ (bs : List ℕ). (lines_from line bs).whole) (sym (take-append-drop (i + 1) bytes))
    ∙ whole_more line (take (i + 1) bytes) (drop (i + 1) bytes)
    ∙ ap (λ (ls : List (List ℕ)). ls ++ (lines_from (lines_from line (take (i + 1) bytes)).rest (drop (i + 1) bytes)).whole)
    (whole_to line bytes i lt here at)

module _ {taken middle taken_after : Option (List ℕ)} {page between : List ℕ} (before m a : Counter) (line bytes here : List ℕ) (i : ℕ)
    (lt : i < length bytes) (at : here ≡ (lines_from line (take i bytes)).rest)
    (h : GotAnswers before (lines_from line (take i bytes)).whole m taken page middle between) where
  -- answers up to one more byte
  pub got_byte : {page_after : List ℕ}
      → GotAnswers m (lines_from here (get_or bytes i 0 ∷ [])).whole a middle between taken_after page_after
      → GotAnswers before (lines_from line (take (i + 1) bytes)).whole a taken page taken_after page_after
  got_byte {page_after} k =
      subst (λ (ls : List (List ℕ)). GotAnswers before ls a taken page taken_after page_after) (sym (whole_to line bytes i lt here at))
      (got_then before m a (lines_from line (take i bytes)).whole (lines_from here (get_or bytes i 0 ∷ [])).whole h k)

  -- the sink failed at one more byte
  pub lost_byte : LostAnswers m (lines_from here (get_or bytes i 0 ∷ [])).whole a middle between taken_after
      → LostAnswers before (lines_from line bytes).whole a taken page taken_after
  lost_byte k =
      subst (λ (ls : List (List ℕ)). LostAnswers before ls a taken page taken_after) (sym (whole_of line bytes i lt here at))
      (lost_before before a ((lines_from line (take i bytes)).whole ++ (lines_from here (get_or bytes i 0 ∷ [])).whole)
      (lines_from (lines_from line (take (i + 1) bytes)).rest (drop (i + 1) bytes)).whole
      (lost_then before m a (lines_from line (take i bytes)).whole (lines_from here (get_or bytes i 0 ∷ [])).whole h k))
