-- A session from pull to pull.
use Rattle.std.proofs.Common.{◌≡◌, ◌<◌, ◌+◌, ◌++◌, ◌∙◌, [], refl, sym, ap, subst, inl, inr, ℕ, List, Option, Some, None}
use Rattle.std.proofs.{Common.{IfSome, append_assoc, length, length-append}, lemmas.List.{append-nil}}
use Rattle.std.specs.Io.KnownBytes.{Consumes, IsAtEnd, Keeps}
use Rattle.csv.proofs.WriteFacts.{appends-more, appends-none}
use Rattle.title_page.specs.Rows.{row}
use Rattle.title_report.specs.Replies.{end_row}
use Rattle.title_counter.specs.{Counters.{Counter, opening}, Limits.{most_given}, Lines.{all_lines, last_line, lines_from, lines_in}}
use Rattle.title_counter.specs.Sessions.{Answers, AtOnce, BrokenOff, Ended, IsAnswered, IsBegun, IsBetween, IsSound, LostBatch}
use Rattle.title_counter.specs.Sessions.{PassedBatch, Session}
use Rattle.title_counter.specs.Laws.{AnswersInTurn.{answers_then}, LineLaws.{all_then, lines_then, rest_then}}
use Rattle.title_counter.specs.Laws.GivenBytes.{consumes_kept, consumes_last, consumes_more, consumes_none, more_given, part_then}

-- ---- between two pulls

pub at_start : (left taken : Option (List ℕ)) (c : Counter) (line : List ℕ) (count : ℕ) → c ≡ opening → line ≡ [] → count ≡ 0
    → IsBetween left left taken taken c line count
at_start left taken c line count first empty none = record {
  given = [];
  consumed = consumes_none left;
  text = [];
  answers = (refl, first);
  written = appends-none taken;
  rest = empty;
  counts = none;
}

module _ {l m a b : Option (List ℕ)} {c : Counter} {line : List ℕ} {count : ℕ} (h : IsBetween l m a b c line count) where
  -- a pull, and the answers to its bytes
  pub pulled : {m2 d : Option (List ℕ)} (bytes next : List ℕ) (after : Counter) (n : ℕ) → Consumes m m2 bytes
      → PassedBatch c (lines_from line bytes).whole after b d → next ≡ (lines_from line bytes).rest → n ≡ count + length bytes
      → IsBetween l m2 a d after next n
  pulled {m2} {d} bytes next after n consumed passed rest counts = record {
    given = h.given ++ bytes;
    consumed = consumes_more l m m2 h.given bytes h.consumed consumed;
    text = h.text ++ passed.text;
    answers = subst (λ (ls : List (List ℕ)). Answers opening ls (h.text ++ passed.text) after) (sym (lines_then h.given line bytes h.rest))
        (answers_then opening c after (lines_in h.given).whole (lines_from line bytes).whole h.text passed.text h.answers passed.answers);
    written = appends-more a b d h.text passed.text h.written passed.written;
    rest = rest ∙ sym (rest_then h.given line bytes h.rest);
    counts = counts ∙ ap (λ (k : ℕ). k + length bytes) h.counts ∙ sym (length-append h.given bytes);
  }

  -- a pull that failed
  pub at_once : {m2 : Option (List ℕ)} → IsSound c → Keeps m m2 → AtOnce l m2 a b
  at_once {m2} sound kept = record {
    given = h.given;
    consumed = consumes_kept l m m2 h.given h.consumed kept;
    text = h.text;
    after = c;
    answers = h.answers;
    written = h.written;
    sound = sound;
  }

  -- no pull any more
  pub at_limit : IsSound c → AtOnce l m a b
  at_limit sound = record {
    given = h.given;
    consumed = h.consumed;
    text = h.text;
    after = c;
    answers = h.answers;
    written = h.written;
    sound = sound;
  }

  -- the sink failed at the answers to a pull's bytes
  pub lost : {m2 d : Option (List ℕ)} (bytes : List ℕ) (after : Counter) → Consumes m m2 bytes
      → LostBatch c (lines_from line bytes).whole after b d → IsSound after → IsBegun l m2 a d
  lost {m2} {d} bytes after consumed broken sound =
      let part = part_then a b d h.text broken.text broken.count h.written broken.written in
      record {
        given = h.given ++ bytes;
        consumed = consumes_more l m m2 h.given bytes h.consumed consumed;
        text = h.text ++ broken.text;
        after = after;
        answers = inl (record {
          lines = (lines_in h.given).whole ++ broken.first;
          more = broken.more ++ last_line (lines_in (h.given ++ bytes)).rest;
          first = ap (λ (ls : List (List ℕ)). ls ++ last_line (lines_in (h.given ++ bytes)).rest)
              (lines_then h.given line bytes h.rest ∙ ap (λ (ls : List (List ℕ)). (lines_in h.given).whole ++ ls) broken.lines_are
              ∙ sym (append_assoc (lines_in h.given).whole broken.first broken.more))
              ∙ append_assoc ((lines_in h.given).whole ++ broken.first) broken.more (last_line (lines_in (h.given ++ bytes)).rest);
          answers = answers_then opening c after (lines_in h.given).whole broken.first h.text broken.text h.answers broken.answers;
        });
        count = part.0;
        written = part.1;
        sound = sound;
      }

  all_answered : (after : Counter) (first : List (List ℕ)) (text : List ℕ) → last_line line ≡ first → Answers c first text after
      → Answers opening (all_lines h.given) (h.text ++ text) after
  all_answered after first text is answers =
      subst (λ (ls : List (List ℕ)). Answers opening ls (h.text ++ text) after)
      (sym (all_then h.given line h.rest ∙ ap (λ (ls : List (List ℕ)). (lines_in h.given).whole ++ ls) is))
      (answers_then opening c after (lines_in h.given).whole first h.text text h.answers answers)

  -- the session of what was given
  session : (after : Counter) (first : List (List ℕ)) (text all : List ℕ) → last_line line ≡ first → Answers c first text after
      → all ≡ text ++ row (end_row after.steps) → Session h.given (h.text ++ all) after
  session after first text all is answers whole = record {
    answered = h.text ++ text;
    answers = all_answered after first text is answers;
    whole = ap (λ (x : List ℕ). h.text ++ x) whole ∙ sym (append_assoc h.text text (row (end_row after.steps)));
  }

  -- the sink failed at the end
  pub broken : {m2 d : Option (List ℕ)} → Consumes m m2 [] → BrokenOff c (last_line line) b d → IsBegun l m2 a d
  broken {m2} {d} consumed off =
      let part = part_then a b d h.text off.all off.count h.written off.written in
      record {
        given = h.given;
        consumed = consumes_last l m m2 h.given h.consumed consumed;
        text = h.text ++ off.all;
        after = off.after;
        answers = elim off.all_is [
          | inl same ↦ inl (record {
            lines = (lines_in h.given).whole ++ off.first;
            more = off.more;
            first = all_then h.given line h.rest ∙ ap (λ (ls : List (List ℕ)). (lines_in h.given).whole ++ ls) off.lines_are
                ∙ sym (append_assoc (lines_in h.given).whole off.first off.more);
            answers = answers_then opening c off.after (lines_in h.given).whole off.first h.text off.all h.answers
                (subst (λ (x : List ℕ). Answers c off.first x off.after) (sym same) off.answers);
          })
          | inr all ↦ inr (session off.after off.first off.text off.all
              (off.lines_are ∙ ap (λ (ls : List (List ℕ)). off.first ++ ls) all.0 ∙ append-nil off.first) off.answers all.1)
        ];
        count = part.0;
        written = part.1;
        sound = off.sound;
      }

  -- the end
  ended_with : {d : Option (List ℕ)} (bytes : List ℕ) → bytes ≡ h.given → Ended c (last_line line) b d → IsAnswered bytes a d
  ended_with {d} bytes is end = record {
    text = h.text ++ (end.text ++ row (end_row end.after.steps));
    after = end.after;
    session = subst (λ (x : List ℕ). Session x (h.text ++ (end.text ++ row (end_row end.after.steps))) end.after) (sym is)
        (session end.after (last_line line) end.text (end.text ++ row (end_row end.after.steps)) refl end.answers refl);
    written = appends-more a b d h.text (end.text ++ row (end_row end.after.steps)) h.written end.written;
    sound = end.sound;
    ends = end.ends;
  }

-- what is known of the bytes that were given
all_given : (l m m2 : Option (List ℕ)) (given : List ℕ) → Consumes l m given → Consumes m m2 [] → IsAtEnd m2
    → IfSome l (λ bytes. bytes ≡ given)
all_given None m m2 given p q end = tt
all_given (Some known) None m2 given p q end = absurd p
all_given (Some known) (Some rest) None given p q end = absurd q
all_given (Some known) (Some rest) (Some last) given p q end =
    p ∙ ap (λ (x : List ℕ). given ++ x) (q ∙ end) ∙ append-nil given

if_some : {P Q : List ℕ → Type 0} (l : Option (List ℕ)) → IfSome l P → ((bytes : List ℕ) → P bytes → Q bytes) → IfSome l Q
if_some None p f = tt
if_some (Some bytes) p f = f bytes p

pub ended_all : {l m a b d : Option (List ℕ)} {c : Counter} {line : List ℕ} {count : ℕ} (end : Option (List ℕ))
    → IsBetween l m a b c line count → Consumes m end [] → IsAtEnd end → Ended c (last_line line) b d
    → IfSome l (λ bytes. IsAnswered bytes a d)
ended_all {l} {m} {a} {b} {d} m2 h consumed end ended =
    if_some {P = λ (bytes : List ℕ). bytes ≡ h.given} {Q = λ (bytes : List ℕ). IsAnswered bytes a d} l
    (all_given l m m2 h.given h.consumed consumed end)
    (λ bytes is. ended_with h bytes is ended)

pub beyond : {l m a b : Option (List ℕ)} {c : Counter} {line : List ℕ} {count : ℕ} → IsBetween l m a b c line count → most_given < count
    → IfSome l (λ bytes. most_given < length bytes)
beyond {l} {m} h more = more_given l m h.given most_given h.consumed (rw (← h.counts) more)
