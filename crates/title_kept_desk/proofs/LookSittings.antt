-- A desk that only looks, from pull to pull.
use Rattle.std.proofs.Common.{◌≡◌, ◌∙◌, ◌<◌, ◌+◌, ◌++◌, ◌⊎◌, [], refl, sym, ap, subst, inl, inr, ⊎_elim, ℕ, Bool, true, List, Option}
use Rattle.std.{proofs.Common.{IfSome, Err, append_assoc, length, length-append, map}, specs.Io.KnownBytes.{Appends, Consumes, Keeps}}
use Rattle.std.proofs.lemmas.List.{append-nil, map-append}
use Rattle.csv.proofs.WriteFacts.{appends-more, appends-none}
use Rattle.title_counter.specs.{Counters.{Counter}, Limits.{most_given}, Lines.{all_lines, last_line, lines_from, lines_in}}
use Rattle.title_counter.specs.{Sessions.{Answers, Ends, IsSound, LostBatch, PassedBatch}, Laws.AnswersInTurn.{answers_then}}
use Rattle.title_counter.specs.Laws.{LineLaws.{lines_then, rest_then, all_then}, GivenBytes.{consumes_kept, consumes_last, consumes_more}}
use Rattle.title_counter.specs.Laws.GivenBytes.{consumes_none, more_given}
use Rattle.title_lasting.specs.{declared.fault.LastingFault.{LastingFault}, Lastings.{Begins}}
use Rattle.title_kept_desk.specs.LookDesks.{IsLooksCause, IsUntoldLook, LeavesLooks, BrokenLooks, EndedLooks, IsAnsweredLook, IsAtOnceLook}
use Rattle.title_kept_desk.specs.LookDesks.{IsBegunLook, IsLookBatch, IsLookEnd}
use Rattle.title_kept_desk.specs.{LookLines.{IsStart, as_look}, Sittings.{end_text}}
use Rattle.title_kept_desk.proofs.{LookLines.{no_start, starts_on}, DeskSittings.{appends_kept}, RowsEnded.{begins_then}}
use Rattle.title_lasting.specs.declared.fault.LastingFault.TheVariants as fault

-- ---- batches

-- answers to lines are answers to the same lines
pub passed_as : (c d : Counter) (xs ys : List (List ℕ)) (a b : Option (List ℕ)) → xs ≡ ys → PassedBatch c xs d a b → PassedBatch c ys d a b
passed_as c d xs ys a b same h = subst (λ (ls : List (List ℕ)). PassedBatch c ls d a b) same h

pub lost_as : (c d : Counter) (xs ys : List (List ℕ)) (a b : Option (List ℕ)) → xs ≡ ys → LostBatch c xs d a b → LostBatch c ys d a b
lost_as c d xs ys a b same h = subst (λ (ls : List (List ℕ)). LostBatch c ls d a b) same h

-- ---- the end

-- the last line isn't answered
pub unlooked : (c d : Counter) (lines : List (List ℕ)) (a b : Option (List ℕ)) (e : LastingFault) (sink_failed : Bool)
    → IsLookBatch {T = Unit {0}} (Err e) c d lines a b sink_failed → IsLookEnd {T = Unit {0}} (Err e) c lines a b sink_failed
unlooked c d lines a b (fault.NotAPlant row) sink_failed is = absurd is
unlooked c d lines a b fault.Disk sink_failed is = absurd is
unlooked c d lines a b fault.Unsure sink_failed is = absurd is
unlooked c d lines a b (fault.After last) sink_failed is = absurd is
unlooked c d lines a b (fault.Row n) sink_failed is = absurd is
unlooked c d lines a b (fault.Order n) sink_failed is = absurd is
unlooked c d lines a b (fault.Party n) sink_failed is = absurd is
unlooked c d lines a b fault.Read sink_failed is = absurd is
unlooked c d lines a b (fault.Joins place) sink_failed is = absurd is
unlooked c d lines a b fault.Memory sink_failed is = is
unlooked c d lines a b fault.Write sink_failed is = (
  record {
    first = is.0.first;
    more = is.0.more;
    lines_are = is.0.lines_are;
    text = is.0.text;
    after = d;
    answers = is.0.answers;
    sound = is.1;
    all = is.0.text;
    all_is = inl refl;
    count = is.0.count;
    written = is.0.written;
  },
  is.2,
)

-- it is answered, and the last row isn't written, or it is
module _ (c d : Counter) (lines : List (List ℕ)) (a b e : Option (List ℕ)) (passed : PassedBatch c lines d a b) (sound : IsSound d) where
  pub row_broken : (sink_failed : Bool) → Begins b e (end_text d) → sink_failed ≡ true
      → IsLookEnd {T = Unit {0}} (Err fault.Write) c lines a e sink_failed
  row_broken sink_failed begun failed =
      let part = begins_then a b e passed.text (end_text d) passed.written begun in (
        record {
          first = lines;
          more = [];
          lines_are = sym (append-nil lines);
          text = passed.text;
          after = d;
          answers = passed.answers;
          sound = sound;
          all = passed.text ++ end_text d;
          all_is = inr (refl, refl);
          count = part.0;
          written = part.1;
        },
        failed,
      )

  pub row_written : Appends b e (end_text d) → Ends d → EndedLooks c lines a e
  row_written written ends = record {
    text = passed.text;
    after = d;
    answers = passed.answers;
    sound = sound;
    ends = ends;
    written = appends-more a b e passed.text (end_text d) passed.written written;
  }

-- ---- between two pulls

-- these bytes were given, the answers to all whole lines in them were written, and the rest of them waits
pub record LooksBetween (before : Counter) (left left_after taken taken_after : Option (List ℕ)) (c : Counter) (line : List ℕ) (count : ℕ)
    : Type 0 where
  pub given : List ℕ
  pub consumed : Consumes left left_after given
  pub text : List ℕ
  pub answers : Answers before (map as_look (lines_in given).whole) text c
  pub written : Appends taken taken_after text
  pub rest : line ≡ (lines_in given).rest
  pub counts : count ≡ length given

pub looks_begin : (c : Counter) (left taken : Option (List ℕ)) (line : List ℕ) (count : ℕ) → line ≡ [] → count ≡ 0
    → LooksBetween c left left taken taken c line count
looks_begin c left taken line count empty none = record {
  given = [];
  consumed = consumes_none left;
  text = [];
  answers = (refl, refl);
  written = appends-none taken;
  rest = empty;
  counts = none;
}

module _ {before : Counter} {l m a b : Option (List ℕ)} {c : Counter} {line : List ℕ} {count : ℕ}
    (h : LooksBetween before l m a b c line count) where
  -- what waits is the beginning of a line
  pub waits : IsStart line
  waits = subst IsStart (sym h.rest) (starts_on [] h.given no_start).1

  -- what the lines count as
  looks_then : (bytes : List ℕ) → map as_look (lines_in (h.given ++ bytes)).whole
      ≡ map as_look (lines_in h.given).whole ++ map as_look (lines_from line bytes).whole
  looks_then bytes =
      ap (λ (ls : List (List ℕ)). map as_look ls) (lines_then h.given line bytes h.rest)
      ∙ map-append as_look (lines_in h.given).whole (lines_from line bytes).whole

  all_looks : map as_look (all_lines h.given) ≡ map as_look (lines_in h.given).whole ++ map as_look (last_line line)
  all_looks =
      ap (λ (ls : List (List ℕ)). map as_look ls) (all_then h.given line h.rest)
      ∙ map-append as_look (lines_in h.given).whole (last_line line)

  -- a pull, and the answers to its bytes
  pub looked : {m2 e : Option (List ℕ)} (bytes next : List ℕ) (d : Counter) (n : ℕ) → Consumes m m2 bytes
      → PassedBatch c (map as_look (lines_from line bytes).whole) d b e → next ≡ (lines_from line bytes).rest → n ≡ count + length bytes
      → LooksBetween before l m2 a e d next n
  looked {m2} {e} bytes next d n consumed passed rest counts = record {
    given = h.given ++ bytes;
    consumed = consumes_more l m m2 h.given bytes h.consumed consumed;
    text = h.text ++ passed.text;
    answers = subst (λ (ls : List (List ℕ)). Answers before ls (h.text ++ passed.text) d) (sym (looks_then bytes))
        (answers_then before c d (map as_look (lines_in h.given).whole) (map as_look (lines_from line bytes).whole) h.text passed.text
        h.answers passed.answers);
    written = appends-more a b e h.text passed.text h.written passed.written;
    rest = rest ∙ sym (rest_then h.given line bytes h.rest);
    counts = counts ∙ ap (λ (k : ℕ). k + length bytes) h.counts ∙ sym (length-append h.given bytes);
  }

  -- nothing more is answered
  pub at_once : {m2 : Option (List ℕ)} → IsSound c → Consumes l m2 h.given → IsAtOnceLook before l m2 a b
  at_once {m2} sound consumed = record {
    given = h.given;
    consumed = consumed;
    text = h.text;
    after = c;
    answers = h.answers;
    sound = sound;
    written = h.written;
  }

  -- a pull that failed
  pub given_kept : (m2 : Option (List ℕ)) → Keeps m m2 → Consumes l m2 h.given
  given_kept m2 kept = consumes_kept l m m2 h.given h.consumed kept

  -- the lines of a pull's bytes can't be held
  untold : {m2 e : Option (List ℕ)} (bytes : List ℕ) → IsSound c → Consumes m m2 bytes → Keeps b e → IsUntoldLook before l m2 a e
  untold {m2} {e} bytes sound consumed kept =
      let batch : List (List ℕ) = (lines_from line bytes).whole in
      let last : List (List ℕ) = last_line (lines_in (h.given ++ bytes)).rest in
      record {
        given = h.given ++ bytes;
        consumed = consumes_more l m m2 h.given bytes h.consumed consumed;
        first = (lines_in h.given).whole;
        more = batch ++ last;
        lines_are = ap (λ (ls : List (List ℕ)). ls ++ last) (lines_then h.given line bytes h.rest)
            ∙ append_assoc (lines_in h.given).whole batch last;
        text = h.text;
        after = c;
        answers = h.answers;
        sound = sound;
        written = appends_kept a b e h.text h.written kept;
      }

  -- the sink failed at the answers to a pull's bytes
  lost : {m2 e : Option (List ℕ)} (bytes : List ℕ) (d : Counter) → Consumes m m2 bytes
      → LostBatch c (map as_look (lines_from line bytes).whole) d b e → IsSound d → IsBegunLook before l m2 a e
  lost {m2} {e} bytes d consumed broken sound =
      let part = begins_then a b e h.text broken.text h.written (broken.count, broken.written) in
      let whole : List (List ℕ) = map as_look (lines_in h.given).whole in
      let last : List (List ℕ) = map as_look (last_line (lines_in (h.given ++ bytes)).rest) in
      record {
        given = h.given ++ bytes;
        consumed = consumes_more l m m2 h.given bytes h.consumed consumed;
        first = whole ++ broken.first;
        more = broken.more ++ last;
        lines_are = map-append as_look (lines_in (h.given ++ bytes)).whole (last_line (lines_in (h.given ++ bytes)).rest)
            ∙ ap (λ (ls : List (List ℕ)). ls ++ last)
            (looks_then bytes ∙ ap (λ (ls : List (List ℕ)). whole ++ ls) broken.lines_are
            ∙ sym (append_assoc whole broken.first broken.more))
            ∙ append_assoc (whole ++ broken.first) broken.more last;
        text = h.text ++ broken.text;
        after = d;
        answers = answers_then before c d whole broken.first h.text broken.text h.answers broken.answers;
        sound = sound;
        all = h.text ++ broken.text;
        all_is = inl refl;
        count = part.0;
        written = part.1;
      }

  pub batch_stopped : (m2 e : Option (List ℕ)) (bytes : List ℕ) (d : Counter) (sink_failed : Bool) → IsSound c → Consumes m m2 bytes
      → (why : LastingFault)
      → IsLookBatch {T = Unit {0}} (Err why) c d (map as_look (lines_from line bytes).whole) b e sink_failed
      → LeavesLooks before l m2 a e why
  batch_stopped m2 e bytes d sink_failed sound consumed (fault.NotAPlant row) is = absurd is
  batch_stopped m2 e bytes d sink_failed sound consumed fault.Disk is = absurd is
  batch_stopped m2 e bytes d sink_failed sound consumed fault.Unsure is = absurd is
  batch_stopped m2 e bytes d sink_failed sound consumed (fault.After last) is = absurd is
  batch_stopped m2 e bytes d sink_failed sound consumed (fault.Row n) is = absurd is
  batch_stopped m2 e bytes d sink_failed sound consumed (fault.Order n) is = absurd is
  batch_stopped m2 e bytes d sink_failed sound consumed (fault.Party n) is = absurd is
  batch_stopped m2 e bytes d sink_failed sound consumed fault.Read is = absurd is
  batch_stopped m2 e bytes d sink_failed sound consumed (fault.Joins place) is = absurd is
  batch_stopped m2 e bytes d sink_failed sound consumed fault.Memory is = untold bytes sound consumed is
  batch_stopped m2 e bytes d sink_failed sound consumed fault.Write is = lost bytes d consumed is.0 is.1

  -- the last line can't be held
  untold_last : {m2 e : Option (List ℕ)} → IsSound c → Consumes m m2 [] → Keeps b e → IsUntoldLook before l m2 a e
  untold_last {m2} {e} sound consumed kept = record {
    given = h.given;
    consumed = consumes_last l m m2 h.given h.consumed consumed;
    first = (lines_in h.given).whole;
    more = last_line line;
    lines_are = all_then h.given line h.rest;
    text = h.text;
    after = c;
    answers = h.answers;
    sound = sound;
    written = appends_kept a b e h.text h.written kept;
  }

  -- the sink failed at the end
  broken_last : {m2 e : Option (List ℕ)} → Consumes m m2 [] → BrokenLooks c (map as_look (last_line line)) b e
      → IsBegunLook before l m2 a e
  broken_last {m2} {e} consumed off =
      let part = begins_then a b e h.text off.all h.written (off.count, off.written) in
      let whole : List (List ℕ) = map as_look (lines_in h.given).whole in
      record {
        given = h.given;
        consumed = consumes_last l m m2 h.given h.consumed consumed;
        first = whole ++ off.first;
        more = off.more;
        lines_are = all_looks ∙ ap (λ (ls : List (List ℕ)). whole ++ ls) off.lines_are ∙ sym (append_assoc whole off.first off.more);
        text = h.text ++ off.text;
        after = off.after;
        answers = answers_then before c off.after whole off.first h.text off.text h.answers off.answers;
        sound = off.sound;
        all = h.text ++ off.all;
        all_is = ⊎_elim (λ same. inl (ap (λ (t : List ℕ). h.text ++ t) same))
            (λ whole_text. inr (
              whole_text.0,
              ap (λ (t : List ℕ). h.text ++ t) whole_text.1
                  ∙ sym (append_assoc h.text off.text (end_text off.after)),
            )) off.all_is;
        count = part.0;
        written = part.1;
      }

  pub end_stopped : (m2 e : Option (List ℕ)) (sink_failed : Bool) → IsSound c → Consumes m m2 [] → (why : LastingFault)
      → IsLookEnd {T = Unit {0}} (Err why) c (map as_look (last_line line)) b e sink_failed → LeavesLooks before l m2 a e why
  end_stopped m2 e sink_failed sound consumed (fault.NotAPlant row) is = absurd is
  end_stopped m2 e sink_failed sound consumed fault.Disk is = absurd is
  end_stopped m2 e sink_failed sound consumed fault.Unsure is = absurd is
  end_stopped m2 e sink_failed sound consumed (fault.After last) is = absurd is
  end_stopped m2 e sink_failed sound consumed (fault.Row n) is = absurd is
  end_stopped m2 e sink_failed sound consumed (fault.Order n) is = absurd is
  end_stopped m2 e sink_failed sound consumed (fault.Party n) is = absurd is
  end_stopped m2 e sink_failed sound consumed fault.Read is = absurd is
  end_stopped m2 e sink_failed sound consumed (fault.Joins place) is = absurd is
  end_stopped m2 e sink_failed sound consumed fault.Memory is = untold_last sound consumed is
  end_stopped m2 e sink_failed sound consumed fault.Write is = broken_last consumed is.0

  -- the end
  pub answered_all : {m2 e : Option (List ℕ)} → Consumes m m2 [] → EndedLooks c (map as_look (last_line line)) b e
      → IsAnsweredLook before l m2 a e
  answered_all {m2} {e} consumed end = record {
    given = h.given;
    consumed = consumes_last l m m2 h.given h.consumed consumed;
    text = h.text ++ end.text;
    after = end.after;
    answers = subst (λ (ls : List (List ℕ)). Answers before ls (h.text ++ end.text) end.after) (sym all_looks)
        (answers_then before c end.after (map as_look (lines_in h.given).whole) (map as_look (last_line line)) h.text end.text h.answers
        end.answers);
    sound = end.sound;
    ends = end.ends;
    written = subst (λ (t : List ℕ). Appends a e t) (sym (append_assoc h.text end.text (end_text end.after)))
        (appends-more a b e h.text (end.text ++ end_text end.after) h.written end.written);
  }

  -- more was given than anybody waits for
  pub beyond : most_given < count → IfSome l (λ bytes. most_given < length bytes)
  beyond more = more_given l m h.given most_given h.consumed (rw (← h.counts) more)

-- ---- why

pub batch_cause : (c d : Counter) (lines : List (List ℕ)) (l b e : Option (List ℕ)) (source_failed sink_failed : Bool) (why : LastingFault)
    → IsLookBatch {T = Unit {0}} (Err why) c d lines b e sink_failed → IsLooksCause l source_failed sink_failed why
batch_cause c d lines l b e source_failed sink_failed (fault.NotAPlant row) is = absurd is
batch_cause c d lines l b e source_failed sink_failed fault.Disk is = absurd is
batch_cause c d lines l b e source_failed sink_failed fault.Unsure is = absurd is
batch_cause c d lines l b e source_failed sink_failed (fault.After last) is = absurd is
batch_cause c d lines l b e source_failed sink_failed (fault.Row n) is = absurd is
batch_cause c d lines l b e source_failed sink_failed (fault.Order n) is = absurd is
batch_cause c d lines l b e source_failed sink_failed (fault.Party n) is = absurd is
batch_cause c d lines l b e source_failed sink_failed fault.Read is = absurd is
batch_cause c d lines l b e source_failed sink_failed (fault.Joins place) is = absurd is
batch_cause c d lines l b e source_failed sink_failed fault.Memory is = tt
batch_cause c d lines l b e source_failed sink_failed fault.Write is = is.2

pub end_cause : (c : Counter) (lines : List (List ℕ)) (l b e : Option (List ℕ)) (source_failed sink_failed : Bool) (why : LastingFault)
    → IsLookEnd {T = Unit {0}} (Err why) c lines b e sink_failed → IsLooksCause l source_failed sink_failed why
end_cause c lines l b e source_failed sink_failed (fault.NotAPlant row) is = absurd is
end_cause c lines l b e source_failed sink_failed fault.Disk is = absurd is
end_cause c lines l b e source_failed sink_failed fault.Unsure is = absurd is
end_cause c lines l b e source_failed sink_failed (fault.After last) is = absurd is
end_cause c lines l b e source_failed sink_failed (fault.Row n) is = absurd is
end_cause c lines l b e source_failed sink_failed (fault.Order n) is = absurd is
end_cause c lines l b e source_failed sink_failed (fault.Party n) is = absurd is
end_cause c lines l b e source_failed sink_failed fault.Read is = absurd is
end_cause c lines l b e source_failed sink_failed (fault.Joins place) is = absurd is
end_cause c lines l b e source_failed sink_failed fault.Memory is = tt
end_cause c lines l b e source_failed sink_failed fault.Write is = is.1
