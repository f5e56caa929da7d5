-- A desk on a plant's file from pull to pull.
use Rattle.std.proofs.Common.{◌≡◌, ◌⊎◌, ◌<◌, ◌+◌, ◌++◌, ◌∙◌, [], refl, sym, ap, subst, inl, inr, ⊎_elim, length-append}
use Rattle.std.proofs.Common.{ℕ, Bool, false, List, Option, Some, None, IfSome, Err, append_assoc, length}
use Rattle.std.{specs.Io.KnownBytes.{Appends, Consumes, Keeps}, proofs.lemmas.List.{append-nil}}
use Rattle.csv.proofs.WriteFacts.{appends-more, appends-none}
use Rattle.title_chain.specs.declared.record.Record.{Record}
use Rattle.title_trace.specs.Trace.{committed}
use Rattle.title_disk.specs.{Crashes.{LeavesOnly}, Laws.Moments.{joined, weakened}}
use Rattle.title_plan.specs.Lands.{land_in}
use Rattle.title_standing.specs.StandingLaws.{ReplayedAreCommitted}
use Rattle.title_spelling.specs.Lands.{kept_land_in}
use Rattle.title_daybook.specs.{Files.{IsPlant}, Standing.{Standing}}
use Rattle.title_counter.specs.{Counters.{Counter}, Limits.{most_given}, Sessions.{Answers, Ends, IsSound}, Laws.LineLaws.{lines_then}}
use Rattle.title_counter.specs.{Lines.{all_lines, last_line, lines_from, lines_in}, Laws.AnswersInTurn.{answers_then}}
use Rattle.title_counter.specs.Laws.{LineLaws.{rest_then, all_then}, GivenBytes.{consumes_kept, consumes_last, consumes_more, more_given}}
use Rattle.title_counter.specs.Laws.GivenBytes.{consumes_none}
use Rattle.title_lasting.specs.{declared.fault.LastingFault.{LastingFault}, Lastings.{Begins}}
use Rattle.title_lasting.specs.Laws.{FineBooks.{stands_written}, FineRows.{LandsHaveCells}, GoingOn.{commits_more}}
use Rattle.title_kept_desk.specs.declared.mark.Mark.{Mark}
use Rattle.title_kept_desk.specs.Desks.{IsAnsweredOnto, IsAtOnceOnto, IsBegunOnto, IsDeskCause, IsServedOn, IsUntold, LeavesDesk}
use Rattle.title_kept_desk.specs.Sittings.{HasAt, HasAtEither, HasCome, HasPart, IsBatch, IsEnded, IsUpTo, end_text, opening_on}
use Rattle.title_kept_desk.proofs.{BatchMade.{opens_fine}, FineCounters.{answers_fare}, RowsEnded.{begins_then}}
use Rattle.title_lasting.specs.declared.fault.LastingFault.TheVariants as fault

-- a text was written, and then nothing
pub appends_kept : (before middle after : Option (List ℕ)) (xs : List ℕ) → Appends before middle xs → Keeps middle after
    → Appends before after xs
appends_kept None middle after xs p q = tt
appends_kept (Some known) None after xs p q = absurd p
appends_kept (Some known) (Some more) None xs p q = absurd q
appends_kept (Some known) (Some more) (Some end) xs p q = q ∙ p

-- ---- what a crash leaves

-- a file that has the first of some lines has the first of more of them
part_of_more : (before at after : Counter) (lines more : List (List ℕ)) (text said : List ℕ) → Answers at more said after
    → (file : List ℕ) → HasPart before lines text at file → HasPart before (lines ++ more) (text ++ said) after file
part_of_more before at after lines more text said further file h = record {
  first = h.first;
  more = h.more ++ more;
  lines_are = ap (λ (ls : List (List ℕ)). ls ++ more) h.lines_are ∙ append_assoc h.first h.more more;
  said = h.said;
  rest = h.rest ++ said;
  text_is = ap (λ (t : List ℕ). t ++ said) h.text_is ∙ append_assoc h.said h.rest said;
  at = h.at;
  answers = h.answers;
  others = answers_then h.at at after h.more more h.rest said h.others further;
  plant = h.plant;
}

-- so has one that has what stands before a batch, or behind it
part_of_either : (before at after : Counter) (lines more : List (List ℕ)) (text said : List ℕ) → Answers before lines text at
    → Answers at more said after → (file : List ℕ) → HasAtEither at after file
    → HasPart before (lines ++ more) (text ++ said) after file
part_of_either before at after lines more text said answers further file here =
    ⊎_elim (λ (h : HasAt at file). record {
      first = lines;
      more = more;
      lines_are = refl;
      said = text;
      rest = said;
      text_is = refl;
      at = at;
      answers = answers;
      others = further;
      plant = h;
    })
    (λ (h : HasAt after file). record {
      first = lines ++ more;
      more = [];
      lines_are = sym (append-nil (lines ++ more));
      said = text ++ said;
      rest = [];
      text_is = sym (append-nil (text ++ said));
      at = after;
      answers = answers_then before at after lines more text said answers further;
      others = (refl, refl);
      plant = h;
    }) here

-- one that has what all lines came to has a part of them
part_of_all : (before at : Counter) (lines : List (List ℕ)) (text : List ℕ) → Answers before lines text at → (file : List ℕ)
    → HasAt at file → HasPart before lines text at file
part_of_all before at lines text answers file here = record {
  first = lines;
  more = [];
  lines_are = sym (append-nil lines);
  said = text;
  rest = [];
  text_is = sym (append-nil text);
  at = at;
  answers = answers;
  others = (refl, refl);
  plant = here;
}

-- ---- between two pulls

-- what is committed goes on from what stood
came_on : LandsHaveCells land_in → LandsHaveCells kept_land_in → ReplayedAreCommitted → (file : List ℕ) (before : Standing)
    → IsPlant file before → (lines : List (List ℕ)) (text : List ℕ) (c : Counter) → Answers (opening_on before) lines text c
    → (news : List Record) × (committed c.trace ≡ news ++ before.records)
came_on lands lands_kept recalled file before stood lines text c answers =
    let was = stands_written lands_kept file before stood.0 in
    let fares = answers_fare before lands (opening_on before) lines text c (opens_fine before was) answers in
    let more = commits_more fares.goes_on.calls (opening_on before).trace in (
      more.0,
      ap committed fares.goes_on.trace_is ∙ more.1 ∙ ap (λ (records : List Record). more.0 ++ records) (recalled before.records).0,
    )

module _ {D : Type 0} (seen : D → List ℕ) (may_leave : D → List ℕ → Type 0) (has_failed : D → Bool) (moment : D → ℕ)
    (left_since : D → ℕ → List ℕ → Type 0) where
  -- these bytes were given, the answers to all whole lines in them were written, and the rest of them waits
  pub record Between (file : List ℕ) (old disk : D) (left left_after taken taken_after : Option (List ℕ)) (c : Counter) (line : List ℕ)
      (count : ℕ) : Type 0 where
    pub before : Standing
    pub stood : IsPlant file before
    pub given : List ℕ
    pub consumed : Consumes left left_after given
    pub text : List ℕ
    pub answers : Answers (opening_on before) (lines_in given).whole text c
    pub any_moment : LeavesOnly moment left_since old disk (HasPart (opening_on before) (lines_in given).whole text c)
    pub written : Appends taken taken_after text
    pub rest : line ≡ (lines_in given).rest
    pub counts : count ≡ length given

  -- before the first pull
  pub at_start : (disk : D) (left taken : Option (List ℕ)) (before : Standing) → IsPlant (seen disk) before → (c : Counter)
      → c ≡ opening_on before → HasAt c (seen disk)
      → ((P : List ℕ → Type 0) → P (seen disk) → LeavesOnly moment left_since disk disk P) → (line : List ℕ) (count : ℕ) → line ≡ []
      → count ≡ 0 → Between (seen disk) disk disk left left taken taken c line count
  at_start disk left taken before stood c first has still line count empty none = record {
    before = before;
    stood = stood;
    given = [];
    consumed = consumes_none left;
    text = [];
    answers = (refl, first);
    any_moment = still (HasPart (opening_on before) [] [] c) (part_of_all (opening_on before) c [] [] (refl, first) (seen disk) has);
    written = appends-none taken;
    rest = empty;
    counts = none;
  }

  module _ (lands : LandsHaveCells land_in) (lands_kept : LandsHaveCells kept_land_in) (recalled : ReplayedAreCommitted)
      {file : List ℕ} {old disk : D} {l m a b : Option (List ℕ)} {c : Counter} {line : List ℕ} {count : ℕ}
      (h : Between file old disk l m a b c line count) where
    -- rows came to this counter
    pub come : HasCome c
    come = record {
      file = file;
      before = h.before;
      stood = h.stood.0;
      lines = (lines_in h.given).whole;
      text = h.text;
      answers = h.answers;
    }

    served_on : (new : D) (lines : List (List ℕ)) (text : List ℕ) (d : Counter) → Answers (opening_on h.before) lines text d → IsSound d
        → LeavesOnly moment left_since old new (HasPart (opening_on h.before) lines text d)
        → IsServedOn h.before (LeavesOnly moment left_since old new) lines text d
    served_on new lines text d answers sound leaves = record {
      answers = answers;
      any_moment = leaves;
      sound = sound;
      goes_on = came_on lands lands_kept recalled file h.before h.stood lines text d answers;
    }

    -- nothing more is served
    pub at_once : {m2 : Option (List ℕ)} (mark : Mark) → IsSound c → IsUpTo seen may_leave has_failed disk mark c
        → Consumes l m2 h.given → IsAtOnceOnto file (seen disk) (may_leave disk) (LeavesOnly moment left_since old disk) l m2 a b
    at_once {m2} mark sound up consumed = record {
      before = h.before;
      stood = h.stood;
      given = h.given;
      consumed = consumed;
      text = h.text;
      after = c;
      served = served_on disk (lines_in h.given).whole h.text c h.answers sound h.any_moment;
      written = h.written;
      stands = up.stands;
      durable = up.rest.durable;
    }

    -- a pull that failed
    pub consumed_kept : (m2 : Option (List ℕ)) → Keeps m m2 → Consumes l m2 h.given
    consumed_kept m2 kept = consumes_kept l m m2 h.given h.consumed kept

    -- a batch more: what a crash leaves
    module _ (new : D) (batch : List (List ℕ)) (said : List ℕ) (d : Counter) (further : Answers c batch said d) where
      all_answers : Answers (opening_on h.before) ((lines_in h.given).whole ++ batch) (h.text ++ said) d
      all_answers = answers_then (opening_on h.before) c d (lines_in h.given).whole batch h.text said h.answers further

      grown : LeavesOnly moment left_since disk new (HasAtEither c d)
          → LeavesOnly moment left_since old new (HasPart (opening_on h.before) ((lines_in h.given).whole ++ batch) (h.text ++ said) d)
      grown leaves =
          joined moment left_since old disk new (HasPart (opening_on h.before) ((lines_in h.given).whole ++ batch) (h.text ++ said) d)
          (weakened moment left_since old disk (HasPart (opening_on h.before) (lines_in h.given).whole h.text c)
          (HasPart (opening_on h.before) ((lines_in h.given).whole ++ batch) (h.text ++ said) d)
          (part_of_more (opening_on h.before) c d (lines_in h.given).whole batch h.text said further) h.any_moment)
          (weakened moment left_since disk new (HasAtEither c d)
          (HasPart (opening_on h.before) ((lines_in h.given).whole ++ batch) (h.text ++ said) d)
          (part_of_either (opening_on h.before) c d (lines_in h.given).whole batch h.text said h.answers further) leaves)

    -- a batch of which nothing is in the file
    stays_part : (new : D) → LeavesOnly moment left_since disk new (HasAt c)
        → LeavesOnly moment left_since old new (HasPart (opening_on h.before) (lines_in h.given).whole h.text c)
    stays_part new leaves =
        joined moment left_since old disk new (HasPart (opening_on h.before) (lines_in h.given).whole h.text c) h.any_moment
        (weakened moment left_since disk new (HasAt c) (HasPart (opening_on h.before) (lines_in h.given).whole h.text c)
        (part_of_all (opening_on h.before) c (lines_in h.given).whole h.text h.answers) leaves)

    -- a pull, and its batch
    pub pulled : {m2 e : Option (List ℕ)} (new : D) (mark : Mark) (sink_failed : Bool) (bytes next : List ℕ) (d : Counter) (n : ℕ)
        → Consumes m m2 bytes
        → ((text : List ℕ) × Answers c (lines_from line bytes).whole text d × IsUpTo seen may_leave has_failed new mark d
        × LeavesOnly moment left_since disk new (HasAtEither c d) × Appends b e text × (sink_failed ≡ false))
        → next ≡ (lines_from line bytes).rest → n ≡ count + length bytes → Between file old new l m2 a e d next n
    pulled {m2} {e} new mark sink_failed bytes next d n consumed batch rest counts = record {
      before = h.before;
      stood = h.stood;
      given = h.given ++ bytes;
      consumed = consumes_more l m m2 h.given bytes h.consumed consumed;
      text = h.text ++ batch.0;
      answers = subst (λ (ls : List (List ℕ)). Answers (opening_on h.before) ls (h.text ++ batch.0) d)
          (sym (lines_then h.given line bytes h.rest))
          (all_answers new (lines_from line bytes).whole batch.0 d batch.1);
      any_moment = subst
          (λ (ls : List (List ℕ)). LeavesOnly moment left_since old new (HasPart (opening_on h.before) ls (h.text ++ batch.0) d))
          (sym (lines_then h.given line bytes h.rest)) (grown new (lines_from line bytes).whole batch.0 d batch.1 batch.3);
      written = appends-more a b e h.text batch.0 h.written batch.4;
      rest = rest ∙ sym (rest_then h.given line bytes h.rest);
      counts = counts ∙ ap (λ (k : ℕ). k + length bytes) h.counts ∙ sym (length-append h.given bytes);
    }

    -- ---- a batch that isn't told

    module _ (m2 e : Option (List ℕ)) (new : D) (mark : Mark) (given : List ℕ) (consumed : Consumes l m2 given)
        (batch others : List (List ℕ)) (lines_are : all_lines given ≡ ((lines_in h.given).whole ++ batch) ++ others)
        (which : ((lines_in h.given).whole ++ batch ≡ (lines_in given).whole) ⊎ ((lines_in h.given).whole ++ batch ≡ all_lines given))
        (d : Counter) (sound_before : IsSound c) (sound : IsSound d) where
      untold : LeavesOnly moment left_since disk new (HasAt c) → ((found : List ℕ) → may_leave new found → HasAt c found) → Keeps b e
          → IsUntold file (seen new) (may_leave new) (LeavesOnly moment left_since old new) l m2 a e
      untold leaves now kept = record {
        before = h.before;
        stood = h.stood;
        given = given;
        consumed = consumed;
        first = (lines_in h.given).whole;
        more = batch ++ others;
        lines_are = lines_are ∙ append_assoc (lines_in h.given).whole batch others;
        text = h.text;
        after = c;
        served = served_on new (lines_in h.given).whole h.text c h.answers sound_before (stays_part new leaves);
        written = appends_kept a b e h.text h.written kept;
        now = now;
      }

      begun : (text : List ℕ) → Answers c batch text d → IsUpTo seen may_leave has_failed new mark d
          → LeavesOnly moment left_since disk new (HasAtEither c d) → (all : List ℕ)
          → (all ≡ h.text ++ text) ⊎ (all ≡ (h.text ++ text) ++ end_text d) → Begins a e all
          → IsBegunOnto file (seen new) (may_leave new) (LeavesOnly moment left_since old new) l m2 a e
      begun text answers up leaves all all_is written = record {
        before = h.before;
        stood = h.stood;
        given = given;
        consumed = consumed;
        lines = (lines_in h.given).whole ++ batch;
        lines_are = which;
        text = h.text ++ text;
        after = d;
        served = served_on new ((lines_in h.given).whole ++ batch) (h.text ++ text) d (all_answers new batch text d answers) sound
            (grown new batch text d answers leaves);
        all = all;
        all_is = all_is;
        count = written.0;
        written = written.1;
        stands = up.stands;
        durable = up.rest.durable;
      }

      pub stopped_at : (why : LastingFault) (sink_failed : Bool)
          → IsBatch seen may_leave has_failed {T = Unit {0}} (Err why) (LeavesOnly moment left_since disk new) new mark c d batch b e
          sink_failed
          → LeavesDesk file (seen new) (may_leave new) (LeavesOnly moment left_since old new) l m2 a e why
      stopped_at (fault.NotAPlant row) sink_failed is = absurd is
      stopped_at fault.Disk sink_failed is = inr (untold is.1 is.2 is.3)
      stopped_at fault.Unsure sink_failed is = record {
        before = h.before;
        stood = h.stood;
        given = given;
        consumed = consumed;
        first = (lines_in h.given).whole;
        batch = batch;
        more = others;
        lines_are = lines_are;
        text = h.text;
        told = c;
        answers = h.answers;
        rest = is.0;
        after = d;
        served = served_on new ((lines_in h.given).whole ++ batch) (h.text ++ is.0) d (all_answers new batch is.0 d is.1) sound
            (grown new batch is.0 d is.1 is.3);
        written = appends_kept a b e h.text h.written is.5;
        now = is.4;
      }
      stopped_at (fault.After last) sink_failed is = absurd is
      stopped_at (fault.Row n) sink_failed is = absurd is
      stopped_at (fault.Order n) sink_failed is = absurd is
      stopped_at (fault.Party n) sink_failed is = absurd is
      stopped_at fault.Read sink_failed is = absurd is
      stopped_at (fault.Joins place) sink_failed is = absurd is
      stopped_at fault.Memory sink_failed is =
          inr (untold is.1 (λ found may. subst (HasAt c) (sym (is.0.rest.durable found may)) is.0.stands) is.2)
      stopped_at fault.Write sink_failed is =
          begun is.0 is.1 is.2 is.3 (h.text ++ is.0) (inl refl) (begins_then a b e h.text is.0 h.written is.4)

      pub cause_at : (why : LastingFault) (source_failed sink_failed : Bool)
          → IsBatch seen may_leave has_failed {T = Unit {0}} (Err why) (LeavesOnly moment left_since disk new) new mark c d batch b e
          sink_failed
          → IsDeskCause file l (has_failed new) source_failed sink_failed why
      cause_at (fault.NotAPlant row) source_failed sink_failed is = absurd is
      cause_at fault.Disk source_failed sink_failed is = is.0
      cause_at fault.Unsure source_failed sink_failed is = is.2
      cause_at (fault.After last) source_failed sink_failed is = absurd is
      cause_at (fault.Row n) source_failed sink_failed is = absurd is
      cause_at (fault.Order n) source_failed sink_failed is = absurd is
      cause_at (fault.Party n) source_failed sink_failed is = absurd is
      cause_at fault.Read source_failed sink_failed is = absurd is
      cause_at (fault.Joins place) source_failed sink_failed is = absurd is
      cause_at fault.Memory source_failed sink_failed is = tt
      cause_at fault.Write source_failed sink_failed is = is.5

    -- the lines of a pull's batch
    pub pull_lines : (bytes : List ℕ) → all_lines (h.given ++ bytes)
        ≡ ((lines_in h.given).whole ++ (lines_from line bytes).whole) ++ last_line (lines_in (h.given ++ bytes)).rest
    pull_lines bytes =
        ap (λ (ls : List (List ℕ)). ls ++ last_line (lines_in (h.given ++ bytes)).rest) (lines_then h.given line bytes h.rest)

    pub pull_whole : (bytes : List ℕ)
        → ((lines_in h.given).whole ++ (lines_from line bytes).whole ≡ (lines_in (h.given ++ bytes)).whole)
        ⊎ ((lines_in h.given).whole ++ (lines_from line bytes).whole ≡ all_lines (h.given ++ bytes))
    pull_whole bytes = inl (sym (lines_then h.given line bytes h.rest))

    pub consumed_more : (m2 : Option (List ℕ)) (bytes : List ℕ) → Consumes m m2 bytes → Consumes l m2 (h.given ++ bytes)
    consumed_more m2 bytes consumed = consumes_more l m m2 h.given bytes h.consumed consumed

    -- ---- the end

    last_lines : all_lines h.given ≡ ((lines_in h.given).whole ++ last_line line) ++ []
    last_lines = all_then h.given line h.rest ∙ sym (append-nil ((lines_in h.given).whole ++ last_line line))

    last_whole : ((lines_in h.given).whole ++ last_line line ≡ (lines_in h.given).whole)
        ⊎ ((lines_in h.given).whole ++ last_line line ≡ all_lines h.given)
    last_whole = inr (sym (all_then h.given line h.rest))

    pub ended_stopped : (m2 e : Option (List ℕ)) (new : D) (mark : Mark) → Consumes m m2 [] → IsSound c
        → (why : LastingFault) (sink_failed : Bool)
        → IsEnded seen may_leave has_failed {T = Unit {0}} (Err why) (LeavesOnly moment left_since disk new) new mark c
        (last_line line) b e sink_failed
        → LeavesDesk file (seen new) (may_leave new) (LeavesOnly moment left_since old new) l m2 a e why
    ended_stopped m2 e new mark consumed sound_before why sink_failed is = go why is
      where
        at_end : Consumes l m2 h.given
        at_end = consumes_last l m m2 h.given h.consumed consumed

        go : (why : LastingFault)
            → IsEnded seen may_leave has_failed {T = Unit {0}} (Err why) (LeavesOnly moment left_since disk new) new mark c
            (last_line line) b e sink_failed
            → LeavesDesk file (seen new) (may_leave new) (LeavesOnly moment left_since old new) l m2 a e why
        go fault.Write is =
            let text : List ℕ = is.2.0 in
            ⊎_elim (λ some. begun m2 e new mark h.given at_end (last_line line) [] last_lines last_whole is.0 sound_before is.1
            text is.2.1 is.2.2 is.2.3 (h.text ++ text) (inl refl) (begins_then a b e h.text text h.written some))
            (λ some. begun m2 e new mark h.given at_end (last_line line) [] last_lines last_whole is.0 sound_before is.1
            text is.2.1 is.2.2 is.2.3 ((h.text ++ text) ++ end_text is.0) (inr refl)
            (subst (λ (t : List ℕ). Begins a e t) (sym (append_assoc h.text text (end_text is.0)))
            (begins_then a b e h.text (text ++ end_text is.0) h.written some))) is.2.4
        go fault.Disk is =
            stopped_at m2 e new mark h.given at_end (last_line line) [] last_lines last_whole is.0 sound_before is.1 fault.Disk
            sink_failed is.2
        go fault.Unsure is =
            stopped_at m2 e new mark h.given at_end (last_line line) [] last_lines last_whole is.0 sound_before is.1 fault.Unsure
            sink_failed is.2
        go fault.Memory is =
            stopped_at m2 e new mark h.given at_end (last_line line) [] last_lines last_whole is.0 sound_before is.1 fault.Memory
            sink_failed is.2
        go (fault.NotAPlant row) is = absurd is.2
        go (fault.After last) is = absurd is.2
        go (fault.Row n) is = absurd is.2
        go (fault.Order n) is = absurd is.2
        go (fault.Party n) is = absurd is.2
        go fault.Read is = absurd is.2
        go (fault.Joins place) is = absurd is.2

    pub ended_cause : (e : Option (List ℕ)) (new : D) (mark : Mark) (why : LastingFault) (source_failed sink_failed : Bool)
        → IsEnded seen may_leave has_failed {T = Unit {0}} (Err why) (LeavesOnly moment left_since disk new) new mark c
        (last_line line) b e sink_failed
        → IsDeskCause file l (has_failed new) source_failed sink_failed why
    ended_cause e new mark (fault.NotAPlant row) source_failed sink_failed is = absurd is.2
    ended_cause e new mark fault.Disk source_failed sink_failed is = is.2.0
    ended_cause e new mark fault.Unsure source_failed sink_failed is = is.2.2
    ended_cause e new mark (fault.After last) source_failed sink_failed is = absurd is.2
    ended_cause e new mark (fault.Row n) source_failed sink_failed is = absurd is.2
    ended_cause e new mark (fault.Order n) source_failed sink_failed is = absurd is.2
    ended_cause e new mark (fault.Party n) source_failed sink_failed is = absurd is.2
    ended_cause e new mark fault.Read source_failed sink_failed is = absurd is.2
    ended_cause e new mark (fault.Joins place) source_failed sink_failed is = absurd is.2
    ended_cause e new mark fault.Memory source_failed sink_failed is = tt
    ended_cause e new mark fault.Write source_failed sink_failed is = is.2.5

    pub answered_all : {m2 e : Option (List ℕ)} (new : D) (mark : Mark) → Consumes m m2 []
        → ((d : Counter) × IsSound d × Ends d
        × ((text : List ℕ) × Answers c (last_line line) text d × IsUpTo seen may_leave has_failed new mark d
        × LeavesOnly moment left_since disk new (HasAtEither c d) × Appends b e (text ++ end_text d)))
        → IsAnsweredOnto file (seen new) (may_leave new) (LeavesOnly moment left_since old new) l m2 a e
    answered_all {m2} {e} new mark consumed is = record {
      before = h.before;
      stood = h.stood;
      given = h.given;
      consumed = consumes_last l m m2 h.given h.consumed consumed;
      text = h.text ++ is.3.0;
      after = is.0;
      served = subst
          (λ (ls : List (List ℕ)). IsServedOn h.before (LeavesOnly moment left_since old new) ls (h.text ++ is.3.0) is.0)
          (sym (all_then h.given line h.rest))
          (served_on new ((lines_in h.given).whole ++ last_line line) (h.text ++ is.3.0) is.0
          (all_answers new (last_line line) is.3.0 is.0 is.3.1) is.1 (grown new (last_line line) is.3.0 is.0 is.3.1 is.3.3));
      written = subst (λ (t : List ℕ). Appends a e t) (sym (append_assoc h.text is.3.0 (end_text is.0)))
          (appends-more a b e h.text (is.3.0 ++ end_text is.0) h.written is.3.4);
      stands = is.3.2.stands;
      durable = is.3.2.rest.durable;
      ends = is.2;
    }

  pub beyond : {file : List ℕ} {old disk : D} {l m a b : Option (List ℕ)} {c : Counter} {line : List ℕ} {count : ℕ}
      → Between file old disk l m a b c line count → most_given < count → IfSome l (λ bytes. most_given < length bytes)
  beyond {file} {old} {disk} {l} {m} h more = more_given l m h.given most_given h.consumed (rw (← h.counts) more)
