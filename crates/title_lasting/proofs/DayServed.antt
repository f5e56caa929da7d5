-- A script that is served at a desk which has served what stood: what comes of it is the day's.
use Rattle.std.proofs.Common.{◌≡◌, ◌∙◌, ◌≤◌, ◌<◌, ◌^◌, ℕ, true, List, length, take, reverse}
use Rattle.std.proofs.Common.{Option, Result, Ok, refl, sym, ap, subst, arith}
use Rattle.std.proofs.lemmas.List.{length-append, length-map, length-reverse, reverse-reverse, take_at}
use mathlib.Core.List.{IsPrefix}
use Rattle.title_land.specs.{Depth.{depth}, declared.survey.Township.{Township}}
use Rattle.title_store.specs.Plants.{Plant}
use Rattle.title_chain.specs.{declared.record.Record.{Record}, Alone.{most_parties}}
use Rattle.title_trace.specs.{declared.call.Call.{Call}, Trace.{committed}, Due.{MayOpen, Setting, most_townships}}
use Rattle.title_trace.specs.Serial.{IdleHaveNoSteps}
use Rattle.title_desk.specs.{Headline.{Headline}, Told.{Books}}
use Rattle.title_plan.specs.{Asked.{Asked, asked_in}, Onto.{BeginsWith}, Townships.{each_once}, declared.line.Line.{Line}}
use Rattle.title_plan.specs.declared.{line.Schedule.{Schedule}, plan.Plan.{Plan}}
use Rattle.title_script.specs.{ReportLaws.{after_lines}, Reports.{report_onto}, Told.{served_text}}
use Rattle.title_standing.specs.{Standing.{kept}, StandingLaws.{KeptAreSerial, ReplayedAreCommitted}}
use Rattle.title_spelling.specs.Posts.{IsExaminer}
use Rattle.title_daybook.specs.{AddedLaws.{AddedReadsBack, CanBeWritten, KeptAreWritten}, Files.{standing_after}, Standing.{Standing}}
use Rattle.title_daybook.specs.declared.writing.Stood.{Stood}
use Rattle.title_lasting.specs.{declared.serving.Made.{Made}, Days.{Day, declared_in, evening, morning, setting_on, stands_after}}
use Rattle.title_lasting.specs.{Kept.{text_in}, Replays.{HasServed}, Made.{HasStood, IsAddedBlock, IsAsked, IsMade, IsServedAt, served_at}}
use Rattle.title_lasting.specs.Laws.{Additions.{Comes, block_is_new, calls_come, news_behind}, CallsMore.{lines_more, steps_go_on}}
use Rattle.title_lasting.specs.Laws.{FineBooks.{IsWritten}, FineScripts.{FineAsk, IsFine}, GoingOn.{commits_more}}

-- ---- what stood is the beginning

pub front_stands : {A : Type 0} (n : ℕ) (xs ys : List A) → n ≡ length xs → IsPrefix xs ys → take n ys ≡ xs
front_stands n xs ys is p = ap (take n) (sym p.1) ∙ take_at xs p.0 n (sym is)

pub no_fewer : {A : Type 0} (xs ys : List A) → IsPrefix xs ys → length xs ≤ length ys
no_fewer xs ys p = omega (arith, length-append xs p.0, ap length p.1)

-- a desk can be opened with the townships of a plan
pub may_open_widest : (parties : ℕ) (townships : List Township) → MayOpen parties townships → MayOpen most_parties townships
may_open_widest parties townships may = (omega arith, omega arith, may.2, may.3)

-- steps take back nothing that was committed
pub committed_stay : (setting : Setting) (before : List Call) (lines : List Line)
    → length (committed before) ≤ length (committed (after_lines setting before lines))
committed_stay setting before lines =
    let more = steps_go_on setting before lines in
    let news = commits_more more.0 before in
    omega (
      arith,
      ap (λ (t : List Call). length (committed t)) more.1,
      ap length news.1,
      length-append news.0 (committed before),
    )

-- a desk that has served records has committed as many
pub served_many : ReplayedAreCommitted → (townships : List Township) (records : List Record) (desk : Books) (kept : ℕ)
    → HasServed townships records desk → kept ≡ length records → length (committed desk.trace) ≡ kept
served_many recalled townships records desk kept has many =
    ap (λ (t : List Call). length (committed t)) has.trace ∙ ap length (recalled records).0 ∙ sym many

-- ---- what was served

-- what is told of one setting and trace is told of others that are the same
pub at_same : (P : Setting → List Call → Type 0) (s t : Setting) (before after : List Call) → s ≡ t → before ≡ after
    → P s before → P t after
at_same P s t before after same_setting same_trace p =
    subst (P t) same_trace (subst (λ (setting : Setting). P setting before) same_setting p)

-- of the records that a desk has now the first are those that it had
pub no_fewer_records : (setting : Setting) (before after : List Call) (lines : List Line) (records : List Record) (stood : ℕ)
    → reverse records ≡ committed after → after ≡ after_lines setting before lines → length (committed before) ≡ stood
    → stood ≤ length records
no_fewer_records setting before after lines records stood told trace many =
    omega (
      arith,
      committed_stay setting before lines,
      ap (λ (t : List Call). length (committed t)) trace,
      ap length told,
      length-reverse records,
    )

-- declarations that came back are the same
pub declared_alike : (told plan : Plan) → (told.parties ≡ plan.parties) × (told.townships ≡ plan.townships)
    → ((asked_in told).townships ≡ (asked_in plan).townships) × ((asked_in told).names ≡ (asked_in plan).names)
declared_alike told plan same = (cc same.1, cc same.0)

-- what a desk tells when it has served a plan, of which the declarations came back
pub is_served_at : (desk now : Books) (stood : Stood) (asked told : Asked) (content : Plant) (records : List Record) (made : Made)
    → now.setting ≡ desk.setting → now.trace ≡ served_at desk asked
    → served_text made.served ≡ report_onto desk.setting desk.trace asked → told.townships ≡ asked.townships → told.names ≡ asked.names
    → Headline now.setting now.trace content (reverse records)
    → IsAddedBlock stood told.townships told.names records (text_in made.block) → IsServedAt desk stood asked made
is_served_at desk now stood asked told content records made same_setting same_trace report townships names headline block =
    let told_all = subst (Headline now.setting now.trace content) headline.records_are_committed headline in
    let turned : records ≡ reverse (committed (served_at desk asked)) =
    sym (reverse-reverse records) ∙ ap reverse headline.records_are_committed
    ∙ ap (λ (t : List Call). reverse (committed t)) same_trace in
    record {
      report = report;
      headline = (
        content,
        at_same (λ (s : Setting) (t : List Call). Headline s t content (committed t)) now.setting desk.setting now.trace
            (served_at desk asked) same_setting same_trace told_all,
      );
      block = subst (λ (rs : List Record). IsAddedBlock stood asked.townships asked.names rs (text_in made.block)) turned
          (subst (λ (ns : List (List ℕ)). IsAddedBlock stood asked.townships ns records (text_in made.block)) names
          (subst (λ (ts : List Township). IsAddedBlock stood ts told.names records (text_in made.block)) townships block));
    }

-- ---- the day

module _ (recalled : ReplayedAreCommitted) (idle : IdleHaveNoSteps depth) (serial : KeptAreSerial) (added : AddedReadsBack)
    (written : KeptAreWritten) (sched : Schedule) (before : Standing) (left : Option (List ℕ)) (asked : Asked)
    (is_asked : IsAsked sched (declared_in before) left asked) (begins : BeginsWith asked (declared_in before))
    (found : Result (List (List ℕ)) ℕ) (stands : standing_after found ≡ Ok before) (old : IsWritten before) (fine : IsFine asked)
    (once : each_once asked.townships ≡ true) (few_townships : length asked.townships ≤ most_townships)
    (desk : Books) (has : HasServed asked.townships before.records desk) (stood : Stood)
    (so_much : HasStood stood before) (made : Made) (is : IsServedAt desk stood asked made)
    (few : length (committed (served_at desk asked)) < 2 ^ 64) where
  abbrev day : Day
  day = record { before = before; asked = asked }

  -- what is told of the desk is told of the day's
  on_day : (P : Setting → List Call → Type 0) → P desk.setting desk.trace → P (setting_on day) (morning day)
  on_day P p = at_same P desk.setting (setting_on day) desk.trace (morning day) has.setting has.trace p

  headline : (content : Plant) × Headline (setting_on day) (evening day) content (committed (evening day))
  headline =
      on_day (λ (s : Setting) (t : List Call). (content : Plant)
      × Headline s (after_lines s t asked.lines) content (committed (after_lines s t asked.lines))) is.headline

  few_records : length (committed (evening day)) < 2 ^ 64
  few_records = on_day (λ (s : Setting) (t : List Call). length (committed (after_lines s t asked.lines)) < 2 ^ 64) few

  block : IsAddedBlock stood asked.townships asked.names (reverse (committed (evening day))) (text_in made.block)
  block =
      on_day (λ (s : Setting) (t : List Call). IsAddedBlock stood asked.townships asked.names
      (reverse (committed (after_lines s t asked.lines))) (text_in made.block)) is.block

  -- what the script's steps have come to
  come : Comes before asked.names (committed (evening day))
  come =
      calls_come recalled idle before old asked.names begins.1 (setting_on day) (evening day)
      (lines_more IsExaminer (FineAsk asked.names) (setting_on day) (morning day) asked.lines fine.lines)
      headline.1.each_reply_is_due

  can : CanBeWritten (stands_after day)
  can = record {
    once = once;
    few_townships = few_townships;
    names = fine.names;
    texts = fine.texts;
    few_names = fine.few;
    few_records = omega (arith, few_records, length-map (committed (evening day)) kept);
    records = come.can;
  }

  pub is_made : IsMade sched before left made
  is_made = record {
    day = day;
    stood = refl;
    script = is_asked.script;
    read = is_asked.read;
    asks = is_asked.asks;
    joined = has.serial;
    goes_on = (come.news, come.goes_on);
    headline = headline;
    report = on_day (λ (s : Setting) (t : List Call). served_text made.served ≡ report_onto s t asked) is.report;
    serial = (serial depth asked.townships (committed (evening day)) headline.1.committed_are_serial).0;
    is_new = block_is_new added written before (stands_after day) come.news begins.0 begins.1 come.are_kept can found stands stood so_much
        (reverse (committed (evening day)))
        (news_behind (reverse (committed (evening day))) come.news before.records stood.records
        (reverse-reverse (committed (evening day)) ∙ come.goes_on) so_much.records) (text_in made.block) block;
  }
