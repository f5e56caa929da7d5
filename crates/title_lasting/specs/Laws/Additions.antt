-- What comes to what stood in a plant's file can be written there, and its block adds it. Lists of records and of calls have the newest
-- first, but for the records of which a block is made.
use Rattle.std.{proofs.Common.{◌≡◌, ◌∙◌, ◌+◌, ℕ, List, [], ◌++◌, length, map, reverse, drop}, specs.List.{AllByRecursion}}
use Rattle.std.proofs.Common.{Option, Some, None, Result, Ok, refl, sym, ap, subst, arith}
use Rattle.std.proofs.lemmas.List.{length-append, length-map, length-reverse, map-append, reverse-append, reverse-reverse}
use mathlib.Core.List.{IsPrefix}
use Rattle.title_land.specs.Depth.{depth}
use Rattle.title_chain.specs.declared.record.Record.{Record}
use Rattle.title_trace.specs.{declared.call.Call.{Call}, Trace.{committed, open_steps}, Due.{IsDue, Setting}, Serial.{IdleHaveNoSteps}}
use Rattle.title_journal.specs.{Blocks.{IsBlock}, Rest.{with_block}}
use Rattle.title_standing.specs.{Standing.{kept, replayed}, StandingLaws.{ReplayedAreCommitted}}
use Rattle.title_standing.specs.Laws.ShortRecords.{committed_are_short}
use Rattle.title_spelling.specs.Posts.{IsExaminer}
use Rattle.title_daybook.specs.{Added.{added_block, rows_of, text_of, IsOn}, Files.{standing_after}, Standing.{Standing}}
use Rattle.title_daybook.specs.{AddedLaws.{AddedReadsBack, CanBeWritten, IsKept, KeptAreWritten}, declared.writing.Stood.{Stood}}
use Rattle.title_lasting.specs.{Made.{Adds, HasStood, IsAddedBlock, IsNew}, Replays.{AreShort}}
use Rattle.title_lasting.specs.Laws.{CallsMore.{CallsMore}, FineBooks.{all_wider, IsWritten}, FineScripts.{FineAsk}}
use Rattle.title_lasting.specs.Laws.FineTraces.{FineNews, FineSteps, all_joined, fine_news}
use Rattle.title_lasting.specs.Laws.KeptNews.{all_kept, drop_front, due_before, empty, first_short, kept_again, no_longer, none_left}
use Rattle.title_lasting.specs.Laws.KeptNews.{ok_blocks}

-- ---- what comes to what stood

-- of records that come to others so much is kept
pub kept_behind : (records news older : List Record) → records ≡ news ++ older → map kept records ≡ map kept news ++ map kept older
kept_behind records news older goes_on = ap (map kept) goes_on ∙ map-append kept news older

-- and they are what stands behind the others
pub news_behind : (records news older : List Record) (n : ℕ) → reverse records ≡ news ++ older → n ≡ length older
    → drop n records ≡ reverse news
news_behind records news older n goes_on many =
    ap (drop n) (sym (reverse-reverse records) ∙ ap reverse goes_on ∙ reverse-append news older)
    ∙ drop_front (reverse older) (reverse news) n (many ∙ sym (length-reverse older))

-- records came to what stood, and what is kept of all of them can be written among parties with these names
pub record Comes (before : Standing) (names : List (List ℕ)) (records : List Record) : Type 0 where
  pub news : List Record
  pub goes_on : records ≡ news ++ before.records
  pub are_kept : map kept records ≡ map kept news ++ before.records
  pub can : AllByRecursion (IsKept names) (map kept records)

-- calls that come to those which served what stood
pub calls_come : ReplayedAreCommitted → IdleHaveNoSteps depth → (before : Standing) → IsWritten before → (names : List (List ℕ))
    → IsPrefix before.names names → (setting : Setting) (trace : List Call)
    → CallsMore IsExaminer (FineAsk names) (replayed before.records) trace → IsDue depth setting trace
    → Comes before names (committed trace)
calls_come recalled idle before old names begin setting trace calls due =
    let due_then : IsDue depth setting (replayed before.records) =
    due_before setting calls.more (replayed before.records) (subst (IsDue depth setting) calls.is due) in
    let none_open : (f : ℕ) → open_steps (replayed before.records) f ≡ [] =
    λ f. idle setting (replayed before.records) f due_then ((recalled before.records).1 f) in
    let made : FineNews IsExaminer (FineAsk names) (replayed before.records) (calls.more ++ replayed before.records) =
    fine_news IsExaminer (FineAsk names) calls.more (replayed before.records) calls.fine
    (λ f. subst (FineSteps IsExaminer (FineAsk names) f) (sym (none_open f)) tt) in
    let goes_on : committed trace ≡ made.news ++ before.records =
    ap committed calls.is ∙ made.goes_on ∙ ap (λ (records : List Record). made.news ++ records) (recalled before.records).0 in
    let short : AreShort made.news =
    first_short made.news before.records (subst AreShort goes_on (committed_are_short depth setting trace due)) in
    let are_kept : map kept (committed trace) ≡ map kept made.news ++ before.records =
    kept_behind (committed trace) made.news before.records goes_on
    ∙ ap (λ (records : List Record). map kept made.news ++ records) (kept_again before.names before.records old.records) in
    record {
      news = made.news;
      goes_on = goes_on;
      are_kept = are_kept;
      can = subst (AllByRecursion (IsKept names)) (sym are_kept)
          (all_joined (IsKept names) (map kept made.news) before.records (all_kept names made.news made.fine short)
          (subst (λ (ns : List (List ℕ)). AllByRecursion (IsKept ns) before.records) begin.1
          (all_wider before.names begin.0 before.records old.records)));
    }

-- ---- the block

-- what stands after the day goes on from what stood before by what is kept of the news; the records of the day are those that stood, so
-- many, and the news
module _ (added : AddedReadsBack) (written : KeptAreWritten) (before after : Standing) (news : List Record)
    (townships_begin : IsPrefix before.townships after.townships) (names_begin : IsPrefix before.names after.names)
    (are_kept : after.records ≡ map kept news ++ before.records) (can : CanBeWritten after)
    (found : Result (List (List ℕ)) ℕ) (stands : standing_after found ≡ Ok before) (stood : Stood) (so_much : HasStood stood before)
    (records : List Record) (behind : drop stood.records records ≡ reverse news) where
  on : IsOn before after
  on = record {
    townships = townships_begin.0;
    names = names_begin.0;
    records = map kept news;
    townships_are = sym townships_begin.1;
    names_are = sym names_begin.1;
    records_are = are_kept;
  }

  -- the block that the definitions add
  block_adds : IsBlock (added_block before after)
      × ((stood : Result (List (List ℕ)) ℕ) → standing_after stood ≡ Ok before
      → standing_after (with_block (added_block before after) stood) ≡ Ok after)
  block_adds =
      let first = ok_blocks found before stands in (
        (added first.0 before after (sym (ap standing_after first.1) ∙ stands) on can).0,
        λ stood is.
            let some = ok_blocks stood before is in
            ap (λ r. standing_after (with_block (added_block before after) r)) some.1
            ∙ (added some.0 before after (sym (ap standing_after some.1) ∙ is) on can).1,
      )

  same_text : text_of after.names (rows_of (drop stood.townships after.townships) (drop stood.parties after.names)
      (drop stood.records records) (stood.records + length (drop stood.records records))) ≡ added_block before after
  same_text =
      let fresh : List Record = drop stood.records records in
      let turned : reverse fresh ≡ news = ap reverse behind ∙ reverse-reverse news in
      (λ i. text_of after.names (rows_of (drop (so_much.townships i) after.townships) (drop (so_much.names i) after.names) fresh
      (so_much.records i + length fresh)))
      ∙ written before after fresh (are_kept ∙ ap (λ (rs : List Record). map kept rs ++ before.records) (sym turned))

  adds : (block : Option (List ℕ)) → IsAddedBlock stood after.townships after.names records block → Adds block before after
  adds None is =
      let same_townships : after.townships ≡ before.townships =
      no_longer before.townships after.townships townships_begin (is.0 ∙ so_much.townships) in
      let same_names : after.names ≡ before.names = no_longer before.names after.names names_begin (is.1 ∙ so_much.names) in
      let same_records : after.records ≡ before.records =
      are_kept ∙ ap (λ (rs : List Record). map kept rs ++ before.records) (none_left news (sym behind ∙ is.2)) in
      λ i. record { townships = same_townships i; names = same_names i; records = same_records i }
  adds (Some text) is =
      subst (λ t. IsBlock t × ((stood : Result (List (List ℕ)) ℕ) → standing_after stood ≡ Ok before
      → standing_after (with_block t stood) ≡ Ok after)) (sym (is.1 ∙ same_text)) block_adds

  -- where what stands after the day is what stood before, there is none
  quiet : (block : Option (List ℕ)) → IsAddedBlock stood after.townships after.names records block → after ≡ before → block ≡ None
  quiet None is same = refl
  quiet (Some text) is same =
      let no_more : length news ≡ 0 =
      omega (
        arith,
        ap (λ (s : Standing). length s.records) same,
        ap length are_kept,
        length-append (map kept news) before.records,
        length-map news kept,
      ) in
      absurd (is.0 (
        ap (λ (s : Standing). length s.townships) same ∙ sym so_much.townships,
        ap (λ (s : Standing). length s.names) same ∙ sym so_much.names,
        behind ∙ ap reverse (empty news no_more),
      ))

  -- what the block adds that was put together, or none
  pub block_is_new : (block : Option (List ℕ)) → IsAddedBlock stood after.townships after.names records block → IsNew block before after
  block_is_new block is = record { adds = adds block is; quiet = quiet block is }
