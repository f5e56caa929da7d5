-- A replay that stops tells the first record that can't stand.
use Rattle.std.proofs.Common.{◌≡◌, ◌≤◌, ◌-◌, ◌∙◌, ℕ, List, ◌++◌, Option, Some, sym, ap, subst, take, drop, reverse, length, arith}
use Rattle.std.proofs.lemmas.List.{length-reverse, reverse-append, reverse-reverse, take-append-drop}
use Rattle.title_land.specs.{Depth.{depth}, declared.survey.Township.{Township}}
use Rattle.title_chain.specs.{declared.record.Record.{Record}, Alone.{IsSerial}}
use Rattle.title_trace.specs.{declared.call.Call.{Call}, Trace.{committed}, Due.{Setting, most_steps}}
use Rattle.title_desk.specs.Told.{Books}
use Rattle.title_standing.specs.{Replays.{ToldReplay}, Standing.{replayed}, StandingLaws.{ReplayedAreCommitted, SerialAreServed, widest}}
use Rattle.title_lasting.specs.{Refusals.{IsFirstRefused, oldest}, Replays.{AreShort}}
use Rattle.title_lasting.specs.Laws.GoingOn.{all_earlier, commits_more, earlier_serial}

-- the first so many of some records, the oldest first
first_of : (n : ℕ) (records : List Record) → oldest n (reverse records) ≡ reverse (take n records)
first_of n records = ap (λ (rs : List Record). reverse (take n rs)) (reverse-reverse records)

-- with the others they are all
parted : (n : ℕ) (records : List Record) → reverse records ≡ reverse (drop n records) ++ reverse (take n records)
parted n records = ap reverse (sym (take-append-drop n records)) ∙ reverse-append (take n records) (drop n records)

module _ (recalled : ReplayedAreCommitted) (served : SerialAreServed) (townships : List Township) (records : List Record) (place : ℕ)
    (trace : List Call) (told : ToldReplay (widest townships) records (Some place) trace)
    (serial : IsSerial depth townships (committed trace)) (short : AreShort (reverse records)) where
  -- those in front of its place were served
  stood : IsSerial depth townships (reverse (take (place - 1) records))
  stood =
      let front : List Record = reverse (take (place - 1) records) in
      let more = told.2.0 in
      let news = commits_more more (replayed front) in
      let all : committed trace ≡ news.0 ++ front =
      ap committed told.2.1 ∙ news.1 ∙ ap (λ (rs : List Record). news.0 ++ rs) (recalled front).0 in
      earlier_serial depth townships news.0 front (subst (IsSerial depth townships) all serial)

  -- with the one in it, they can't be
  refused : IsSerial depth townships (reverse (take place records)) → ⊥
  refused one =
      let few : AreShort (reverse (take place records)) =
      all_earlier (λ (r : Record). length r.steps ≤ most_steps) (reverse (drop place records)) (reverse (take place records))
      (subst AreShort (parted place records) short) in
      told.3 (served depth townships (reverse (take place records)) one few)

  pub first_refused : IsFirstRefused townships (reverse records) place
  first_refused = record {
    some = told.0;
    within = omega (arith, told.1, length-reverse records);
    before = subst (IsSerial depth townships) (sym (first_of (place - 1) records)) stood;
    refused = λ one. refused (subst (IsSerial depth townships) (first_of place records) one);
  }

-- so it tells, at a desk that was opened with these townships and room for the most parties
pub refused_at : ReplayedAreCommitted → SerialAreServed → (townships : List Township) (records : List Record) (refused : Option ℕ)
    (place : ℕ) (opened now : Books) → opened.setting ≡ widest townships → now.setting ≡ opened.setting
    → ToldReplay opened.setting records refused now.trace → refused ≡ Some place
    → IsSerial depth now.setting.townships (committed now.trace) → AreShort (reverse records)
    → IsFirstRefused townships (reverse records) place
refused_at recalled served townships records refused place opened now wide same told is serial short =
    let here = subst (λ (r : Option ℕ). ToldReplay opened.setting records r now.trace) is told in
    first_refused recalled served townships records place now.trace
    (subst (λ (s : Setting). ToldReplay s records (Some place) now.trace) wide here)
    (subst (λ (s : Setting). IsSerial depth s.townships (committed now.trace)) (same ∙ wide) serial) short
