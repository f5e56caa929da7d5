-- Reads and refused posts change neither plant nor chain, so they can be left out of serial records.
use Rattle.std.proofs.Common.{◌≡◌, ℕ, suc, Bool, true, false, cond, List, [], ◌∷◌, ◌++◌, map, reverse, length, refl, sym, ap, ap₂}
use Rattle.std.{proofs.{Common.{subst, ◌∙◌, Option, Some, None}, Math.Path.{fun_ext}}, specs.Prelude.{filter}}
use Rattle.std.proofs.lemmas.List.{append-nil, reverse-append, length-map, Elements.{filter-append}}
use Rattle.title_land.specs.declared.{survey.{Cell.{Cell}, Township.{Township}}, tract.Land.{Land}}
use Rattle.title_store.specs.Plants.{Plant, Refusal, refused_in}
use Rattle.title_chain.specs.declared.ask.{Ask.{Ask}, Answer.{Answer}, Entry.{Entry}, Posting.{Posting}, Step.{Step}}
use Rattle.title_chain.specs.{declared.record.Record.{Record}, Asks.{tract_of, effect, answer_to, post_answer}}
use Rattle.title_chain.specs.{Alone.{after_steps, plant_after, Plays, IsSerial}, StepEntries.{entry_of, step_entries}}
use Rattle.title_chain.specs.{Chains.{record_entries, chain_of}, Laws.AskLaws.{effect_read, effect_refused, answer_post}}
use Rattle.title_chain.specs.declared.ask.Ask.TheVariants as ask
use Rattle.title_chain.specs.declared.ask.Answer.TheVariants as answer
use Rattle.title_desk.specs.Images.{is_posted}
use Rattle.title_standing.specs.{Standing.{kept}, StandingLaws.{KeptAreSerial}}

-- the step was posted
abbrev was_posted : Step → Bool
was_posted s = is_posted s.ask s.answer

-- what passes a test of a list that is turned round
filter_reverse : {A : Type 0} (p : A → Bool) (xs : List A) → filter p (reverse xs) ≡ reverse (filter p xs)
filter_reverse p [] = refl
filter_reverse p (x ∷ xs) =
    ap (filter p) (reverse-append (x ∷ []) xs) ∙ filter-append p (reverse xs) (x ∷ [])
    ∙ ap (λ front. front ++ filter p (x ∷ [])) (filter_reverse p xs) ∙ last (p x)
  where
    last : (b : Bool) → reverse (filter p xs) ++ cond b (x ∷ []) [] ≡ reverse (cond b (x ∷ filter p xs) (filter p xs))
    last true = sym (reverse-append (x ∷ []) (filter p xs))
    last false = append-nil (reverse (filter p xs))

-- ---- the plant

post_leaves : (depth : ℕ) (ts : List Township) (seen : Plant) (p : Posting) (refused : Option Refusal)
    → refused_in depth ts p.instrument seen p.tract ≡ refused → is_posted (ask.Post p) (post_answer refused) ≡ false → (c : Cell)
    → effect depth ts seen (ask.Post p) c ≡ seen c
post_leaves depth ts seen p None h n c = absurd cc
post_leaves depth ts seen p (Some r) h n c = effect_refused depth ts seen p r c h

-- a step that posted nothing leaves the plant
leaves : (depth : ℕ) (ts : List Township) (seen : Plant) (listed : List Entry) (a : Ask) (given : Answer)
    → given ≡ answer_to depth ts seen listed a → is_posted a given ≡ false → (c : Cell) → effect depth ts seen a c ≡ seen c
leaves depth ts seen listed (ask.Sheet t) given is n c = effect_read depth ts seen (ask.Sheet t) c refl
leaves depth ts seen listed (ask.Chain t) given is n c = effect_read depth ts seen (ask.Chain t) c refl
leaves depth ts seen listed (ask.Post p) given is n c =
    post_leaves depth ts seen p (refused_in depth ts p.instrument seen p.tract) refl
    (sym (ap (is_posted (ask.Post p)) (is ∙ answer_post depth ts seen listed p)) ∙ n) c

-- so the plant after the posted ones of steps is the plant after all of them
plant_kept : (depth : ℕ) (ts : List Township) (records : List Record) (own : List Step) → Plays depth ts records own →
    after_steps depth ts (plant_after depth ts records) (filter was_posted own)
    ≡ after_steps depth ts (plant_after depth ts records) own
plant_kept depth ts records [] plays = refl
plant_kept depth ts records (s ∷ earlier) plays = go (was_posted s) refl (plant_kept depth ts records earlier plays.0)
  where
    go : (b : Bool) → was_posted s ≡ b →
        after_steps depth ts (plant_after depth ts records) (filter was_posted earlier)
        ≡ after_steps depth ts (plant_after depth ts records) earlier →
        after_steps depth ts (plant_after depth ts records) (cond b (s ∷ filter was_posted earlier) (filter was_posted earlier))
        ≡ effect depth ts (after_steps depth ts (plant_after depth ts records) earlier) s.ask
    go true posted same = ap (λ (p : Plant). effect depth ts p s.ask) same
    go false unposted same =
        let seen : Plant = after_steps depth ts (plant_after depth ts records) earlier in
        let idle : effect depth ts seen s.ask ≡ seen =
        fun_ext (λ c. leaves depth ts seen (chain_of records earlier (tract_of s.ask)) s.ask s.answer plays.2 unposted c) in
        same ∙ sym idle

-- ---- the answers

-- the answer to a post goes by the plant alone
answer_kept : (depth : ℕ) (ts : List Township) (p q : Plant) (listed other : List Entry) (a : Ask) (given : Answer)
    → is_posted a given ≡ true → q ≡ p → given ≡ answer_to depth ts p listed a → given ≡ answer_to depth ts q other a
answer_kept depth ts p q listed other (ask.Sheet t) given posted same is = absurd cc
answer_kept depth ts p q listed other (ask.Chain t) given posted same is = absurd cc
answer_kept depth ts p q listed other (ask.Post x) given posted same is =
    is ∙ answer_post depth ts p listed x
    ∙ ap (λ (o : Plant). post_answer (refused_in depth ts x.instrument o x.tract)) (sym same)
    ∙ sym (answer_post depth ts q other x)

-- the posted ones of steps get their answers after other records that leave the same plant
plays_kept : (depth : ℕ) (ts : List Township) (records others : List Record) (own : List Step)
    → plant_after depth ts others ≡ plant_after depth ts records → Plays depth ts records own
    → Plays depth ts others (filter was_posted own)
plays_kept depth ts records others [] same plays = tt
plays_kept depth ts records others (s ∷ earlier) same plays =
    go (was_posted s) refl (plays_kept depth ts records others earlier same plays.0)
  where
    go : (b : Bool) → was_posted s ≡ b → Plays depth ts others (filter was_posted earlier)
        → Plays depth ts others (cond b (s ∷ filter was_posted earlier) (filter was_posted earlier))
    go true posted rest =
        let plant : after_steps depth ts (plant_after depth ts others) (filter was_posted earlier)
        ≡ after_steps depth ts (plant_after depth ts records) earlier =
        ap (λ (p : Plant). after_steps depth ts p (filter was_posted earlier)) same ∙ plant_kept depth ts records earlier plays.0 in (
          rest,
          plays.1,
          answer_kept depth ts (after_steps depth ts (plant_after depth ts records) earlier)
              (after_steps depth ts (plant_after depth ts others) (filter was_posted earlier))
              (chain_of records earlier (tract_of s.ask)) (chain_of others (filter was_posted earlier) (tract_of s.ask))
              s.ask s.answer posted plant plays.2,
        )
    go false unposted rest = rest

-- what is kept of serial records is serial, and leaves the same plant
pub serial_kept : (depth : ℕ) (ts : List Township) (records : List Record) → IsSerial depth ts records →
    IsSerial depth ts (map kept records) × (plant_after depth ts (map kept records) ≡ plant_after depth ts records)
serial_kept depth ts [] serial = (tt, refl)
serial_kept depth ts (r ∷ older) serial =
    let before = serial_kept depth ts older serial.0 in
    let turned : filter was_posted (reverse r.steps) ≡ reverse (filter was_posted r.steps) = filter_reverse was_posted r.steps in (
      (
        before.0,
        subst (Plays depth ts (map kept older)) turned
            (plays_kept depth ts older (map kept older) (reverse r.steps) before.1 serial.1),
      ),
      ap (after_steps depth ts (plant_after depth ts (map kept older))) (sym turned)
          ∙ ap (λ (p : Plant). after_steps depth ts p (filter was_posted (reverse r.steps))) before.1
          ∙ plant_kept depth ts older (reverse r.steps) serial.1,
    )

-- ---- the chains

-- a step that posted nothing gives no entry
no_entry : (place : ℕ) (land : Land) (a : Ask) (given : Answer) → is_posted a given ≡ false → entry_of place land a given ≡ []
no_entry place land (ask.Sheet t) given n = refl
no_entry place land (ask.Chain t) given n = refl
no_entry place land (ask.Post p) (answer.Rows rows) n = refl
no_entry place land (ask.Post p) (answer.Entries entries) n = refl
no_entry place land (ask.Post p) answer.Posted n = absurd cc
no_entry place land (ask.Post p) (answer.Refused rule estate node) n = refl

entries_kept : (place : ℕ) (land : Land) (own : List Step) →
    step_entries place land (filter was_posted own) ≡ step_entries place land own
entries_kept place land [] = refl
entries_kept place land (s ∷ earlier) = go (was_posted s) refl (entries_kept place land earlier)
  where
    go : (b : Bool) → was_posted s ≡ b → step_entries place land (filter was_posted earlier) ≡ step_entries place land earlier →
        step_entries place land (cond b (s ∷ filter was_posted earlier) (filter was_posted earlier))
        ≡ step_entries place land earlier ++ entry_of place land s.ask s.answer
    go true posted same = ap (λ (es : List Entry). es ++ entry_of place land s.ask s.answer) same
    go false unposted same =
        same ∙ sym (ap (λ (es : List Entry). step_entries place land earlier ++ es) (no_entry place land s.ask s.answer unposted)
        ∙ append-nil (step_entries place land earlier))

-- what is kept of records gives each land the same entries, with the same places
chain_kept : (land : Land) (records : List Record) → record_entries land (map kept records) ≡ record_entries land records
chain_kept land [] = refl
chain_kept land (r ∷ older) =
    ap₂ (λ (before mine : List Entry). before ++ mine) (chain_kept land older)
    (ap (λ (n : ℕ). step_entries (suc n) land (reverse (filter was_posted r.steps))) (length-map older kept)
    ∙ ap (step_entries (suc (length older)) land) (sym (filter_reverse was_posted r.steps))
    ∙ entries_kept (suc (length older)) land (reverse r.steps))

pub kept_are_serial : KeptAreSerial
kept_are_serial depth ts records serial =
    let both = serial_kept depth ts records serial in
    (both.0, λ c. ap (λ (p : Plant). p c) both.1, λ land. chain_kept land records)
