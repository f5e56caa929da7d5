-- What is kept of records that come to those that stood can be written. Lists of records have the newest first.
use Rattle.std.{proofs.Common.{◌≡◌, ◌∙◌, ◌≤◌, ◌+◌, ℕ, zero, suc, cond, List, [], ◌∷◌, ◌++◌, filter, length}, specs.List.{AllByRecursion}}
use Rattle.std.proofs.Common.{map, reverse, drop, Result, Ok, Err, refl, sym, ap, ap₂, arith}
use Rattle.std.proofs.lemmas.List.{append-nil, length-append, length-map, length-reverse, reverse-reverse}
use mathlib.Core.List.{IsPrefix}
use Rattle.title_land.specs.Depth.{depth}
use Rattle.title_chain.specs.declared.{ask.{Answer.{Answer}, Ask.{Ask}, Step.{Step}, Terms.{Terms}}, record.Record.{Record}}
use Rattle.title_chain.specs.declared.ask.Answer.TheVariants as answer
use Rattle.title_chain.specs.declared.ask.Ask.TheVariants as ask
use Rattle.title_trace.specs.{declared.call.Call.{Call}, Due.{IsDue, Setting, most_steps}}
use Rattle.title_desk.specs.Images.{is_posted}
use Rattle.title_standing.specs.{declared.deeds.Deeds.{Deeds}, Records.{posted_step, record_of}, Standing.{kept}}
use Rattle.title_spelling.specs.Posts.{IsExaminer, IsPost}
use Rattle.title_daybook.specs.{Added.{at_most_one, posted, posts_of}, AddedLaws.{IsKept}, Files.{standing_after}, Standing.{Standing}}
use Rattle.title_lasting.specs.{Replays.{AreShort}, Laws.{FineScripts.{FineAsk}, FineTraces.{FineRecord, FineSteps}}}

-- ---- what is kept of records can be written

kept_steps : (steps : List Step) → filter (λ s. is_posted s.ask s.answer) steps ≡ map posted_step (posts_of steps)
kept_steps [] = refl
kept_steps (s ∷ steps) = by_answer (kept_steps steps) s.ask s.answer
  where
    by_answer : filter (λ s. is_posted s.ask s.answer) steps ≡ map posted_step (posts_of steps) → (a : Ask) (b : Answer) →
        cond (is_posted a b) (record { ask = a; answer = b } ∷ filter (λ s. is_posted s.ask s.answer) steps)
        (filter (λ s. is_posted s.ask s.answer) steps)
        ≡ map posted_step (at_most_one (posted a b) ++ posts_of steps)
    by_answer rest (ask.Sheet t) b = rest
    by_answer rest (ask.Chain t) b = rest
    by_answer rest (ask.Post p) (answer.Rows rows) = rest
    by_answer rest (ask.Post p) (answer.Entries entries) = rest
    by_answer rest (ask.Post p) answer.Posted = ap (λ (more : List Step). posted_step p ∷ more) rest
    by_answer rest (ask.Post p) (answer.Refused rule estate node) = rest

posts_few : (steps : List Step) → length (posts_of steps) ≤ length steps
posts_few [] = omega arith
posts_few (s ∷ steps) = by_answer (posts_few steps) s.ask s.answer
  where
    by_answer : length (posts_of steps) ≤ length steps → (a : Ask) (b : Answer)
        → length (at_most_one (posted a b) ++ posts_of steps) ≤ length (s ∷ steps)
    by_answer rest (ask.Sheet t) b = omega arith
    by_answer rest (ask.Chain t) b = omega arith
    by_answer rest (ask.Post p) (answer.Rows rows) = omega arith
    by_answer rest (ask.Post p) (answer.Entries entries) = omega arith
    by_answer rest (ask.Post p) answer.Posted = omega arith
    by_answer rest (ask.Post p) (answer.Refused rule estate node) = omega arith

posts_are : (names : List (List ℕ)) (e : ℕ) (steps : List Step) → FineSteps IsExaminer (FineAsk names) e steps
    → AllByRecursion (IsPost names e) (posts_of steps)
posts_are names e [] fine = tt
posts_are names e (s ∷ steps) fine = by_answer (posts_are names e steps fine.1) s.ask s.answer fine.0
  where
    by_answer : AllByRecursion (IsPost names e) (posts_of steps) → (a : Ask) (b : Answer) → FineAsk names e a
        → AllByRecursion (IsPost names e) (at_most_one (posted a b) ++ posts_of steps)
    by_answer rest (ask.Sheet t) b is = rest
    by_answer rest (ask.Chain t) b is = rest
    by_answer rest (ask.Post p) (answer.Rows rows) is = rest
    by_answer rest (ask.Post p) (answer.Entries entries) is = rest
    by_answer rest (ask.Post p) answer.Posted is = (is, rest)
    by_answer rest (ask.Post p) (answer.Refused rule estate node) is = rest

pub kept_is : (names : List (List ℕ)) (r : Record) → FineRecord IsExaminer (FineAsk names) r → length r.steps ≤ most_steps
    → IsKept names (kept r)
kept_is names r fine short = record {
  posts = posts_of r.steps;
  steps = kept_steps r.steps;
  examiner = fine.examiner;
  few = omega (arith, posts_few r.steps);
  each = posts_are names r.examiner r.steps fine.steps;
}

pub all_kept : (names : List (List ℕ)) (records : List Record) → AllByRecursion (FineRecord IsExaminer (FineAsk names)) records
    → AreShort records → AllByRecursion (IsKept names) (map kept records)
all_kept names [] fine short = tt
all_kept names (r ∷ records) fine short = (kept_is names r fine.0 short.0, all_kept names records fine.1 short.1)

-- what is kept already stays as it is
pub kept_again : (names : List (List ℕ)) (records : List Record) → AllByRecursion (IsKept names) records → map kept records ≡ records
kept_again names [] all = refl
kept_again names (r ∷ records) all =
    ap₂ (λ (s : Record) (rs : List Record). s ∷ rs) (one r all.0) (kept_again names records all.1)
  where
    posted_again : (posts : List Terms) → filter (λ s. is_posted s.ask s.answer) (map posted_step posts) ≡ map posted_step posts
    posted_again [] = refl
    posted_again (p ∷ posts) = ap (λ (steps : List Step). posted_step p ∷ steps) (posted_again posts)

    one : (r : Record) → IsKept names r → kept r ≡ r
    one r is =
        ap (λ (steps : List Step). record { examiner = r.examiner; steps = steps })
        (ap (filter (λ s. is_posted s.ask s.answer)) is.steps ∙ posted_again is.posts ∙ sym is.steps)

-- ---- lists

pub drop_front : {A : Type 0} (xs ys : List A) (k : ℕ) → k ≡ length xs → drop k (xs ++ ys) ≡ ys
drop_front [] ys zero h = refl
drop_front [] ys (suc k) h = absurd (omega arith)
drop_front (x ∷ xs) ys zero h = absurd (omega arith)
drop_front (x ∷ xs) ys (suc k) h = drop_front xs ys k (omega arith)

pub empty : {A : Type 0} (xs : List A) → length xs ≡ 0 → xs ≡ []
empty [] h = refl
empty (x ∷ xs) h = absurd (omega arith)

-- a list that is no longer than its beginning is that
pub no_longer : {A : Type 0} (xs ys : List A) → IsPrefix xs ys → length ys ≡ length xs → ys ≡ xs
no_longer xs ys p h = sym p.1 ∙ ap (λ l. xs ++ l) (empty p.0 (omega (arith, length-append xs p.0, ap length p.1))) ∙ append-nil xs

pub none_left : {A : Type 0} (xs : List A) → reverse xs ≡ [] → xs ≡ []
none_left xs h = sym (reverse-reverse xs) ∙ ap reverse h

pub first_short : (news older : List Record) → AreShort (news ++ older) → AreShort news
first_short [] older h = tt
first_short (r ∷ news) older h = (h.0, first_short news older h.1)

pub due_before : (setting : Setting) (more before : List Call) → IsDue depth setting (more ++ before) → IsDue depth setting before
due_before setting [] before due = due
due_before setting (call ∷ more) before due = due_before setting more before due.0

pub ok_blocks : (found : Result (List (List ℕ)) ℕ) (s : Standing) → standing_after found ≡ Ok s
    → (blocks : List (List ℕ)) × (found ≡ Ok blocks)
ok_blocks (Ok blocks) s h = (blocks, refl)
ok_blocks (Err row) s h = absurd (cc h)

-- ---- what stood

-- as many as there are deeds
pub many_deeds : (deeds : List Deeds) → length (reverse (map record_of deeds)) ≡ length deeds
many_deeds deeds = length-reverse (map record_of deeds) ∙ length-map deeds record_of
