-- What every request of some calls has, the records that they commit have. Lists of calls, steps and records have the newest first.
use Rattle.std.proofs.Common.{◌≡◌, ◌∙◌, ℕ, Bool, true, false, cond, eqb, List, [], ◌∷◌, ◌++◌, refl, sym, ap, subst, append_assoc, reverse}
use Rattle.std.{proofs.lemmas.{Bool.{eqb-true}, List.{reverse-append}}, specs.List.{AllByRecursion}}
use Rattle.title_chain.specs.{declared.{ask.{Answer.{Answer}, Ask.{Ask}, Step.{Step}}, record.Record.{Record}}, Overlaps.{record_of}}
use Rattle.title_trace.specs.declared.call.{Call.{Call}, Request.{Request}, Reply.{Reply}}
use Rattle.title_trace.specs.Trace.{committed, committed_by, examiner_of, open_steps, step_of, steps_by}
use Rattle.title_trace.specs.declared.call.Request.TheVariants as request
use Rattle.title_trace.specs.declared.call.Reply.TheVariants as reply

pub all_joined : {A : Type 0} (P : A → Type 0) (xs ys : List A) → AllByRecursion P xs → AllByRecursion P ys → AllByRecursion P (xs ++ ys)
all_joined P [] ys all more = more
all_joined P (x ∷ xs) ys all more = (all.0, all_joined P xs ys all.1 more)

pub all_reversed : {A : Type 0} (P : A → Type 0) (xs : List A) → AllByRecursion P xs → AllByRecursion P (reverse xs)
all_reversed P [] all = tt
all_reversed P (x ∷ xs) all =
    subst (AllByRecursion P) (sym (reverse-append (x ∷ []) xs))
    (all_joined P (reverse xs) (x ∷ []) (all_reversed P xs all.1) (all.0, tt))

module _ (E : ℕ → Type 0) (P : ℕ → Ask → Type 0) where
  -- a request of such an examiner, and what it asks
  abbrev pub FineRequest : Request → Type 0
  FineRequest (request.Begin e) = E e
  FineRequest (request.Step e a) = E e × P e a
  FineRequest (request.Commit e) = E e
  FineRequest (request.Abort e) = E e

  abbrev pub FineCall : Call → Type 0
  FineCall call = FineRequest call.request

  -- the steps of an examiner
  abbrev pub FineSteps : ℕ → List Step → Type 0
  FineSteps e steps = AllByRecursion (λ s. P e s.ask) steps

  pub record FineRecord (r : Record) : Type 0 where
    pub examiner : E r.examiner
    pub steps : FineSteps r.examiner r.steps

  -- what these calls have committed, and what stands open after them
  pub record FineNews (before after : List Call) : Type 0 where
    pub news : List Record
    pub goes_on : committed after ≡ news ++ committed before
    pub fine : AllByRecursion FineRecord news
    pub own : (f : ℕ) → FineSteps f (open_steps after f)

  examiner_fine : (q : Request) → FineRequest q → E (examiner_of q)
  examiner_fine (request.Begin e) fine = fine
  examiner_fine (request.Step e a) fine = fine.0
  examiner_fine (request.Commit e) fine = fine
  examiner_fine (request.Abort e) fine = fine

  -- a step that is answered comes to the open ones of its examiner
  answered_fine : (q : Request) (given : Answer) (own : List Step) → FineRequest q → FineSteps (examiner_of q) own
      → FineSteps (examiner_of q) (step_of q given own)
  answered_fine (request.Begin e) given own fine mine = mine
  answered_fine (request.Step e a) given own fine mine = (fine.1, mine)
  answered_fine (request.Commit e) given own fine mine = mine
  answered_fine (request.Abort e) given own fine mine = mine

  emptied : (b : Bool) (f : ℕ) (own : List Step) → FineSteps f own → FineSteps f (cond b [] own)
  emptied true f own mine = tt
  emptied false f own mine = mine

  comes : (b : Bool) (f : ℕ) (q : Request) (given : Answer) (own : List Step) → (b ≡ true → f ≡ examiner_of q) → FineRequest q
      → FineSteps f own → FineSteps f (cond b (step_of q given own) own)
  comes true f q given own same fine mine =
      subst (λ (e : ℕ). FineSteps e (step_of q given own)) (sym (same refl))
      (answered_fine q given own fine (subst (λ (e : ℕ). FineSteps e own) (same refl) mine))
  comes false f q given own same fine mine = mine

  own_fine : (b : Bool) (f : ℕ) (q : Request) (r : Reply) (own : List Step) → (b ≡ true → f ≡ examiner_of q) → FineRequest q
      → FineSteps f own → FineSteps f (steps_by b q r own)
  own_fine b f q reply.Began own same fine mine = emptied b f own mine
  own_fine b f q (reply.Committed place) own same fine mine = emptied b f own mine
  own_fine b f q reply.Aborted own same fine mine = emptied b f own mine
  own_fine b f q (reply.Answered given) own same fine mine = comes b f q given own same fine mine
  own_fine b f q (reply.Denied why) own same fine mine = mine
  own_fine b f q reply.Memory own same fine mine = mine

  -- a reply commits a record of the open steps, or none
  by_reply : (r : Reply) (x : Record) (records : List Record) → FineRecord x
      → (news : List Record) × (committed_by r x records ≡ news ++ records) × AllByRecursion FineRecord news
  by_reply (reply.Committed place) x records fine = (x ∷ [], refl, (fine, tt))
  by_reply _ x records fine = ([], refl, tt)

  pub fine_news : (more before : List Call) → AllByRecursion FineCall more → ((f : ℕ) → FineSteps f (open_steps before f))
      → FineNews before (more ++ before)
  fine_news [] before fine own = record { news = []; goes_on = refl; fine = tt; own = own }
  fine_news (call ∷ more) before fine own =
      let rest = fine_news more before fine.1 own in
      let q : Request = call.request in
      let e : ℕ = examiner_of q in
      let last : FineRecord (record_of e (open_steps (more ++ before) e)) = record {
        examiner = examiner_fine q fine.0;
        steps = all_reversed (λ (s : Step). P e s.ask) (open_steps (more ++ before) e) (rest.own e);
      } in
      let here = by_reply call.reply (record_of e (open_steps (more ++ before) e)) (committed (more ++ before)) last in
      record {
        news = here.0 ++ rest.news;
        goes_on = here.1 ∙ ap (λ (records : List Record). here.0 ++ records) rest.goes_on
            ∙ sym (append_assoc here.0 rest.news (committed before));
        fine = all_joined FineRecord here.0 rest.news here.2 rest.fine;
        own = λ f. own_fine (eqb f e) f q call.reply (open_steps (more ++ before) f) (eqb-true f e) fine.0 (rest.own f);
      }
