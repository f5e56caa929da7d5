-- Steps: what is due to them, and what an answered one makes of a state, a post that was done too, or one that is taken back.
use Rattle.std.proofs.Common.{◌≡◌, ◌≢◌, ℕ, Bool, true, false, cond, ◌&&◌, ◌||◌, List, ◌∷◌, refl, ap, ◌∙◌, sym, subst, eqb, Option, Some}
use Rattle.std.proofs.Common.{None, is_some, Result, Ok, Err, is_err, OnOk, OnErr, ◌<◌, [], ◌++◌, ◌⊎◌, inl, inr, arith}
use Rattle.std.proofs.lemmas.Bool.{or_parts, false_from_ne_true, both_ways, cases_Bool}
use Rattle.title_land.specs.{Depth.{depth}, declared.{survey.{Township.{Township}, Cell.{Cell}}, tract.Land.{Land}}, Lands.{meets}}
use Rattle.title_store.specs.{Plants.{Plant, Refusal, is_cell_of, refused_in, SameContent, plant_effect}, Sheets.{sheet_of}}
use Rattle.title_store.specs.{Loans.{Loan, IsAmong, IsOut, IsTaken}, Laws.Taken.{case_eqb, among_now, is_new, image_out, new_loan}}
use Rattle.title_chain.specs.{declared.ask.{Ask.{Ask}, Answer.{Answer}, Posting.{Posting}, Step.{Step}}, Chains.{chain_of}}
use Rattle.title_chain.specs.{Asks.{tract_of, is_post, effect, post_answer}, Alone.{after_steps, alone}, Overlaps.{overlaps}}
use Rattle.title_chain.specs.Laws.AskLaws.{answer_same, answer_sheet, answer_chain, answer_post, effect_read, effect_refused, effect_same}
use Rattle.title_chain.specs.{Laws.AskLaws.{effect_outside, effect_post}, ChainLaws.{SameIn}}
use Rattle.title_trace.specs.{declared.denial.Denial.{Denial}, Trace.{is_open, open_steps, committed}, Due.{InTheWay, DueReply}}
use Rattle.title_desk.specs.{Images.{is_posted, posted_at, Backed, backs_post, backs_other, IsOf, Backs}, Singles.{Bars}}
use Rattle.title_desk.{proofs.Loaned.{Remain, backed_in, backed_for}, specs.Opened.{Opened, held, set, with_post, with_step}}
use Rattle.title_desk.{specs.Keeps.{State, own_of, images_of, plant_of, plant_for, Facts, Keeps}, proofs.Content.{content_is, unposted}}
use Rattle.title_desk.{specs.Told.{Books, IsFit, Passes, access_of, entry_of}, proofs.{Found.{at_set, set_here}, States.{told, books_of}}}
use Rattle.title_chain.specs.declared.ask.Ask.TheVariants as ask
use Rattle.title_chain.specs.declared.ask.Answer.TheVariants as answer
use Rattle.title_lock.specs.Overlaps.{against, Stands, is_post as is_post_access}
use Rattle.title_trace.specs.declared.call.Request.TheVariants as request
use Rattle.title_trace.specs.declared.call.Reply.TheVariants as reply
use Rattle.title_trace.specs.declared.denial.Denial.TheVariants as denial
use Rattle.title_store.specs.Laws.EffectLaws as store

-- what bars an ask is due to who is open
pub bars_due : (books : Books) (e : ℕ) (a : Ask) (why : Denial) → is_open e books.trace ≡ true → Bars books.setting a why
    → DueReply depth books.setting books.trace (request.Step e a) (reply.Denied why)
bars_due books e a denial.NoSuchTownship opened bar = rw (opened, bar) refl
bars_due books e a (denial.Invalid cause) opened bar = rw (opened, bar.0, bar.1) refl
bars_due books e a _ opened bar = absurd bar

-- the answer that a step gets alone is due where nothing refuses it
pub due_alone : {s : State} (e : ℕ) (a : Ask) (given : Answer) → Keeps s → Passes (books_of s) e a
    → given ≡ alone depth s.setting.townships (committed s.trace) (open_steps s.trace e) a →
    DueReply depth s.setting s.trace (request.Step e a) (reply.Answered given)
due_alone e a given k p is = rw (p.0.0, p.0.1, p.0.2, p.0.3) (None, p.1, ap reply.Answered is)

-- who is in the way by the locks is in the way by the trace
pub in_the_way : {s : State} (e : ℕ) (a : Ask) (t : Land) (post : Bool) (way : Option ℕ) → Keeps s → t ≡ tract_of a → post ≡ is_post a
    → Stands s.locks e t post way → InTheWay s.trace e a way
in_the_way {s} e a t post way k of p stands = go way (rw (of, p) at stands)
  where
    same : (f : ℕ) → against (tract_of a) (is_post a) f s.locks ≡ overlaps a (open_steps s.trace f)
    same f = k.facts.locks_are a f ∙ ap (overlaps a) (k.steps_are f)

    go : (w : Option ℕ) → Stands s.locks e (tract_of a) (is_post a) w → InTheWay s.trace e a w
    go None h = λ f ne. sym (same f) ∙ h f ne
    go (Some f) h = (h.0, sym (same f) ∙ h.1, λ g below ne. sym (same g) ∙ h.2 g below ne)

-- and is named, where the step is fit
pub conflict_due : {s : State} (e : ℕ) (a : Ask) (t : Land) (post : Bool) (f : ℕ) → Keeps s → t ≡ tract_of a → post ≡ is_post a
    → Stands s.locks e t post (Some f) → IsFit (books_of s) e a
    → DueReply depth s.setting s.trace (request.Step e a) (reply.Denied (denial.Conflict f))
conflict_due e a t post f k of p stands fit = rw (fit.0, fit.1, fit.2, fit.3) (Some f, in_the_way e a t post (Some f) k of p stands, refl)

-- nobody's steps overlap the ask but the examiner's own
pub free_of : {s : State} (e : ℕ) (a : Ask) → Keeps s → InTheWay s.trace e a None → (f : ℕ) → f ≢ e → overlaps a (own_of s f) ≡ false
free_of e a k way f ne = ap (overlaps a) (k.steps_are f) ∙ way f ne

-- what an ask gets alone after the records and the examiner's steps is what it gets after the trace
alone_is : {s : State} (e : ℕ) (a : Ask) → Keeps s → alone depth s.declared s.records (own_of s e) a
    ≡ alone depth s.setting.townships (committed s.trace) (open_steps s.trace e) a
alone_is {s} e a k = rw (k.declared_are, k.records_are, k.steps_are e) refl

-- the sheet of what the store holds is what the examiner sees
pub sheet_due : {s : State} (e : ℕ) (t : Land) → Keeps s → InTheWay s.trace e (ask.Sheet t) None →
    answer.Rows (sheet_of depth s.declared s.content t)
    ≡ alone depth s.setting.townships (committed s.trace) (open_steps s.trace e) (ask.Sheet t)
sheet_due {s} e t k way =
    let listed = chain_of s.records (own_of s e) t in
    sym (answer_sheet depth s.declared s.content listed t) ∙ answer_same depth s.declared s.content (plant_for s e) listed listed
    (ask.Sheet t) (content_is k.facts e (ask.Sheet t) (free_of e (ask.Sheet t) k way)) refl ∙ alone_is e (ask.Sheet t) k

-- the chain that is made of the records and of the examiner's steps is the one that it sees
pub chain_due : {s : State} (e : ℕ) (t : Land) → Keeps s → answer.Entries (chain_of s.records (own_of s e) t)
    ≡ alone depth s.setting.townships (committed s.trace) (open_steps s.trace e) (ask.Chain t)
chain_due {s} e t k = sym (answer_chain depth s.declared (plant_for s e) (chain_of s.records (own_of s e) t) t) ∙ alone_is e (ask.Chain t) k

-- what the store says to a post is what the ask gets alone
pub post_due : {s : State} (e : ℕ) (p : Posting) (refused : Option Refusal) → Keeps s → InTheWay s.trace e (ask.Post p) None →
    refused_in depth s.declared p.instrument s.content p.tract ≡ refused →
    post_answer refused ≡ alone depth s.setting.townships (committed s.trace) (open_steps s.trace e) (ask.Post p)
post_due {s} e p refused k way h =
    let listed = chain_of s.records (own_of s e) p.tract in
    sym (ap post_answer h) ∙ sym (answer_post depth s.declared s.content listed p)
    ∙ answer_same depth s.declared s.content (plant_for s e) listed listed (ask.Post p)
    (content_is k.facts e (ask.Post p) (free_of e (ask.Post p) k way)) refl ∙ alone_is e (ask.Post p) k

post_leaves : (ts : List Township) (seen : Plant) (p : Posting) (refused : Option Refusal)
    → refused_in depth ts p.instrument seen p.tract ≡ refused → is_posted (ask.Post p) (post_answer refused) ≡ false → (c : Cell)
    → effect depth ts seen (ask.Post p) c ≡ seen c
post_leaves ts seen p None h n c = cc
post_leaves ts seen p (Some r) h n c = effect_refused depth ts seen p r c h

-- a step that posted nothing leaves the plant
leaves : (s : State) (e : ℕ) (a : Ask) (given : Answer) → given ≡ alone depth s.declared s.records (own_of s e) a
    → is_posted a given ≡ false → (c : Cell) → effect depth s.declared (plant_for s e) a c ≡ plant_for s e c
leaves s e (ask.Sheet t) given is n c = effect_read depth s.declared _ (ask.Sheet t) c refl
leaves s e (ask.Chain t) given is n c = effect_read depth s.declared _ (ask.Chain t) c refl
leaves s e (ask.Post p) given is n c =
    post_leaves s.declared (plant_for s e) p (refused_in depth s.declared p.instrument (plant_for s e) p.tract) refl
    (sym (ap (is_posted (ask.Post p))
    (is ∙ answer_post depth s.declared (plant_for s e) (chain_of s.records (own_of s e) p.tract) p)) ∙ n) c

access_is : (a : Ask) → is_post_access (access_of a) ≡ is_post a
access_is (ask.Sheet t) = refl
access_is (ask.Chain t) = refl
access_is (ask.Post p) = refl

-- one lock more with one step more
step_locks : {s : State} → Facts s → (e : ℕ) (step : Step) (images : List ℕ) (b : Ask) (f : ℕ)
    → against (tract_of b) (is_post b) f (entry_of e step.ask ∷ s.locks)
    ≡ overlaps b (held (set e (Some (record { steps = step ∷ own_of s e; images = images })) s.opened f)).steps
step_locks {s} facts e step images b f =
    case_eqb (λ x. ((x && ((is_post b || is_post_access (access_of step.ask)) && meets (tract_of b) (tract_of step.ask)))
    || against (tract_of b) (is_post b) f s.locks)
    ≡ overlaps b (held (cond x (Some (record { steps = step ∷ own_of s e; images = images })) (s.opened f))).steps) f e
    (λ same. rw (access_is step.ask, facts.locks_are b f, same) refl) (λ _. facts.locks_are b f)

-- one open step more with one step more
steps_more : {s : State} → Keeps s → (e : ℕ) (step : Step) (images : List ℕ) (f : ℕ)
    → (held (set e (Some (record { steps = step ∷ own_of s e; images = images })) s.opened f)).steps
    ≡ cond (eqb f e) (step ∷ open_steps s.trace f) (open_steps s.trace f)
steps_more {s} k e step images f =
    case_eqb (λ b. (held (cond b (Some (record { steps = step ∷ own_of s e; images = images })) (s.opened f))).steps
    ≡ cond b (step ∷ open_steps s.trace f) (open_steps s.trace f)) f e
    (λ same. ap (λ own. step ∷ own) (k.steps_are e ∙ ap (open_steps s.trace) (sym same))) (λ _. k.steps_are f)

posted_skip : (ts : List Township) (c : Cell) (s : Step) (own : List Step) → is_posted s.ask s.answer ≡ false
    → posted_at ts c (s ∷ own) ≡ posted_at ts c own
posted_skip ts c s own n = ap (λ b. (b && is_cell_of depth ts (tract_of s.ask) c) || posted_at ts c own) n

-- a step that posted nothing is answered
pub keeps_answered : {s : State} (e : ℕ) (a : Ask) (given : Answer) → Keeps s → Passes (books_of s) e a
    → given ≡ alone depth s.setting.townships (committed s.trace) (open_steps s.trace e) a → is_posted a given ≡ false →
    Keeps (told (request.Step e a) (reply.Answered given) (record s {
      opened = set e (Some (with_step (record { ask = a; answer = given }) (held (s.opened e)))) s.opened;
      locks = entry_of e a ∷ s.locks;
    }))
keeps_answered {s} e a given k passes is n =
    let facts : Facts s = k.facts in
    let ts : List Township = s.declared in
    let plant : Plant = plant_of s in
    let step : Step = record { ask = a; answer = given } in
    let new : Option Opened = Some (with_step step (held (s.opened e))) in
    let idle : (c : Cell) → effect depth ts (plant_for s e) a c ≡ plant_for s e c = leaves s e a given (is ∙ sym (alone_is e a k)) n in
    let mine : Backed s.out ts plant (step ∷ own_of s e) (images_of s e) =
    backs_other step (own_of s e) (images_of s e) n idle (facts.backed e) in
    let same : (f : ℕ) → (held (set e new s.opened f)).images ≡ images_of s f =
    at_set (λ f o. (held o).images ≡ images_of s f) e new s.opened refl (λ f _. refl) in
    record {
      few = k.few;
      due = (k.due, due_alone e a given k passes is);
      declared_are = k.declared_are;
      records_are = k.records_are;
      begun_are = at_set (λ f o. is_some o ≡ is_open f s.trace) e new s.opened (sym passes.0.0) (λ f _. k.begun_are f);
      steps_are = steps_more k e step (images_of s e);
      facts = record {
        locks_are = step_locks facts e step (images_of s e);
        backed = at_set (λ f o. Backed s.out ts plant (held o).steps (held o).images) e new s.opened mine (λ f _. facts.backed f);
        numbers = λ f g m at bt. facts.numbers f g m (subst (IsOf m) (same f) at) (subst (IsOf m) (same g) bt);
        owned = λ b at. let owner = facts.owned b at in (owner.0, subst (IsOf b.number) (sym (same owner.0)) owner.1);
        posted = λ f c. at_set (λ g o. posted_at ts c (held o).steps ≡ true → s.content c ≡ after_steps depth ts plant (held o).steps c)
            e new s.opened (λ h. facts.posted e c (sym (posted_skip ts c step (own_of s e) n) ∙ h) ∙ sym (idle c))
            (λ g _ h. facts.posted g c h) f;
        rest = λ c none. facts.rest c (λ f. at_set (λ g o. posted_at ts c (held o).steps ≡ false → posted_at ts c (own_of s g) ≡ false)
            e new s.opened (λ h. sym (posted_skip ts c step (own_of s e) n) ∙ h) (λ g _ h. h) f (none f));
      };
    }

pub on_good : {T E : Type 0} (r : Result T E) (P : Type 0) → is_err r ≡ false → OnOk r P → P
on_good (Ok x) P h p = p
on_good (Err x) P h p = cc

pub on_bad : {T E : Type 0} (r : Result T E) (P : Type 0) → is_err r ≡ true → OnErr r P → P
on_bad (Ok x) P h p = cc
on_bad (Err x) P h p = p

among_more : (b x : Loan) (out : List Loan) → IsAmong b out → IsAmong b (out ++ x ∷ [])
among_more b x [] h = absurd h
among_more b x (y ∷ out) h = elim h [ inl same ↦ inl same | inr r ↦ inr (among_more b x out r) ]

of_more : (s : State) (e n : ℕ) (step : Step) (f m : ℕ)
    → IsOf m (held (set e (Some (with_post step n (held (s.opened e)))) s.opened f)).images → IsOf m (images_of s f) ⊎ ((f ≡ e) × (m ≡ n))
of_more s e n step f m = at_set (λ g o. IsOf m (held o).images → IsOf m (images_of s g) ⊎ ((g ≡ e) × (m ≡ n))) e
    (Some (with_post step n (held (s.opened e)))) s.opened
    (λ k. elim k [ inl is ↦ inr (refl, is) | inr r ↦ inl r ]) (λ g _ k. inl k) f

-- the step of a post that was done
abbrev pub posted_step : Posting → Step
posted_step p = record { ask = ask.Post p; answer = answer.Posted }

-- a post that nothing refuses is done and answered
pub keeps_posted : {s : State} (e : ℕ) (p : Posting) (n : ℕ) (after : Plant) (out' : List Loan) → Keeps s
    → Passes (books_of s) e (ask.Post p) → refused_in depth s.declared p.instrument s.content p.tract ≡ None →
    IsTaken n s.declared p.tract s.content s.out out' → SameContent (plant_effect depth s.declared p.instrument s.content p.tract) after →
    Keeps (told (request.Step e (ask.Post p)) (reply.Answered answer.Posted) (record s {
      opened = set e (Some (with_post (posted_step p) n (held (s.opened e)))) s.opened;
      content = after;
      out = out';
      locks = entry_of e (ask.Post p) ∷ s.locks;
    }))
keeps_posted {s} e p n after out' k passes h taken same =
    let facts : Facts s = k.facts in
    let ts : List Township = s.declared in
    let plant : Plant = plant_of s in
    let seen : Plant = plant_for s e in
    let a : Ask = ask.Post p in
    let step : Step = posted_step p in
    let mine_now : Option Opened = Some (with_post step n (held (s.opened e))) in
    let free : (f : ℕ) → f ≢ e → overlaps a (own_of s f) ≡ false = free_of e a k passes.1 in
    let same_in : SameIn depth ts p.tract s.content seen = content_is facts e a free in
    let now : (c : Cell) → after c ≡ effect depth ts s.content a c = λ c.
    same c ∙ ap (λ (q : Plant). q c) (sym (effect_post depth ts s.content p)) in
    let low : (f m : ℕ) → IsOf m (images_of s f) → m < n =
    λ f m at. (let is_out : IsOut m s.out = (backed_for s.out ts plant m (facts.backed f) at).is_out in
    let below : is_out.0.number < n = taken.above is_out.0 is_out.1.0 in let is : is_out.0.number ≡ m = is_out.1.1 in omega arith) in
    let remain : (f : ℕ) → Remain (images_of s f) s.out out' = λ f. record {
      there = λ b at k. subst (IsAmong b) (sym taken.last) (among_more b (new_loan taken) s.out k);
      back = λ b at k. elim (among_now taken b k) [
        | inl old ↦ old
        | inr is ↦ absurd (let below : b.number < n = low f b.number at in let equal : b.number ≡ n = ap (λ z. z.number) is in omega arith)
      ];
    } in
    let backs : Backs out' ts seen step n (images_of s e) = record {
      is_out = image_out taken;
      land_is = λ b lent. ap (λ z. z.land) (is_new taken b lent);
      holds = λ b lent c inside. ap (λ z. z.held c) (is_new taken b lent) ∙ taken.holds c inside ∙ same_in c inside;
      above = low e;
    } in
    let mine : Backed out' ts plant (step ∷ own_of s e) (n ∷ images_of s e) =
    backs_post step (own_of s e) n (images_of s e) refl backs (backed_in s.out out' ts plant (facts.backed e) (remain e)) in
    record {
      few = k.few;
      due = (k.due, due_alone e a answer.Posted k passes (post_due e p None k passes.1 h));
      declared_are = k.declared_are;
      records_are = k.records_are;
      begun_are = at_set (λ f o. is_some o ≡ is_open f s.trace) e mine_now s.opened (sym passes.0.0) (λ f _. k.begun_are f);
      steps_are = steps_more k e step (n ∷ images_of s e);
      facts = record {
        locks_are = step_locks facts e step (n ∷ images_of s e);
        backed = at_set (λ f o. Backed out' ts plant (held o).steps (held o).images) e mine_now s.opened mine
            (λ f _. backed_in s.out out' ts plant (facts.backed f) (remain f));
        numbers = λ f g m at bt. elim (of_more s e n step f m at) [
          | inl old ↦ elim (of_more s e n step g m bt) [
            | inl k ↦ facts.numbers f g m old k
            | inr k ↦ absurd (let below : m < n = low f m old in let is : m ≡ n = k.1 in omega arith)
          ]
          | inr h ↦ elim (of_more s e n step g m bt) [
            | inl k ↦ absurd (let below : m < n = low g m k in let is : m ≡ n = h.1 in omega arith)
            | inr k ↦ h.0 ∙ sym k.0
          ]
        ];
        owned = λ b k. elim (among_now taken b k) [
          | inl old ↦ (let owner = facts.owned b old in (
            owner.0,
            at_set (λ f o. IsOf b.number (images_of s f) → IsOf b.number (held o).images) e mine_now s.opened (λ at. inr at)
                (λ f _ at. at) owner.0 owner.1,
          ))
          | inr is ↦ (
            e,
            subst (λ (o : Option Opened). IsOf b.number (held o).images) (sym (set_here e mine_now s.opened)) (inl (ap (λ z. z.number) is)),
          )
        ];
        posted = λ f c. at_set (λ g o. posted_at ts c (held o).steps ≡ true → after c ≡ after_steps depth ts plant (held o).steps c)
            e mine_now s.opened (λ h. elim (cases_Bool (is_cell_of depth ts p.tract c)) [
              | inl inside ↦ now c ∙ effect_same depth ts s.content seen a c same_in (same_in c inside)
              | inr outside ↦ now c ∙ effect_outside depth ts s.content a c outside
                  ∙ facts.posted e c (sym (ap (λ b. b || posted_at ts c (own_of s e)) outside) ∙ h)
                  ∙ sym (effect_outside depth ts seen a c outside)
            ])
            (λ g ne h. now c ∙ effect_outside depth ts s.content a c
            (false_from_ne_true _ (λ inside. both_ways _ (unposted ts a (own_of s g) c (free g ne) inside) h)) ∙ facts.posted g c h) f;
        rest = λ c none.
            let mine_not = subst (λ (o : Option Opened). posted_at ts c (held o).steps ≡ false) (set_here e mine_now s.opened) (none e) in
            let parts = or_parts (is_cell_of depth ts p.tract c) (posted_at ts c (own_of s e)) mine_not in
            now c ∙ effect_outside depth ts s.content a c parts.0
            ∙ facts.rest c (λ f. at_set (λ g o. posted_at ts c (held o).steps ≡ false → posted_at ts c (own_of s g) ≡ false) e mine_now
            s.opened (λ _. parts.1) (λ g _ h. h) f (none f));
      };
    }
