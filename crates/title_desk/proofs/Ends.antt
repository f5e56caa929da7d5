-- The end of a transaction: its images go back, or its steps become a record.
use Rattle.std.proofs.Common.{◌≡◌, ◌≢◌, ◌<◌, ℕ, suc, Bool, true, false, cond, not, ◌&&◌, ◌||◌, List, [], ◌∷◌, reverse, length, refl}
use Rattle.std.proofs.{Common.{ap, ◌∙◌, sym, subst, eqb, inl, inr, arith}, lemmas.Bool.{cases_Bool, cases_eq, or_cases, and_parts, ne_eqb}}
use Rattle.std.{specs.Prelude.{is_some}, proofs.{Common.{None}, lemmas.{Bool.{and_left, or_from}, List.{reverse-reverse}}}}
use Rattle.title_land.specs.{Depth.{depth}, declared.{survey.{Township.{Township}, Cell.{Cell}}, tract.Land.{Land}}}
use Rattle.title_store.specs.{Plants.{Plant, is_cell_of}, Loans.{Loan, IsAmong, IsFirst, IsLast}, Laws.Taken.{case_eqb}}
use Rattle.title_chain.specs.{declared.ask.{Ask.{Ask}, Step.{Step}}, Asks.{tract_of, is_post, effect}, Alone.{after_steps}}
use Rattle.title_chain.specs.{Overlaps.{overlaps, Clear, record_of}, ChainLaws.{SameIn}, Laws.AskLaws.{effect_same, effect_outside}}
use Rattle.title_chain.specs.Laws.Past.{SameAt, clear_same, steps_same}
use Rattle.title_lock.specs.{declared.guards.Entry.{Entry}, Overlaps.{against, overlap, without, is_post as is_post_access}}
use Rattle.title_trace.specs.declared.call.Request.TheVariants as request
use Rattle.title_trace.specs.declared.call.Reply.TheVariants as reply
use Rattle.title_trace.specs.{Laws.Law.{kept}, Trace.{is_open, open_steps}}
use Rattle.title_desk.specs.Images.{is_posted, posted_at, IsOf, Backed, backs_none, backs_post, backs_other, InTurn, IsRestored}
use Rattle.title_desk.{specs.Images.{without_all}, proofs.Loaned.{in_turn, rising_reverse, of_reverse, into_reverse, restored}}
use Rattle.title_desk.proofs.Loaned.{Remain, Apart, IsFalling, IsFor, out_all, into_all, backed_in, backed_for, images_apart, falling}
use Rattle.title_desk.specs.{Keeps.{State, own_of, images_of, plant_of, plant_for, Facts, Keeps}, Opened.{found, held, set}}
use Rattle.title_desk.proofs.{Content.{steps_keep, posted_apart}, Found.{at_set, view_cond}, States.{told}}

-- of locks that one examiner gives back none is its own any more, and the others' stay
given_back : (t : Land) (post : Bool) (e : ℕ) (locks : List Entry) → against t post e (without e locks) ≡ false
given_back t post e [] = refl
given_back t post e (x ∷ xs) =
    case_eqb (λ b. against t post e (cond (not b) (x ∷ without e xs) (without e xs)) ≡ false) x.examiner e (λ _. given_back t post e xs)
    (λ ne. or_from _ _ (and_left _ _ (ne_eqb e x.examiner (λ k. ne (sym k)))) (given_back t post e xs))

others_kept : (t : Land) (post : Bool) (e f : ℕ) → f ≢ e → (locks : List Entry)
    → against t post f (without e locks) ≡ against t post f locks
others_kept t post e f ne [] = refl
others_kept t post e f ne (x ∷ xs) =
    let more = others_kept t post e f ne xs in
    let hit : Bool = overlap t post x.tract (is_post_access x.access) in
    case_eqb (λ b. against t post f (cond (not b) (x ∷ without e xs) (without e xs)) ≡ ((eqb f x.examiner && hit) || against t post f xs))
    x.examiner e (λ same. more ∙ ap (λ b. (b && hit) || against t post f xs) (sym (ne_eqb f x.examiner (λ k. ne (k ∙ same)))))
    (λ _. ap (λ r. (eqb f x.examiner && hit) || r) more)

-- the numbers of one examiner's images, in any order
pub record Gone (images gone : List ℕ) : Type 0 where
  pub into : (n : ℕ) → IsOf n gone → IsOf n images
  pub all : (n : ℕ) → IsOf n images → IsOf n gone

-- the state without what an examiner has open, and without its locks
abbrev pub ended : ℕ → List ℕ → State → State
ended e gone s = record s { opened = set e None s.opened; out = without_all gone s.out; locks = without e s.locks }

-- no step of one examiner overlaps another's
clear_of : {s : State} → Keeps s → (f g : ℕ) → f ≢ g → Clear (own_of s f) (own_of s g)
clear_of {s} k f g ne = rw (k.steps_are f, k.steps_are g) ((kept depth s.setting k.few s.trace k.due).clear f g ne)

locks_left : {s : State} → Facts s → (e : ℕ) (a : Ask) (f : ℕ)
    → against (tract_of a) (is_post a) f (without e s.locks) ≡ overlaps a (held (set e None s.opened f)).steps
locks_left {s} facts e a =
    at_set (λ f o. against (tract_of a) (is_post a) f (without e s.locks) ≡ overlaps a (held o).steps) e None s.opened
    (given_back (tract_of a) (is_post a) e s.locks) (λ f ne. others_kept (tract_of a) (is_post a) e f ne s.locks ∙ facts.locks_are a f)

of_left : (s : State) (e f n : ℕ) → IsOf n (held (set e None s.opened f)).images → IsOf n (images_of s f)
of_left s e f n = at_set (λ g o. IsOf n (held o).images → IsOf n (images_of s g)) e None s.opened (λ k. absurd k) (λ g ne k. k) f

begun_left : {s : State} → Keeps s → (e f : ℕ) → is_some (set e None s.opened f) ≡ cond (eqb f e) false (is_open f s.trace)
begun_left {s} k e f = view_cond is_some (eqb f e) None (s.opened f) ∙ ap (cond (eqb f e) false) (k.begun_are f)

steps_left : {s : State} → Keeps s → (e f : ℕ) → (held (set e None s.opened f)).steps ≡ cond (eqb f e) [] (open_steps s.trace f)
steps_left {s} k e f = view_cond (λ o. (held o).steps) (eqb f e) None (s.opened f) ∙ ap (cond (eqb f e) []) (k.steps_are f)

-- the images of the others stay out
others_remain : {s : State} → Facts s → (e f : ℕ) (gone : List ℕ) → f ≢ e → Gone (images_of s e) gone
    → Remain (images_of s f) s.out (without_all gone s.out)
others_remain {s} facts e f gone ne g = record {
  there = λ b at k. into_all gone b s.out k (λ m in_gone same.
      ne (facts.numbers f e b.number at (subst (λ z. IsOf z (images_of s e)) (sym same) (g.into m in_gone))));
  back = λ b at k. (out_all gone b s.out k).0;
}

pub owned_left : {s : State} → Facts s → (e : ℕ) (gone : List ℕ) → Gone (images_of s e) gone → (b : Loan)
    → IsAmong b (without_all gone s.out) → (f : ℕ) × IsOf b.number (held (set e None s.opened f)).images
owned_left {s} facts e gone g b k =
    let was = out_all gone b s.out k in
    let owner = facts.owned b was.0 in (
      owner.0,
      at_set (λ f o. IsOf b.number (images_of s f) → IsOf b.number (held o).images) e None s.opened
          (λ mine. absurd (was.1 b.number (g.all b.number mine) refl)) (λ f ne at. at) owner.0 owner.1,
    )

image_for : {s : State} → Facts s → (e n : ℕ) → IsOf n (images_of s e) → IsFor s.out (own_of s e) n
image_for {s} facts e n at = backed_for s.out s.declared (plant_of s) n (facts.backed e) at

-- one examiner's images share no cell with what else is out
apart : {s : State} → Keeps s → (e : ℕ) → Apart (images_of s e) s.out
apart {s} k e b x at bt xt =
    let owner = k.facts.owned x xt in
    elim (cases_eq owner.0 e) [
      | inl same ↦ inl (subst (λ z. IsOf x.number (images_of s z)) same owner.1)
      | inr other ↦ inr (images_apart s.out (own_of s e) (own_of s owner.0) b x (image_for k.facts e b.number at)
          (image_for k.facts owner.0 x.number owner.1) (clear_of k e owner.0 (λ same. other (sym same))) bt xt)
    ]

falling_images : {s : State} → Facts s → (e : ℕ) → IsFalling (images_of s e)
falling_images {s} facts e = falling s.out s.declared (plant_of s) (facts.backed e)

-- before an abort the images can go back
pub aborts : {s : State} (e : ℕ) → Keeps s → InTurn IsLast (images_of s e) s.out
aborts {s} e k = in_turn (λ m n. m < n) (images_of s e) s.out (λ m n a b. omega arith) (falling_images k.facts e)
    (λ n at. (image_for k.facts e n at).is_out) (apart k e)

-- before a commit they can be let go, the oldest first
pub commits : {s : State} (e : ℕ) → Keeps s → InTurn IsFirst (reverse (images_of s e)) s.out
commits {s} e k =
    let ns : List ℕ = images_of s e in
    in_turn (λ m n. n < m) (reverse ns) s.out (λ m n a b. omega arith) (rising_reverse ns (falling_images k.facts e))
    (λ n at. (image_for k.facts e n (of_reverse ns n at)).is_out)
    (λ b x at bt xt. elim (apart k e b x (of_reverse ns b.number at) bt xt)
    [ inl own ↦ inl (into_reverse ns x.number own) | inr away ↦ inr away ])

pub gone_newest : (images : List ℕ) → Gone images images
gone_newest images = record { into = λ n at. at; all = λ n at. at }

pub gone_oldest : (images : List ℕ) → Gone images (reverse images)
gone_oldest images = record { into = of_reverse images; all = into_reverse images }

none_out : (out : List Loan) → ((b : Loan) → IsAmong b out → ⊥) → out ≡ []
none_out [] h = refl
none_out (x ∷ out) h = absurd (h x (inl refl))

-- where nobody has an image, none is out
pub nothing_out : {s : State} → Facts s → ((e : ℕ) → images_of s e ≡ []) → s.out ≡ []
nothing_out {s} facts none = none_out s.out (λ b at. let owner = facts.owned b at in subst (IsOf b.number) (none owner.0) owner.1)

-- so none is left out when the last transaction ends
pub none_left : {s : State} (e : ℕ) (gone : List ℕ) → Keeps s → Gone (images_of s e) gone → set e None s.opened ≡ found []
    → without_all gone s.out ≡ []
none_left {s} e gone k g none = none_out (without_all gone s.out) (λ b at.
    let owner = owned_left k.facts e gone g b at in subst (λ all. IsOf b.number (held (all owner.0)).images) none owner.1)

rest_left : (s : State) (e : ℕ) (c : Cell) → ((f : ℕ) → posted_at s.declared c (held (set e None s.opened f)).steps ≡ false)
    → posted_at s.declared c (own_of s e) ≡ false → (f : ℕ) → posted_at s.declared c (own_of s f) ≡ false
rest_left s e c none mine f =
    at_set (λ g o. posted_at s.declared c (held o).steps ≡ false → posted_at s.declared c (own_of s g) ≡ false) e None s.opened
    (λ _. mine) (λ g ne h. h) f (none f)

-- an examiner aborts, and its images have gone back
pub keeps_aborted : {s : State} (e : ℕ) (after : Plant) → Keeps s → is_some (s.opened e) ≡ true
    → IsRestored s.declared (images_of s e) s.out s.content after
    → Keeps (told (request.Abort e) reply.Aborted (record (ended e (images_of s e) s) { content = after }))
keeps_aborted {s} e after k opened back =
    let facts : Facts s = k.facts in
    let p : Plant = plant_of s in
    let g : Gone (images_of s e) (images_of s e) = gone_newest (images_of s e) in
    let stay : Remain (images_of s e) s.out s.out = record { there = λ b at k. k; back = λ b at k. k } in
    let left : List Loan = without_all (images_of s e) s.out in
    record {
      few = k.few;
      due = (k.due, rw (sym (k.begun_are e) ∙ opened) refl);
      declared_are = k.declared_are;
      records_are = k.records_are;
      begun_are = begun_left k e;
      steps_are = steps_left k e;
      facts = record {
        locks_are = locks_left facts e;
        backed = at_set (λ f o. Backed left s.declared p (held o).steps (held o).images) e None s.opened backs_none
            (λ f ne. backed_in s.out left s.declared p (facts.backed f) (others_remain facts e f (images_of s e) ne g));
        numbers = λ f h n at bt. facts.numbers f h n (of_left s e f n at) (of_left s e h n bt);
        owned = owned_left facts e (images_of s e) g;
        posted = λ f c. at_set (λ f o. posted_at s.declared c (held o).steps ≡ true
            → after c ≡ after_steps depth s.declared p (held o).steps c) e None s.opened (λ h. cc)
            (λ f ne h. (restored s.out s.declared p s.out s.content after c (facts.backed e) stay back).1
            (posted_apart s.declared (own_of s e) (own_of s f) c (clear_of k e f (λ same. ne (sym same))) h) ∙ facts.posted f c h) f;
        rest = λ c none. elim (cases_Bool (posted_at s.declared c (own_of s e))) [
          | inl mine ↦ (restored s.out s.declared p s.out s.content after c (facts.backed e) stay back).0 (facts.posted e c mine)
          | inr not_mine ↦
              (restored s.out s.declared p s.out s.content after c (facts.backed e) stay back).1 not_mine
              ∙ facts.rest c (rest_left s e c none not_mine)
        ];
      };
    }

-- a step that leaves a plant leaves also one that is the same in its tract
leaves_too : (ts : List Township) (p q : Plant) (s : Step) → SameIn depth ts (tract_of s.ask) q p
    → ((c : Cell) → effect depth ts p s.ask c ≡ p c) → (c : Cell) → effect depth ts q s.ask c ≡ q c
leaves_too ts p q s same leaves c =
    elim (cases_Bool (is_cell_of depth ts (tract_of s.ask) c)) [
      | inl inside ↦ effect_same depth ts q p s.ask c same (same c inside) ∙ leaves c ∙ sym (same c inside)
      | inr outside ↦ effect_outside depth ts q s.ask c outside
    ]

-- the images of steps serve also over a plant that is the same in all their tracts
backed_over : (out : List Loan) (ts : List Township) (p q : Plant) {own : List Step} {images : List ℕ} → SameAt depth ts own q p
    → Backed out ts p own images → Backed out ts q own images
backed_over out ts p q same backs_none = backs_none
backed_over out ts p q same (backs_post s earlier n older is b more) = backs_post s earlier n older is (record {
  is_out = b.is_out;
  land_is = b.land_is;
  holds = λ x lent c inside. b.holds x lent c inside ∙ sym (steps_same depth ts q p earlier same.0 c (same.1 c inside));
  above = b.above;
}) (backed_over out ts p q same.0 more)
backed_over out ts p q same (backs_other s earlier images is idle more) = backs_other s earlier images is
    (leaves_too ts (after_steps depth ts p earlier) (after_steps depth ts q earlier) s
    (λ c inside. steps_same depth ts q p earlier same.0 c (same.1 c inside)) idle) (backed_over out ts p q same.0 more)

-- at a cell where one of the steps was posted both plants were the same
same_posted : (ts : List Township) (p q : Plant) (own : List Step) (c : Cell) → SameAt depth ts own q p → posted_at ts c own ≡ true
    → q c ≡ p c
same_posted ts p q [] c same h = cc
same_posted ts p q (s ∷ earlier) c same h =
    elim (or_cases (is_posted s.ask s.answer && is_cell_of depth ts (tract_of s.ask) c) (posted_at ts c earlier) h) [
      | inl here ↦ same.1 c (and_parts (is_posted s.ask s.answer) (is_cell_of depth ts (tract_of s.ask) c) here).1
      | inr before ↦ same_posted ts p q earlier c same.0 before
    ]

-- an examiner commits: its steps are a record, and its images are let go
pub keeps_committed : {s : State} (e : ℕ) (gone : List ℕ) → Keeps s → is_some (s.opened e) ≡ true → Gone (images_of s e) gone
    → Keeps (told (request.Commit e) (reply.Committed (suc (length s.records)))
    (record (ended e gone s) { records = record_of e (own_of s e) ∷ s.records }))
keeps_committed {s} e gone k opened g =
    let facts : Facts s = k.facts in
    let ts : List Township = s.declared in
    let p : Plant = plant_of s in
    let q : Plant = plant_for s e in
    let left : List Loan = without_all gone s.out in
    let back : after_steps depth ts p (reverse (reverse (own_of s e))) ≡ q = ap (after_steps depth ts p) (reverse-reverse (own_of s e)) in
    let same : (f : ℕ) → f ≢ e → SameAt depth ts (own_of s f) q p =
    λ f ne. clear_same depth ts p (own_of s e) (own_of s f) (clear_of k f e ne) in
    record {
      few = k.few;
      due = (k.due, rw (sym (k.begun_are e) ∙ opened) (ap (λ rs. reply.Committed (suc (length rs))) k.records_are));
      declared_are = k.declared_are;
      records_are = rw (k.steps_are e, k.records_are) refl;
      begun_are = begun_left k e;
      steps_are = steps_left k e;
      facts = record {
        locks_are = locks_left facts e;
        backed = at_set (λ f o. Backed left ts (after_steps depth ts p (reverse (reverse (own_of s e)))) (held o).steps (held o).images)
            e None s.opened backs_none (λ f ne. subst (λ x. Backed left ts x (own_of s f) (images_of s f)) (sym back)
            (backed_in s.out left ts q (backed_over s.out ts p q (same f ne) (facts.backed f)) (others_remain facts e f gone ne g)));
        numbers = λ f h n at bt. facts.numbers f h n (of_left s e f n at) (of_left s e h n bt);
        owned = owned_left facts e gone g;
        posted = λ f c. at_set (λ f o. posted_at ts c (held o).steps ≡ true
            → s.content c ≡ after_steps depth ts (after_steps depth ts p (reverse (reverse (own_of s e)))) (held o).steps c) e None s.opened
            (λ h. cc) (λ f ne h. facts.posted f c h
            ∙ sym (steps_same depth ts q p (own_of s f) (same f ne) c (same_posted ts p q (own_of s f) c (same f ne) h))
            ∙ ap (λ x. after_steps depth ts x (own_of s f) c) (sym back)) f;
        rest = λ c none. elim (cases_Bool (posted_at ts c (own_of s e))) [
          | inl mine ↦ facts.posted e c mine ∙ ap (λ x. x c) (sym back)
          | inr not_mine ↦
              facts.rest c (rest_left s e c none not_mine)
              ∙ sym (steps_keep s.out ts p c (facts.backed e) not_mine) ∙ ap (λ x. x c) (sym back)
        ];
      };
    }
