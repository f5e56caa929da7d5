-- Posts made again, one after another, have the effects of the asks.
use Rattle.std.proofs.Common.{◌≡◌, ℕ, ◌+◌, ◌<◌, false, List, [], ◌∷◌, ◌++◌, Option, Some, None, length, reverse, take, drop, get_or, refl}
use Rattle.std.proofs.lemmas.List.{reverse-append, take_more, take-append-drop}
use Rattle.std.proofs.{Common.{ap, ◌∙◌, sym, subst}, Math.Path.{fun_ext}, lemmas.Bool.{both_ways}}
use Rattle.title_land.specs.declared.survey.Township.{Township}
use Rattle.title_store.specs.Plants.{Plant, SameContent, Refusal, refused_in, plant_effect}
use Rattle.title_chain.specs.declared.ask.{Ask.{Ask}, Answer.{Answer}, Entry.{Entry}, Posting.{Posting}, Step.{Step}}
use Rattle.title_chain.specs.{declared.record.Record.{Record}, Asks.{effect, answer_to, post_answer}}
use Rattle.title_chain.specs.{Alone.{after_steps, plant_after, Plays, IsSerial}, Replays.{was_posted, CanReplay, Replays}}
use Rattle.title_chain.specs.Laws.AskLaws.{effect_read, effect_refused, effect_post, answer_post}
use Rattle.title_chain.specs.declared.ask.Ask.TheVariants as ask
use Rattle.title_chain.specs.declared.ask.Answer.TheVariants as answer

-- plants with the same owners in every cell are one
pub same_plant : (p q : Plant) → SameContent p q → q ≡ p
same_plant p q h = fun_ext h

-- a post has the effect of its ask
pub post_done : (depth : ℕ) (townships : List Township) (p q : Plant) (a : Ask) (x : Posting) → a ≡ ask.Post x →
    SameContent (plant_effect depth townships x.instrument p x.tract) q → SameContent (effect depth townships p a) q
post_done depth townships p q a x e h c = rw (e, effect_post depth townships p x) (h c)

-- one more element of a list, the newest first
one_more : {A : Type 0} (xs : List A) (k : ℕ) (x : A) → k < length xs → x ≡ get_or xs k x →
    reverse (take (k + 1) xs) ≡ x ∷ reverse (take k xs)
one_more xs k x h e =
    ap reverse (take_more xs k x h) ∙ reverse-append (take k xs) (get_or xs k x ∷ []) ∙ ap (λ y. y ∷ reverse (take k xs)) (sym e)

-- what holds of a list, the newest first, and of what stood there before each element, holds up to an element
up_to : {A : Type 0} (P : List A → Type 0) → ((x : A) (xs : List A) → P (x ∷ xs) → P xs) → (xs : List A) (k : ℕ) (x : A) →
    k < length xs → x ≡ get_or xs k x → P (reverse xs) → P (x ∷ reverse (take k xs))
up_to {A} P earlier xs k x h e all = subst P (one_more xs k x h e) (later (reverse (drop (k + 1) xs))
    (subst P (ap reverse (sym (take-append-drop (k + 1) xs)) ∙ reverse-append (take (k + 1) xs) (drop (k + 1) xs)) all))
  where
    later : (ys : List A) → P (ys ++ reverse (take (k + 1) xs)) → P (reverse (take (k + 1) xs))
    later [] p = p
    later (y ∷ ys) p = later ys (earlier y (ys ++ reverse (take (k + 1) xs)) p)

-- what can be replayed can be so step by step
pub can_replay : (depth : ℕ) (declared townships : List Township) (start p : Plant) (steps : List Step) (k : ℕ) (x : Step) →
    k < length steps → x ≡ get_or steps k x → declared ≡ townships →
    SameContent (after_steps depth townships start (reverse (take k steps))) p →
    Replays depth townships start (reverse steps) → CanReplay depth declared p x
can_replay depth declared townships start p steps k x h e d same replays =
    let some = up_to (Replays depth townships start) (λ s own r. r.0) steps k x h e replays in
    subst (λ (ts : List Township). CanReplay depth ts p x) (sym d)
    (subst (λ (q : Plant). CanReplay depth townships q x) (sym (same_plant _ p same)) some.1)

-- one more step
pub step_content : (depth : ℕ) (declared townships : List Township) (start p q : Plant) (steps : List Step) (k : ℕ) (x : Step) →
    k < length steps → x ≡ get_or steps k x → declared ≡ townships →
    SameContent (after_steps depth townships start (reverse (take k steps))) p →
    SameContent (effect depth declared p x.ask) q →
    SameContent (after_steps depth townships start (reverse (take (k + 1) steps))) q
step_content depth declared townships start p q steps k x h e d same next =
    subst (λ (own : List Step). SameContent (after_steps depth townships start own) q) (sym (one_more steps k x h e))
    (subst (λ (r : Plant). SameContent (effect depth townships r x.ask) q) (same_plant _ p same)
    (subst (λ (ts : List Township). SameContent (effect depth ts p x.ask) q) d next))

-- an answer that an ask gets says whether it changes anything
idle : (depth : ℕ) (townships : List Township) (p : Plant) (listed : List Entry) (a : Ask) (given : Answer) →
    given ≡ answer_to depth townships p listed a → was_posted a given ≡ false → SameContent p (effect depth townships p a)
idle depth townships p listed (ask.Post x) given e n = go (refused_in depth townships x.instrument p x.tract) refl
  where
    go : (r : Option Refusal) → refused_in depth townships x.instrument p x.tract ≡ r
        → SameContent p (effect depth townships p (ask.Post x))
    go None k =
        let posted : given ≡ answer.Posted = e ∙ answer_post depth townships p listed x ∙ ap post_answer k in
        absurd (both_ways _ n (ap (was_posted (ask.Post x)) posted))
    go (Some r) k = λ c. effect_refused depth townships p x r c k
idle depth townships p listed a given e n = λ c. effect_read depth townships p a c refl

-- steps with the answers that they get alone can be replayed
plays_replays : (depth : ℕ) (townships : List Township) (records : List Record) (own : List Step) →
    Plays depth townships records own → Replays depth townships (plant_after depth townships records) own
plays_replays depth townships records [] h = tt
plays_replays depth townships records (s ∷ earlier) h = (
  plays_replays depth townships records earlier h.0,
  (h.1.0, idle depth townships (after_steps depth townships (plant_after depth townships records) earlier) _ s.ask s.answer h.2),
)

-- serial records can be replayed record by record
pub can_replay_record : (depth : ℕ) (declared townships : List Township) (p : Plant) (records : List Record) (k : ℕ) (x : Record) →
    k < length records → x ≡ get_or records k x → declared ≡ townships →
    SameContent (plant_after depth townships (reverse (take k records))) p →
    IsSerial depth townships (reverse records) → Replays depth declared p (reverse x.steps)
can_replay_record depth declared townships p records k x h e d same serial =
    let some = up_to (IsSerial depth townships) (λ r older s. s.0) records k x h e serial in
    subst (λ (ts : List Township). Replays depth ts p (reverse x.steps)) (sym d)
    (subst (λ (q : Plant). Replays depth townships q (reverse x.steps)) (sym (same_plant _ p same))
    (plays_replays depth townships (reverse (take k records)) (reverse x.steps) some.1))

-- one more record
pub record_content : (depth : ℕ) (declared townships : List Township) (p q : Plant) (records : List Record) (k : ℕ) (x : Record) →
    k < length records → x ≡ get_or records k x → declared ≡ townships →
    SameContent (plant_after depth townships (reverse (take k records))) p →
    SameContent (after_steps depth declared p (reverse x.steps)) q →
    SameContent (plant_after depth townships (reverse (take (k + 1) records))) q
record_content depth declared townships p q records k x h e d same next =
    subst (λ (records : List Record). SameContent (plant_after depth townships records) q) (sym (one_more records k x h e))
    (subst (λ (r : Plant). SameContent (after_steps depth townships r (reverse x.steps)) q) (same_plant _ p same)
    (subst (λ (ts : List Township). SameContent (after_steps depth ts p (reverse x.steps)) q) d next))
