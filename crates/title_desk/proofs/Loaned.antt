-- Images that are out, those of a transaction that go back or are let go in their turn, and what the plant holds then.
use Rattle.std.proofs.Common.{◌≡◌, ◌≢◌, ◌<◌, ℕ, true, false, cond, ◌&&◌, ◌||◌, List, [], ◌∷◌, ◌++◌, reverse, refl, ap, ◌∙◌, sym}
use Rattle.std.proofs.lemmas.List.{reverse-append, reverse-reverse}
use Rattle.std.proofs.{Common.{subst, ◌⊎◌, inl, inr, arith, map}, lemmas.Bool.{or_parts, cond_both, cond-false}}
use Rattle.title_land.specs.{Depth.{depth}, declared.survey.{Township.{Township}, Cell.{Cell}}, Lands.{meets}}
use Rattle.title_store.specs.{Plants.{Plant, SameContent, is_cell_of}, Loans.{Loan, IsAmong, IsLentAs, IsOut, without}}
use Rattle.title_store.specs.Laws.Taken.{case_eqb}
use Rattle.title_chain.specs.{declared.ask.{Ask.{Ask}, Step.{Step}}, Asks.{tract_of, is_post, overlap}, Alone.{after_steps}}
use Rattle.title_chain.specs.{Overlaps.{overlaps, Clear}, Laws.AskLaws.{effect_outside}}
use Rattle.title_desk.specs.Images.{is_posted, IsOf, Backs, Backed, backs_none, backs_post, backs_other, InTurn, without_all}
use Rattle.title_desk.{specs.Images.{IsRestored, posted_at, put_back}, proofs.Content.{post_of}}

-- what is out without one number
pub out_without : (n : ℕ) (x : Loan) (out : List Loan) → IsAmong x (without n out) → IsAmong x out × (x.number ≢ n)
out_without n x [] h = absurd h
out_without n x (y ∷ ys) h =
    case_eqb (λ b. IsAmong x (cond b (without n ys) (y ∷ without n ys)) → IsAmong x (y ∷ ys) × (x.number ≢ n)) n y.number
    (λ _ k. let rest = out_without n x ys k in (inr rest.0, rest.1))
    (λ ne k. elim k [
      | inl same ↦ (inl same, λ w. ne (sym w ∙ ap (λ z. z.number) same))
      | inr r ↦
          (let rest = out_without n x ys r in (inr rest.0, rest.1))
    ]) h

pub into_without : (n : ℕ) (x : Loan) (out : List Loan) → IsAmong x out → x.number ≢ n → IsAmong x (without n out)
into_without n x [] h ne = absurd h
into_without n x (y ∷ ys) h ne = case_eqb (λ b. IsAmong x (cond b (without n ys) (y ∷ without n ys))) n y.number
    (λ e. elim h [ inl same ↦ absurd (ne (ap (λ z. z.number) same ∙ sym e)) | inr r ↦ into_without n x ys r ne ])
    (λ _. elim h [ inl same ↦ inl same | inr r ↦ inr (into_without n x ys r ne) ])

pub out_all : (ns : List ℕ) (x : Loan) (out : List Loan) → IsAmong x (without_all ns out)
    → IsAmong x out × ((m : ℕ) → IsOf m ns → x.number ≢ m)
out_all [] x out h = (h, λ m k. absurd k)
out_all (n ∷ ns) x out h =
    let later = out_all ns x (without n out) h in
    let here = out_without n x out later.0 in
    (here.0, λ m k. elim k [ inl same ↦ (λ e. here.1 (e ∙ same)) | inr r ↦ later.1 m r ])

pub into_all : (ns : List ℕ) (x : Loan) (out : List Loan) → IsAmong x out → ((m : ℕ) → IsOf m ns → x.number ≢ m)
    → IsAmong x (without_all ns out)
into_all [] x out h ne = h
into_all (n ∷ ns) x out h ne = into_all ns x (without n out) (into_without n x out h (ne n (inl refl))) (λ m k. ne m (inr k))

-- under these numbers the same is out here and there
pub record Remain (ns : List ℕ) (out out' : List Loan) : Type 0 where
  pub there : (b : Loan) → IsOf b.number ns → IsAmong b out → IsAmong b out'
  pub back : (b : Loan) → IsOf b.number ns → IsAmong b out' → IsAmong b out

-- all but the first of these images remain when the first goes
pub remain_later : (n : ℕ) (ns : List ℕ) (out now : List Loan) → ((m : ℕ) → IsOf m ns → m < n) → Remain (n ∷ ns) out now
    → Remain ns out (without n now)
remain_later n ns out now above r = record {
  there = λ b at k. into_without n b now (r.there b (inr at) k)
      (let below : b.number < n = above b.number at in λ (e : b.number ≡ n). omega arith);
  back = λ b at k. r.back b (inr at) (out_without n b now k).0;
}

backs_in : (out out' : List Loan) (ts : List Township) (before : Plant) (s : Step) (n : ℕ) (older : List ℕ) →
    Remain (n ∷ older) out out' → Backs out ts before s n older → Backs out' ts before s n older
backs_in out out' ts before s n older r p =
    let b = p.is_out.0 in
    let same : b.number ≡ n = p.is_out.1.1 in record {
      is_out = (b, (r.there b (inl same) p.is_out.1.0, same));
      land_is = λ x lent. p.land_is x (r.back x (inl lent.1) lent.0, lent.1);
      holds = λ x lent. p.holds x (r.back x (inl lent.1) lent.0, lent.1);
      above = p.above;
    }

-- images that stay out
pub backed_in : (out out' : List Loan) (ts : List Township) (p : Plant) {own : List Step} {images : List ℕ} →
    Backed out ts p own images → Remain images out out' → Backed out' ts p own images
backed_in out out' ts p backs_none r = backs_none
backed_in out out' ts p (backs_post s earlier n older is b more) r =
    backs_post s earlier n older is (backs_in out out' ts (after_steps depth ts p earlier) s n older r b)
    (backed_in out out' ts p more (record { there = λ x k. r.there x (inr k); back = λ x k. r.back x (inr k) }))
backed_in out out' ts p (backs_other s earlier images is idle more) r =
    backs_other s earlier images is idle (backed_in out out' ts p more r)

-- the image of this number is out for the tract of a post among these steps
pub record IsFor (out : List Loan) (own : List Step) (n : ℕ) : Type 0 where
  pub ask : Ask
  pub posts : is_post ask ≡ true
  pub misses : (b : Ask) → overlaps b own ≡ false → overlap b ask ≡ false
  pub clear : (theirs : List Step) → Clear own theirs → overlaps ask theirs ≡ false
  pub is_out : IsOut n out
  pub land_is : (b : Loan) → IsLentAs b n out → b.land ≡ tract_of ask

for_more : (out : List Loan) (own : List Step) (s : Step) (n : ℕ) → IsFor out own n → IsFor out (s ∷ own) n
for_more out own s n f = record {
  ask = f.ask;
  posts = f.posts;
  misses = λ b none. f.misses b (or_parts (overlap b s.ask) (overlaps b own) none).1;
  clear = λ theirs clear. f.clear theirs clear.0;
  is_out = f.is_out;
  land_is = f.land_is;
}

-- each image is for a step
pub backed_for : (out : List Loan) (ts : List Township) (p : Plant) {own : List Step} {images : List ℕ} (n : ℕ) →
    Backed out ts p own images → IsOf n images → IsFor out own n
backed_for out ts p n backs_none h = absurd h
backed_for out ts p n (backs_post s earlier m older is b more) h = elim h [
  | inl same ↦ record {
    ask = s.ask;
    posts = post_of s.ask s.answer is;
    misses = λ a none. (or_parts (overlap a s.ask) (overlaps a earlier) none).0;
    clear = λ theirs clear. clear.1;
    is_out = subst (λ k. IsOut k out) (sym same) b.is_out;
    land_is = λ x lent. b.land_is x (lent.0, lent.1 ∙ same);
  }
  | inr r ↦ for_more out earlier s n (backed_for out ts p n more r)
]
backed_for out ts p n (backs_other s earlier images is idle more) h = for_more out earlier s n (backed_for out ts p n more h)

-- all later numbers stand so to each number
abbrev pub IsOrdered : (ℕ → ℕ → Type 0) → List ℕ → Type 0
IsOrdered R [] = Unit {0}
IsOrdered R (n ∷ ns) = ((m : ℕ) → IsOf m ns → R m n) × IsOrdered R ns

-- they fall, or they rise
abbrev pub IsFalling : List ℕ → Type 0
IsFalling = IsOrdered (λ m n. m < n)

abbrev pub IsRising : List ℕ → Type 0
IsRising = IsOrdered (λ m n. n < m)

-- the numbers of the images fall
pub falling : (out : List Loan) (ts : List Township) (p : Plant) {own : List Step} {images : List ℕ} → Backed out ts p own images
    → IsFalling images
falling out ts p backs_none = tt
falling out ts p (backs_post s earlier n older is b more) = (b.above, falling out ts p more)
falling out ts p (backs_other s earlier images is idle more) = falling out ts p more

of_append : (ms ns : List ℕ) (m : ℕ) → IsOf m (ms ++ ns) → IsOf m ms ⊎ IsOf m ns
of_append [] ns m h = inr h
of_append (x ∷ ms) ns m h = elim h [
  | inl same ↦ inl (inl same)
  | inr r ↦
      elim (of_append ms ns m r) [ inl l ↦ inl (inr l) | inr k ↦ inr k ]
]

pub of_reverse : (ns : List ℕ) (m : ℕ) → IsOf m (reverse ns) → IsOf m ns
of_reverse [] m h = h
of_reverse (n ∷ ns) m h =
    elim (of_append (reverse ns) (n ∷ []) m (subst (IsOf m) (reverse-append (n ∷ []) ns) h)) [
      | inl l ↦ inr (of_reverse ns m l)
      | inr e ↦ elim e [ inl same ↦ inl same | inr k ↦ absurd k ]
    ]

pub into_reverse : (ns : List ℕ) (m : ℕ) → IsOf m ns → IsOf m (reverse ns)
into_reverse ns m h = of_reverse (reverse ns) m (subst (IsOf m) (sym (reverse-reverse ns)) h)

rising_push : (ms : List ℕ) (n : ℕ) → IsRising ms → ((m : ℕ) → IsOf m ms → m < n) → IsRising (ms ++ n ∷ [])
rising_push [] n r b = ((λ m k. absurd k), tt)
rising_push (x ∷ ms) n r b = (
  (λ m k. elim (of_append ms (n ∷ []) m k) [
    | inl l ↦ r.0 m l
    | inr e ↦ elim e [ inl same ↦ (let low : x < n = b x (inl refl) in omega arith) | inr z ↦ absurd z ]
  ]),
  rising_push ms n r.1 (λ m k. b m (inr k)),
)

pub rising_reverse : (ns : List ℕ) → IsFalling ns → IsRising (reverse ns)
rising_reverse [] f = tt
rising_reverse (n ∷ ns) f = subst IsRising (sym (reverse-append (n ∷ []) ns))
    (rising_push (reverse ns) n (rising_reverse ns f.1) (λ m k. f.0 m (of_reverse ns m k)))

-- the image of one of these numbers shares no cell with any that is out under another
abbrev pub Apart : List ℕ → List Loan → Type 0
Apart ns out = (b x : Loan) → IsOf b.number ns → IsAmong b out → IsAmong x out → IsOf x.number ns ⊎ (meets b.land x.land ≡ false)

apart_later : (n : ℕ) (ns : List ℕ) (now : List Loan) → Apart (n ∷ ns) now → Apart ns (without n now)
apart_later n ns now apart b x at b_in x_in =
    let bo = out_without n b now b_in in
    let xo = out_without n x now x_in in
    elim (apart b x (inr at) bo.0 xo.0) [ inl own ↦ elim own [ inl same ↦ absurd (xo.1 same) | inr r ↦ inl r ] | inr away ↦ inr away ]

out_later : (n m : ℕ) (now : List Loan) → m ≢ n → IsOut m now → IsOut m (without n now)
out_later n m now ne was = (was.0, (into_without n was.0 now was.1.0 (λ e. ne (sym was.1.1 ∙ e)), was.1.1))

-- images can go in an order that they have: none that is out under a number beyond the next shares a cell with it
pub in_turn : (R : ℕ → ℕ → Type 0) (ns : List ℕ) (now : List Loan) → ((m n : ℕ) → R m n → R n m → ⊥) → IsOrdered R ns
    → ((n : ℕ) → IsOf n ns → IsOut n now) → Apart ns now →
    InTurn (λ n out. (b x : Loan) → IsLentAs b n out → IsAmong x out → R n x.number → meets b.land x.land ≡ false) ns now
in_turn R [] now one_way f mine apart = tt
in_turn R (n ∷ ns) now one_way f mine apart = (
  mine n (inl refl),
  (λ b x lent at beyond. elim (apart b x (inl lent.1) lent.0 at) [
    | inl own ↦ elim own [
      | inl same ↦ absurd (let it = subst (λ z. R n z) same beyond in one_way n n it it)
      | inr r ↦ absurd (one_way x.number n (f.0 x.number r) beyond)
    ]
    | inr away ↦ away
  ]),
  in_turn R ns (without n now) one_way f.1
      (λ m k. out_later n m now (λ same. let it = subst (λ z. R z n) same (f.0 m k) in one_way n n it it) (mine m (inr k)))
      (apart_later n ns now apart),
)

apart_of : (a b : Ask) → overlap a b ≡ false → is_post a ≡ true → meets (tract_of a) (tract_of b) ≡ false
apart_of a b n p = sym (ap (λ x. (x || is_post b) && meets (tract_of a) (tract_of b)) p) ∙ n

-- images of steps that don't overlap share no cell
pub images_apart : (out : List Loan) (own theirs : List Step) (b x : Loan) → IsFor out own b.number → IsFor out theirs x.number →
    Clear own theirs → IsAmong b out → IsAmong x out → meets b.land x.land ≡ false
images_apart out own theirs b x mine yours clear at xt = rw (mine.land_is b (at, refl), yours.land_is x (xt, refl))
    (apart_of mine.ask yours.ask (yours.misses mine.ask (mine.clear theirs clear)) mine.posts)

-- a cell once the images of these steps have gone back: where the steps left it as it is, it is as it was before them; where no step was
-- posted it keeps what it has
pub restored : (out : List Loan) (ts : List Township) (p : Plant) {own : List Step} {images : List ℕ} (now : List Loan)
    (old new : Plant) (c : Cell) → Backed out ts p own images → Remain images out now → IsRestored ts images now old new
    → (old c ≡ after_steps depth ts p own c → new c ≡ p c) × (posted_at ts c own ≡ false → new c ≡ old c)
restored out ts p now old new c backs_none r h = (λ e. h c ∙ e, λ _. h c)
restored out ts p now old new c (backs_post s earlier n older is b more) r h =
    let before : Plant = after_steps depth ts p earlier in
    let l : Loan = b.is_out.0 in
    let lent : IsLentAs l n out = b.is_out.1 in
    let here : h.0 c ≡ cond (is_cell_of depth ts l.land c) (l.held c) (old c) = h.1 l (r.there l (inl lent.1) lent.0, lent.1) c in
    let land = ap (λ x. is_cell_of depth ts x c) (b.land_is l lent) in
    let rest = restored out ts p (without n now) h.0 new c more (remain_later n older out now b.above r) h.2 in (
      λ e. rest.0 (here ∙ cond_both (is_cell_of depth ts l.land c) (l.held c) (old c) (λ x. x ≡ before c)
          (λ t. b.holds l lent c (sym land ∙ t)) (λ f. e ∙ effect_outside depth ts before s.ask c (sym land ∙ f))),
      λ none.
          let parts = or_parts (is_posted s.ask s.answer && is_cell_of depth ts (tract_of s.ask) c) (posted_at ts c earlier) none in
          rest.1 parts.1 ∙ here ∙ cond-false (is_cell_of depth ts l.land c) (l.held c) (old c)
          (land ∙ sym (ap (λ x. x && is_cell_of depth ts (tract_of s.ask) c) is) ∙ parts.0),
    )
restored out ts p now old new c (backs_other s earlier images is idle more) r h =
    let rest = restored out ts p now old new c more r h in (
      λ e. rest.0 (e ∙ idle c),
      λ none. rest.1 (or_parts (is_posted s.ask s.answer && is_cell_of depth ts (tract_of s.ask) c) (posted_at ts c earlier) none).1,
    )

-- the numbers of a list that ends with an image, from its end
numbers_from : {I : Type 0} (number : I → ℕ) (images rest : List I) (image : I) → images ≡ rest ++ image ∷ []
    → map number (reverse images) ≡ number image ∷ map number (reverse rest)
numbers_from number images rest image items = ap (λ is. map number (reverse is)) items ∙ ap (map number) (reverse-append rest (image ∷ []))

-- the last image of a list goes first, and then the others
pub first_in_turn : {I : Type 0} (IsNext : ℕ → List Loan → Type 0) (number : I → ℕ) (out : List Loan) (images rest : List I) (image : I)
    → images ≡ rest ++ image ∷ [] → InTurn IsNext (map number (reverse images)) out → IsOut (number image) out
    × IsNext (number image) out × InTurn IsNext (map number (reverse rest)) (without (number image) out)
first_in_turn IsNext number out images rest image items able = rw (numbers_from number images rest image items) at able

pub gone_first : {I : Type 0} (number : I → ℕ) (out out' : List Loan) (images rest : List I) (image : I) → images ≡ rest ++ image ∷ []
    → out' ≡ without (number image) out → without_all (map number (reverse rest)) out' ≡ without_all (map number (reverse images)) out
gone_first number out out' images rest image items outs = rw (numbers_from number images rest image items, outs) refl

-- one image put back, in a loop from the end of a list
pub restored_first : {I : Type 0} (number : I → ℕ) (ts : List Township) (old new : Plant) (out out' : List Loan) (images rest : List I)
    (image : I) → images ≡ rest ++ image ∷ [] → ((b : Loan) → IsLentAs b (number image) out → SameContent (put_back ts b old) new)
    → out' ≡ without (number image) out → (q : Plant) → IsRestored ts (map number (reverse rest)) out' new q
    → IsRestored ts (map number (reverse images)) out old q
restored_first number ts old new out out' images rest image items content outs q h =
    rw (numbers_from number images rest image items) (new, content, rw outs at h)
