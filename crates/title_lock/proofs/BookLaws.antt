-- A book's entries by number: one put at the end, and an examiner's last one taken out.
use Rattle.std.proofs.Common.{◌≡◌, ◌≢◌, ℕ, ◌<◌, Bool, true, false, cond, not, ◌&&◌, List, [], ◌∷◌, ◌++◌, All, filter, reverse, Option, None}
use Rattle.std.{proofs.Common.{Some, IfSome, IfNone, eqb, refl, sym, ap, ◌∙◌, subst, append_assoc, arith, inl, inr}, specs.Global.{Vec}}
use Rattle.std.{specs.{BTreeMap.{BTreeMap, get, insert_entry, is_at}, Prelude.{vec_len}}, proofs.lemmas.Bool.{eqb-true, ne_eqb, cases_eq}}
use Rattle.std.proofs.lemmas.{Bool.Decides.{nat_tests}, Map.{NonePasses}, List.{nil_from_length, append-nil, reverse-append, map-append}}
use Rattle.std.{proofs.lemmas.List.Elements.{All-head, All-tail}, specs.List.{AllByRecursion, Sorted.{IsStrictlySortedBy}}}
use Rattle.std.specs.{declared.cmp.Ordering.TheVariants.{Less}, Ordering.{nat_cmp}, Map.{keys_of, values_of, lookup, remove_entry}}
use mathlib.Core.{Bool.{and-false}, List.{reverse_aux}}
use Rattle.title_lock.specs.{declared.guards.Entry.{Entry}, Overlaps.{without}}
use Rattle.title_lock.specs.Books.{numbers_in, numbers_of, empty_in, is_empty_kept, own_keys, IsNewest}

-- ---- one entry more

-- an entry under a number above all keys goes to the end
pub insert_last : (n : ℕ) (x : Entry) (es : List (ℕ × Entry)) → All (λ k. k < n) (keys_of es)
    → insert_entry nat_cmp es n x ≡ es ++ (n, x) ∷ []
insert_last n x [] h = refl
insert_last n x (p ∷ es) h =
    grind (arith, nat_tests, All-head (λ k. k < n) p.0 (keys_of es) h, insert_last n x es (All-tail (λ k. k < n) p.0 (keys_of es) h))

-- an examiner's keys in two runs of entries
own_keys_append : (e : ℕ) (xs ys : List (ℕ × Entry)) → own_keys e (xs ++ ys) ≡ own_keys e xs ++ own_keys e ys
own_keys_append e [] ys = refl
own_keys_append e (p ∷ xs) ys = grind (arith, own_keys_append e xs ys)

-- the entries by number in two runs, the newest first
view_parts : (xs ys : List (ℕ × Entry)) → reverse (values_of (xs ++ ys)) ≡ reverse (values_of ys) ++ reverse (values_of xs)
view_parts xs ys = ap (λ (t : List Entry). reverse t) (map-append (λ (p : ℕ × Entry). p.1) xs ys)
    ∙ reverse-append (values_of xs) (values_of ys)

-- with one more at the end
pub view_more : (n : ℕ) (x : Entry) (es : List (ℕ × Entry)) → reverse (values_of (es ++ (n, x) ∷ [])) ≡ x ∷ reverse (values_of es)
view_more n x es = view_parts es ((n, x) ∷ [])

-- the keys with one more at the end
pub keys_more : (n : ℕ) (x : Entry) (es : List (ℕ × Entry)) → keys_of (es ++ (n, x) ∷ []) ≡ keys_of es ++ n ∷ []
keys_more n x es = map-append (λ (p : ℕ × Entry). p.0) es ((n, x) ∷ [])

-- an examiner's keys with one entry more: the new number stands at their end where the entry is its own
pub own_more : (e n : ℕ) (x : Entry) (es : List (ℕ × Entry)) (old new : List ℕ) → old ≡ own_keys e es
    → (x.examiner ≡ e → new ≡ old ++ n ∷ []) → (e ≢ x.examiner → new ≡ old) →
    new ≡ own_keys e (es ++ (n, x) ∷ [])
own_more e n x es old new was mine other = grind (arith, nat_tests, own_keys_append, append-nil)

-- ---- an examiner's last entry

-- the entry under k is the last of examiner e's, whose keys before it are these
record IsLast (e k : ℕ) (keys : List ℕ) (es : List (ℕ × Entry)) : Type 0 where
  pub before : List (ℕ × Entry)
  pub entry : Entry
  pub after : List (ℕ × Entry)
  pub whole : es ≡ before ++ (k, entry) ∷ after
  pub mine : entry.examiner ≡ e
  pub earlier : own_keys e before ≡ keys
  pub none_later : own_keys e after ≡ []

-- behind another entry
last_behind : (e k : ℕ) (keys more : List ℕ) (p : ℕ × Entry) (es : List (ℕ × Entry)) (h : IsLast e k keys es)
    → own_keys e (p ∷ h.before) ≡ more → IsLast e k more (p ∷ es)
last_behind e k keys more p es h earlier = record {
  before = p ∷ h.before;
  entry = h.entry;
  after = h.after;
  whole = ap (λ (t : List (ℕ × Entry)). p ∷ t) h.whole;
  mine = h.mine;
  earlier = earlier;
  none_later = h.none_later;
}

-- in front, where its examiner has none behind it
last_here : (e k : ℕ) (p : ℕ × Entry) (es : List (ℕ × Entry)) → eqb (p.1).examiner e ≡ true → p.0 ≡ k → own_keys e es ≡ []
    → IsLast e k [] (p ∷ es)
last_here e k p es own at none = record {
  before = [];
  entry = p.1;
  after = es;
  whole = ap (λ (j : ℕ). (j, p.1) ∷ es) at;
  mine = eqb-true (p.1).examiner e own;
  earlier = refl;
  none_later = none;
}

pub same_parts : {V : Type 0} (x y : V) (xs ys : List V) → x ∷ xs ≡ y ∷ ys → (x ≡ y) × (xs ≡ ys)
same_parts x y xs ys h = ((cc), (cc))

no_last : (k : ℕ) (keys : List ℕ) → [] ≡ keys ++ k ∷ [] → ⊥
no_last k [] h = cc
no_last k (i ∷ keys) h = cc

last_step : (e k : ℕ) (keys : List ℕ) (p : ℕ × Entry) (es : List (ℕ × Entry)) (b : Bool) → eqb (p.1).examiner e ≡ b
    → cond b (p.0 ∷ own_keys e es) (own_keys e es) ≡ keys ++ k ∷ [] →
    ((older : List ℕ) → own_keys e es ≡ older ++ k ∷ [] → IsLast e k older es) → IsLast e k keys (p ∷ es)
last_step e k keys p es false at h rest =
    let l = rest keys h in
    last_behind e k keys keys p es l (grind (arith, l.earlier))
last_step e k [] p es true at h rest = let parts = same_parts p.0 k (own_keys e es) [] h in last_here e k p es at parts.0 parts.1
last_step e k (i ∷ keys) p es true at h rest =
    let parts = same_parts p.0 i (own_keys e es) (keys ++ k ∷ []) h in
    let l = rest keys parts.1 in
    last_behind e k keys (i ∷ keys) p es l (grind (arith, l.earlier, parts.0))

-- where k is the last of an examiner's keys
last_of : (e k : ℕ) (keys : List ℕ) (es : List (ℕ × Entry)) → own_keys e es ≡ keys ++ k ∷ [] → IsLast e k keys es
last_of e k keys [] h = absurd (no_last k keys h)
last_of e k keys (p ∷ es) h = last_step e k keys p es (eqb (p.1).examiner e) refl h (λ older g. last_of e k older es g)

-- ---- taken out

missed : (i k : ℕ) → nat_cmp i k ≡ Less → is_at (nat_cmp k) i ≡ false
missed i k h = grind (arith, nat_tests)

-- a key below all that follow is below k
below_last : (k i : ℕ) (x : Entry) (xs ys : List (ℕ × Entry)) → AllByRecursion (λ (j : ℕ). nat_cmp i j ≡ Less) (keys_of (xs ++ (k, x) ∷ ys))
    → nat_cmp i k ≡ Less
below_last k i x [] ys h = h.0
below_last k i x (p ∷ xs) ys h = below_last k i x xs ys h.1

-- no key before k is k
none_before : (k : ℕ) (x : Entry) (xs ys : List (ℕ × Entry)) → IsStrictlySortedBy nat_cmp (keys_of (xs ++ (k, x) ∷ ys))
    → NonePasses (is_at (nat_cmp k)) xs
unfolding IsStrictlySortedBy
none_before k x [] ys h = tt
none_before k x (p ∷ xs) ys h = (missed p.0 k (below_last k p.0 x xs ys h.0), none_before k x xs ys h.1)

removed_at : (k : ℕ) (x : Entry) (xs ys : List (ℕ × Entry)) → NonePasses (is_at (nat_cmp k)) xs
    → remove_entry (is_at (nat_cmp k)) (xs ++ (k, x) ∷ ys) ≡ xs ++ ys
removed_at k x [] ys h = grind (arith, nat_tests)
removed_at k x (p ∷ xs) ys h = grind (arith, h.0, removed_at k x xs ys h.1)

found_at : (k : ℕ) (x : Entry) (xs ys : List (ℕ × Entry)) → NonePasses (is_at (nat_cmp k)) xs
    → lookup (is_at (nat_cmp k)) (xs ++ (k, x) ∷ ys) ≡ Some x
found_at k x [] ys h = grind (arith, nat_tests)
found_at k x (p ∷ xs) ys h = grind (arith, h.0, found_at k x xs ys h.1)

-- the last entry is what its key finds
last_found : (e k : ℕ) (keys : List ℕ) (es : List (ℕ × Entry)) → IsStrictlySortedBy nat_cmp (keys_of es) → (l : IsLast e k keys es)
    → lookup (is_at (nat_cmp k)) es ≡ Some l.entry
last_found e k keys es sorted l =
    let s = subst (λ (t : List (ℕ × Entry)). IsStrictlySortedBy nat_cmp (keys_of t)) l.whole sorted in
    ap (lookup (is_at (nat_cmp k))) l.whole ∙ found_at k l.entry l.before l.after (none_before k l.entry l.before l.after s)

-- without it the entries before and after it are left
last_removed : (e k : ℕ) (keys : List ℕ) (es : List (ℕ × Entry)) → IsStrictlySortedBy nat_cmp (keys_of es) → (l : IsLast e k keys es) →
    remove_entry (is_at (nat_cmp k)) es ≡ l.before ++ l.after
last_removed e k keys es sorted l =
    let s = subst (λ (t : List (ℕ × Entry)). IsStrictlySortedBy nat_cmp (keys_of t)) l.whole sorted in
    ap (remove_entry (is_at (nat_cmp k))) l.whole ∙ removed_at k l.entry l.before l.after (none_before k l.entry l.before l.after s)

-- the keys of the examiner that are left
mine_left : (e k : ℕ) (keys : List ℕ) (es : List (ℕ × Entry)) → (l : IsLast e k keys es) → own_keys e (l.before ++ l.after) ≡ keys
mine_left e k keys es l = grind (arith, own_keys_append e l.before l.after, l.none_later, l.earlier, append-nil)

-- another examiner's keys stay
others_left : (e k f : ℕ) (keys : List ℕ) (es : List (ℕ × Entry)) → f ≢ e → (l : IsLast e k keys es)
    → own_keys f (l.before ++ l.after) ≡ own_keys f es
others_left e k f keys es other l =
    let whole = ap (λ (t : List (ℕ × Entry)). own_keys f t) l.whole in
    grind (arith, nat_tests, own_keys_append f l.before l.after, own_keys_append f l.before ((k, l.entry) ∷ l.after), l.mine)

view_around : (k : ℕ) (x : Entry) (xs ys : List (ℕ × Entry))
    → reverse (values_of (xs ++ (k, x) ∷ ys)) ≡ reverse (values_of ys) ++ x ∷ reverse (values_of xs)
view_around k x xs ys = view_parts xs ((k, x) ∷ ys)
    ∙ ap (λ (t : List Entry). t ++ reverse (values_of xs)) (reverse-append (x ∷ []) (values_of ys))
    ∙ append_assoc (reverse (values_of ys)) (x ∷ []) (reverse (values_of xs))

-- ---- an examiner with no entry

-- who has no key has no entry
none_of : (e : ℕ) (es : List (ℕ × Entry)) → own_keys e es ≡ [] → without e (values_of es) ≡ values_of es
none_of e [] h = refl
none_of e (p ∷ es) h = grind (arith, none_of e es)

pub filter_turned : {V : Type 0} (p : V → Bool) (xs ys : List V) → filter p (reverse_aux xs ys) ≡ reverse_aux (filter p xs) (filter p ys)
filter_turned p [] ys = refl
filter_turned p (x ∷ xs) ys = grind (arith, filter_turned p xs (x ∷ ys))

-- without the entries of one who has none they are what they were
pub none_gone : (e : ℕ) (es : List (ℕ × Entry)) → own_keys e es ≡ [] → without e (reverse (values_of es)) ≡ reverse (values_of es)
none_gone e es h = filter_turned (λ (x : Entry). not (eqb x.examiner e)) (values_of es) []
    ∙ ap (λ (t : List Entry). reverse t) (none_of e es h)

-- ---- what is taken

-- the entries are those that are left with the last one more
last_more : (e k : ℕ) (keys : List ℕ) (es : List (ℕ × Entry)) → (l : IsLast e k keys es)
    → IsNewest e l.entry (reverse (values_of (l.before ++ l.after))) (reverse (values_of es))
last_more e k keys es l = (
  reverse (values_of l.after),
  reverse (values_of l.before),
  ap (λ (t : List (ℕ × Entry)). reverse (values_of t)) l.whole ∙ view_around k l.entry l.before l.after,
  view_parts l.before l.after,
  none_gone e l.after l.none_later,
)

-- r is examiner e's last entry of es, which without it are left, where these keys are left to e
pub record IsTaken (e : ℕ) (keys : List ℕ) (es left : List (ℕ × Entry)) (r : Option Entry) : Type 0 where
  pub own : IfSome r (λ x. x.examiner ≡ e)
  pub taken : (view : List Entry) → reverse (values_of es) ≡ view → IfSome r (λ x. IsNewest e x (reverse (values_of left)) view)
  pub some : IfNone r ⊥
  pub keys_are : (f : ℕ) (now : List ℕ) → (f ≡ e → now ≡ keys) → (f ≢ e → now ≡ own_keys f es) → now ≡ own_keys f left

last_taken : (e k : ℕ) (keys : List ℕ) (es : List (ℕ × Entry)) (l : IsLast e k keys es)
    → IsTaken e keys es (l.before ++ l.after) (Some l.entry)
last_taken e k keys es l = record {
  own = l.mine;
  taken = λ view h. subst (λ (t : List Entry). IsNewest e l.entry (reverse (values_of (l.before ++ l.after))) t) h
      (last_more e k keys es l);
  some = tt;
  keys_are = λ f now mine other. elim (cases_eq f e) [
    | inl same ↦ mine same ∙ sym (mine_left e k keys es l) ∙ ap (λ (g : ℕ). own_keys g (l.before ++ l.after)) (sym same)
    | inr o ↦ other o ∙ sym (others_left e k f keys es o l)
  ];
}

-- what there is, nothing is said of where there is none
pub not_none : (P : Type 0) (r : Option Entry) → IfNone r ⊥ → IfNone r P
not_none P None h = absurd h
not_none P (Some x) h = tt

-- what a map gives and leaves at an examiner's last key
pub taken_by : (e k : ℕ) (keys : List ℕ) (es left : List (ℕ × Entry)) (r : Option Entry) → IsStrictlySortedBy nat_cmp (keys_of es)
    → own_keys e es ≡ keys ++ k ∷ [] →
    r ≡ lookup (is_at (nat_cmp k)) es → left ≡ remove_entry (is_at (nat_cmp k)) es → IsTaken e keys es left r
taken_by e k keys es left r sorted last found rest =
    let l = last_of e k keys es last in
    subst (λ (o : Option Entry). IsTaken e keys es left o) (sym (found ∙ last_found e k keys es sorted l))
    (subst (λ (t : List (ℕ × Entry)). IsTaken e keys es t (Some l.entry)) (sym (rest ∙ last_removed e k keys es sorted l))
    (last_taken e k keys es l))

-- ---- who is kept among those with numbers

-- who has a last number isn't kept with none
last_kept : (m : BTreeMap ℕ (Vec ℕ)) (e n : ℕ) (keys : List ℕ) → numbers_of m e ≡ keys ++ n ∷ [] → is_empty_kept m e ≡ false
last_kept m e n keys last = go (get nat_cmp m e) last
  where
    go : (o : Option (Vec ℕ)) → numbers_in o ≡ keys ++ n ∷ [] → empty_in o ≡ false
    go None h = refl
    go (Some v) h = ne_eqb (vec_len v) 0 (λ none. no_last n keys (sym (nil_from_length v.items (sym v.ok.0 ∙ none)) ∙ h))

-- with one number more of an examiner's nobody is kept with none, if no other was
pub kept_more : (m : BTreeMap ℕ (Vec ℕ)) (e x n : ℕ) (keys : List ℕ) → numbers_of m x ≡ keys ++ n ∷ []
    → (e ≢ x → is_empty_kept m e ≡ false) → is_empty_kept m e ≡ false
kept_more m e x n keys own other = grind (arith, nat_tests, last_kept m x n keys own)

-- without an examiner nobody is kept with none, if nobody was
pub kept_without : (m l : BTreeMap ℕ (Vec ℕ)) (e x : ℕ) → is_empty_kept l e ≡ (not (eqb e x) && is_empty_kept m e)
    → is_empty_kept m e ≡ false → is_empty_kept l e ≡ false
kept_without m l e x left none = left ∙ ap (λ (b : Bool). not (eqb e x) && b) none ∙ and-false (not (eqb e x))
