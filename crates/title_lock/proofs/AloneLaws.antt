-- Entries of one examiner alone.
use Rattle.std.proofs.lemmas.{Bool.{Decides.{nat_tests}, ne_eqb}, List.Elements.{All-head, All-tail, All-same, All-filter}}
use Rattle.std.proofs.Common.{◌≡◌, ◌≢◌, ℕ, Bool, false, not, List, [], ◌∷◌, None, eqb, refl, sym, ap, subst, ◌∙◌, arith}
use Rattle.title_land.specs.declared.{node.Node.{Node}, tract.Land.{Land}}
use Rattle.title_lock.specs.{declared.{guards.Entry.{Entry}, modes.Mode.{Mode}}, Asking.{mode_at}, Counts.{IsCount}, Holders.{own_part}}
use Rattle.title_lock.specs.{Overlaps.{against, Stands, without}, declared.node_locks.Layout.{Layout, TheVariants.{Alone}}}
use Rattle.title_lock.{specs.Locks.{Locks, shown, AreOwn, AreInOne}, proofs.CountLaws.{count_none, count_moved}}

-- the first is not f's where it is another's
first_other : (e f : ℕ) (x : Entry) (es : List Entry) → AreOwn e (x ∷ es) → f ≢ e → eqb f x.examiner ≡ false
first_other e f x es own other = ne_eqb f x.examiner (λ s. other (s ∙ All-head (λ (z : Entry). z.examiner ≡ e) x es own))

rest_own : (e : ℕ) (x : Entry) (es : List Entry) → AreOwn e (x ∷ es) → AreOwn e es
rest_own e x es own = All-tail (λ (z : Entry). z.examiner ≡ e) x es own

-- none of its entries is another's
none_against : (e f : ℕ) (es : List Entry) (land : Land) (post : Bool) → AreOwn e es → f ≢ e → against land post f es ≡ false
none_against e f [] land post own other = refl
none_against e f (x ∷ es) land post own other =
    grind (arith, first_other e f x es own other, none_against e f es land post (rest_own e x es own) other)

-- nobody is in its way
own_free : (e : ℕ) (es : List Entry) (land : Land) (post : Bool) → AreOwn e es → Stands es e land post None
own_free e es land post own f other = none_against e f es land post own other

-- nobody else holds a node
mode_other : (depth e f : ℕ) (es : List Entry) (n : Node) → AreOwn e es → f ≢ e → mode_at depth es f n ≡ None
mode_other depth e f [] n own other = refl
mode_other depth e f (x ∷ es) n own other =
    grind (arith, first_other e f x es own other, mode_other depth e f es n (rest_own e x es own) other)

-- as many have a mode as the one examiner is of those with it
pub count_alone : (depth e : ℕ) (es : List Entry) (n : Node) (m : Mode) (k : ℕ) → AreOwn e es → k ≡ own_part (mode_at depth es e n) m
    → IsCount (λ f. mode_at depth es f n) m k
count_alone depth e es n m k own is =
    count_moved (λ f. None) (λ f. mode_at depth es f n) e (λ f other. mode_other depth e f es n own other) m 0 k
    (count_none (λ f. None) m (λ f. refl)) (omega (arith, is))

-- none of its entries is taken out with another's
pub without_other : (e o : ℕ) (es : List Entry) → AreOwn o es → e ≢ o → without e es ≡ es
without_other e o [] own other = refl
without_other e o (x ∷ es) own other =
    grind (arith, nat_tests, All-head (λ (z : Entry). z.examiner ≡ o) x es own, without_other e o es (rest_own o x es own) other)

-- ---- where one examiner is alone

-- what is listed shows
pub listed_shown : (layout : Layout) (e : ℕ) (listed spread locks : Locks) → shown layout listed spread ≡ locks → layout ≡ Alone e
    → listed.entries ≡ locks.entries
listed_shown layout e listed spread locks view is =
    ap (λ (a : Layout). (shown a listed spread).entries) (sym is) ∙ ap (λ (l : Locks). l.entries) view

-- and is all its own
listed_own : (layout : Layout) (e : ℕ) (listed spread : List Entry) → AreInOne layout listed spread → layout ≡ Alone e → AreOwn e listed
listed_own layout e listed spread one is = (subst (λ (a : Layout). AreInOne a listed spread) is one).0

pub shown_own : (layout : Layout) (e : ℕ) (listed spread locks : Locks) → shown layout listed spread ≡ locks
    → AreInOne layout listed.entries spread.entries → layout ≡ Alone e → AreOwn e locks.entries
shown_own layout e listed spread locks view one is =
    subst (λ (es : List Entry). AreOwn e es) (listed_shown layout e listed spread locks view is)
    (listed_own layout e listed.entries spread.entries one is)

-- nobody is in its way
pub alone_free : (layout : Layout) (e f : ℕ) (listed spread locks : Locks) (es : List Entry) → shown layout listed spread ≡ locks
    → AreInOne layout listed.entries spread.entries → locks.entries ≡ es → layout ≡ Alone e → e ≡ f → (land : Land) (post : Bool)
    → Stands es f land post None
alone_free layout e f listed spread locks es view one kept is same land post = subst (λ (g : ℕ). Stands es g land post None) same
    (own_free e es land post (subst (λ (t : List Entry). AreOwn e t) kept (shown_own layout e listed spread locks view one is)))

-- fewer of them are so, too
pub fewer_in_one : (layout : Layout) (o e : ℕ) (listed fewer spread : List Entry) → fewer ≡ without e listed → AreInOne layout listed spread
    → layout ≡ Alone o → AreInOne layout fewer spread
fewer_in_one layout o e listed fewer spread left one is =
    let now = subst (λ (a : Layout). AreInOne a listed spread) is one in
    subst (λ (a : Layout). AreInOne a fewer spread) (sym is) (
      All-same (λ (z : Entry). z.examiner ≡ o) fewer (without e listed) left
          (All-filter (λ (z : Entry). not (eqb z.examiner e)) (λ (z : Entry). z.examiner ≡ o) listed now.0),
      now.1,
    )
