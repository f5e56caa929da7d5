-- Steps of the code, and what a put wrote: it is noted for the estates that its instrument names.
use Rattle.std.proofs.Common.{◌≡◌, ◌∙◌, ap, sym, subst, refl, ℕ, Bool, true, false, ◌&&◌, ◌||◌, cond, inl, inr, List, [], ◌∷◌, ◌++◌, map}
use Rattle.std.{proofs.Common.{Result, Ok, Err, OnOk, OnErr}, specs.List.{list_any}}
use Rattle.std.proofs.lemmas.{List.{map-append, Folds.{list_any-append}, Elements.{All-push}}, Bool.{cond_both}}
use Rattle.title_land.specs.{declared.rectangle.Quarter.{Quarter}, Laws.Members.{in_left, in_right}}
use Rattle.title_instrument.specs.declared.{parts.Estate.{Estate}, instrument.Instrument.{Instrument}}
use Rattle.title_instrument.specs.{Estates.{names}, Parties.{estates_of}}
use Rattle.title_tree.specs.{Plots.{Plot, fits}, Pieces.{Apart, split_all, Refines, StaysWithin, StaysElsewhere}, Joining.{ApartFromAll}}
use Rattle.title_tree.specs.Laws.{Depths.{split_all_fits}, Swaps.{split_all_reaches}, Joined.{elsewhere_split_all}}
use Rattle.title_tree_store.specs.declared.{forest.{Written.{Written}, Forest.{Forest}}, spots.Home.{Home}}
use Rattle.title_tree_store.specs.{Spots.{ways_at, reaches, IsHome}, Forests.{put_ways, named_ways, written, writes, was_written}}
use Rattle.title_tree_store.specs.Forests.{HasNote, IsNoted, AreHomes}

-- what was quartered, whole or in part, has the same cells and all nodes, goes no deeper, and stays where the paths don't lead
abbrev pub Stays : List (List Quarter) → Plot → Plot → Type 0
Stays ps t u = Refines t u × StaysWithin ps t u × StaysElsewhere ps t u

pub split_stays : {A E : Type 0} (r : Result A E) (ps : List (List Quarter)) (t u : Plot) → OnOk r (u ≡ split_all ps t)
    → OnErr r (Refines t u) → OnErr r (StaysWithin ps t u) → OnErr r (StaysElsewhere ps t u) → Stays ps t u
split_stays (Ok x) ps t u ok _ _ _ = (
  subst (Refines t) (sym ok) (split_all_reaches ps t).1,
  λ n s k. ap (fits n) ok ∙ split_all_fits ps t n s k,
  subst (StaysElsewhere ps t) (sym ok) (elsewhere_split_all ps t),
)
split_stays (Err f) ps t u ok refines within elsewhere = (refines, within, elsewhere)

-- the paths of an estate, by whether it is named
pub named_or : (P : List (List Quarter) → Type 0) (i : Instrument ℕ) (e : Estate) (ps : List (List Quarter)) → P ps
    → (names (estates_of i) e ≡ false → P []) → P (named_ways i e ps)
named_or P i e ps whole none = cond_both (names (estates_of i) e) ps [] P (λ h. whole) none

-- a note adds its paths in each section
pub ways_noted : {x : Instrument ℕ} {h : Home} {ps : List (List Quarter)} {old new : Forest} → HasNote x h ps old new → (e : Estate)
    (i j : ℕ) → written e i j new ≡ written e i j old ++ named_ways x e (ways_at h ps i j) ∷ []
ways_noted {old} note e i j = ap (map (put_ways e i j)) note.pushed ∙ map-append (put_ways e i j) old.written.items (note.last ∷ [])
    ∙ (λ k. written e i j old ++ cond (names (note.estates k) e) (ways_at (note.home k) (note.ways k) i j) [] ∷ [])

or_none : (b : Bool) → (b || false) ≡ b
or_none true = refl
or_none false = refl

-- and to the townships that were written
pub was_noted : {x : Instrument ℕ} {h : Home} {ps : List (List Quarter)} {old new : Forest} → HasNote x h ps old new → (e : Estate)
    (i : ℕ) → was_written e i new ≡ (was_written e i old || (names (estates_of x) e && reaches h i))
was_noted {x} {h} {old} note e i = ap (list_any (writes e i)) note.pushed
    ∙ list_any-append (writes e i) old.written.items (note.last ∷ [])
    ∙ (λ k. was_written e i old || ((names (note.estates k) e && reaches (note.home k) i) || false))
    ∙ ap (λ (b : Bool). was_written e i old || b) (or_none (names (estates_of x) e && reaches h i))

-- notes of townships and sections that there are
pub homes_noted : {x : Instrument ℕ} {h : Home} {ps : List (List Quarter)} {old new : Forest} (count : ℕ) → IsNoted x h ps old new
    → IsHome count h → AreHomes count old.written.items → AreHomes count new.written.items
homes_noted {old} count noted there all = elim noted [
  | inl note ↦ subst (AreHomes count) (sym note.pushed) (All-push (λ (w : Written). IsHome count w.home) old.written.items note.last all
      (subst (IsHome count) (sym note.home) there))
  | inr same ↦ subst (AreHomes count) (sym same.noted) all
]

pub noted_anyway : {A E : Type 0} {x : Instrument ℕ} {h : Home} {ps : List (List Quarter)} {old new : Forest} (r : Result A E)
    → OnOk r (HasNote x h ps old new) → OnErr r (IsNoted x h ps old new) → IsNoted x h ps old new
noted_anyway (Ok a) note stopped = inl note
noted_anyway (Err f) note stopped = stopped

-- what is apart from all that is written now was so before, and is apart from what the note adds
pub apart_noted : {x : Instrument ℕ} {h : Home} {ps : List (List Quarter)} {old new : Forest} → HasNote x h ps old new → (e : Estate)
    (i j : ℕ) (q : List Quarter) → ApartFromAll q (written e i j new)
    → ApartFromAll q (written e i j old) × Apart q (named_ways x e (ways_at h ps i j))
apart_noted {x} {h} {ps} {old} note e i j q away =
    let own = named_ways x e (ways_at h ps i j) in
    let all = subst (ApartFromAll q) (ways_noted note e i j) away in
    (λ p k. all p (in_left p (written e i j old) (own ∷ []) k), all own (in_right own (written e i j old) (own ∷ []) (inl refl)))

-- a township that no part reaches, where parts are only of the estates that an instrument names
pub not_reached : (some named reached : Bool) → (some ≡ true → named ≡ true) → (named && reached) ≡ false → (some && reached) ≡ false
not_reached true named reached f h = ap (λ (b : Bool). b && reached) (sym (f refl)) ∙ h
not_reached false named reached f h = refl
