-- Where the trees of a store are joined, through each of its operations.
use Rattle.std.proofs.Common.{◌≡◌, ◌∙◌, ap, sym, refl, subst, ℕ, zero, suc, ◌<◌, arith, Bool, true, false, ◌&&◌, not, inl, inr, List}
use Rattle.std.proofs.Common.{[], ◌∷◌}
use Rattle.std.proofs.Common.{◌++◌, length, map, get_or, append-nil}
use Rattle.std.proofs.lemmas.{Bool.{false_from_ne_true}, List.{length-map, get_or_default}}
use Rattle.std.proofs.lemmas.Bool.{not_from_false, and_from, and_parts, cases_Bool, or_parts, or_left, or_right, both_ways}
use Rattle.std.{proofs.lemmas.List.Sums.{list_all-from_AllPass}, specs.{List.{list_any, list_all}, Global.{Vec}}}
use Rattle.title_share.specs.Division.{all_to}
use Rattle.title_land.specs.{declared.{survey.Township.{Township}, rectangle.Quarter.{Quarter}}, Laws.Members.{In}}
use Rattle.title_instrument.specs.declared.{parts.Estate.{Estate, TheVariants.{S, O, M}}, instrument.Instrument.{Instrument}}
use Rattle.title_instrument.specs.{Estates.{names}, Parties.{estates_of}}
use Rattle.title_tree.specs.{Joins.{is_joinable}, Joining.{ApartFromAll, JoinedBut}, Plots.{Plot, Same, plot_at, is_tidy}, Trees.{plot}}
use Rattle.title_tree.specs.Pieces.{Piece, Apart, paths}
use Rattle.title_tree.specs.Laws.Joined.{elsewhere_split_all, elsewhere_swapped, joined_but_none, joined_but_tidy}
use Rattle.title_tree_store.specs.declared.{forest.{Forest.{Forest}, Subtrees.{Subtrees}, Written.{Written}}, lent.Lent.{Lent}}
use Rattle.title_tree_store.specs.{declared.{spots.Home.{Home}, ground.Ground.{Ground, TheVariants.{Whole, Parted}}}, Grounds.{closable_in}}
use Rattle.title_tree_store.specs.Grounds.{Everywhere, nothing, stands, section_plots, are_one, is_closable, ground_tidy, plot_in}
use Rattle.title_tree_store.specs.Forests.{put_ways, written, writes, was_written, are_joined, AreTidied, named_ways, IsNoted}
use Rattle.title_tree_store.specs.Forests.{IsQuartered, IsTidy}
use Rattle.title_tree_store.specs.{Forests.{IsExchanged, grounds, plots, pieces, parts_of, is_some_part}, Spots.{home_in, ways_in, reaches}}
use Rattle.title_tree_store.{specs.Keeping.{IsTakenOut, lent_pieces, AreJoined}, proofs.{Contents.{everywhere}, Keeps.{left_in, out_in}}}
use Rattle.title_tree_store.proofs.{Contents.{each}, Images.{pushed}, Puts.{IsPut, IsDone, put_paths}, Steps.{apart_noted, was_noted}}

-- ---- the test of all estates

one_tidy : (g : Ground) → ((j : ℕ) → j < 36 → is_tidy (stands g j) ≡ true) → is_closable g ≡ false → ground_tidy g ≡ true
one_tidy (Whole tree) tidy closed = tidy 0 (omega arith)
one_tidy (Parted x) tidy closed =
    and_from (list_all is_tidy (section_plots x)) (not (are_one (section_plots x)))
    (list_all-from_AllPass is_tidy (section_plots x) (λ j d l. ap is_tidy (get_or_default (section_plots x) j d nothing l)
    ∙ tidy j (omega (arith, l, x.all, length-map x.trees.items plot))))
    (not_from_false (are_one (section_plots x)) closed)

all_tidy : (gs : List Ground) → Everywhere (length gs) (λ i j. is_tidy (plot_in gs i j) ≡ true) → ((i : ℕ) → closable_in gs i ≡ false)
    → list_all ground_tidy gs ≡ true
all_tidy [] tidy closed = refl
all_tidy (g ∷ gs) tidy closed = and_from (ground_tidy g) (list_all ground_tidy gs) (one_tidy g (λ j b. tidy 0 j (omega arith) b) (closed 0))
    (all_tidy gs (λ i j a b. tidy (suc i) j (omega (arith, a)) b) (λ i. closed (suc i)))

pub all_joined : (f : Forest) → IsTidy f → are_joined f ≡ true
all_joined f h = and_from (list_all ground_tidy f.s.items) (list_all ground_tidy f.o.items && list_all ground_tidy f.m.items)
    (all_tidy f.s.items (h.tidy S) (h.closed S))
    (and_from (list_all ground_tidy f.o.items) (list_all ground_tidy f.m.items)
    (all_tidy f.o.items (h.tidy O) (h.closed O)) (all_tidy f.m.items (h.tidy M) (h.closed M)))

tidy_in : (xs : List Plot) → list_all is_tidy xs ≡ true → (j : ℕ) → is_tidy (get_or xs j nothing) ≡ true
tidy_in [] h j = refl
tidy_in (x ∷ xs) h zero = (and_parts (is_tidy x) (list_all is_tidy xs) h).0
tidy_in (x ∷ xs) h (suc j) = tidy_in xs (and_parts (is_tidy x) (list_all is_tidy xs) h).1 j

false_from_not : (b : Bool) → not b ≡ true → b ≡ false
false_from_not true h = absurd cc
false_from_not false h = refl

tidy_sections : (g : Ground) → ground_tidy g ≡ true → ((j : ℕ) → is_tidy (stands g j) ≡ true) × (is_closable g ≡ false)
tidy_sections (Whole tree) h = (λ j. h, refl)
tidy_sections (Parted x) h =
    let k = and_parts (list_all is_tidy (section_plots x)) (not (are_one (section_plots x))) h in
    (tidy_in (section_plots x) k.0, false_from_not (are_one (section_plots x)) k.1)

tidy_plots : (gs : List Ground) → list_all ground_tidy gs ≡ true → Everywhere (length gs) (λ i j. is_tidy (plot_in gs i j) ≡ true)
tidy_plots [] h i j a b = absurd (omega (arith, a))
tidy_plots (g ∷ gs) h zero j a b = (tidy_sections g (and_parts (ground_tidy g) (list_all ground_tidy gs) h).0).0 j
tidy_plots (g ∷ gs) h (suc i) j a b = tidy_plots gs (and_parts (ground_tidy g) (list_all ground_tidy gs) h).1 i j (omega (arith, a)) b

tidy_closed : (gs : List Ground) → list_all ground_tidy gs ≡ true → (i : ℕ) → closable_in gs i ≡ false
tidy_closed [] h i = refl
tidy_closed (g ∷ gs) h zero = (tidy_sections g (and_parts (ground_tidy g) (list_all ground_tidy gs) h).0).1
tidy_closed (g ∷ gs) h (suc i) = tidy_closed gs (and_parts (ground_tidy g) (list_all ground_tidy gs) h).1 i

-- where the test of all says so, each is
pub from_joined : (f : Forest) → are_joined f ≡ true → IsTidy f
from_joined f h =
    let k = and_parts (list_all ground_tidy f.s.items) (list_all ground_tidy f.o.items && list_all ground_tidy f.m.items) h in
    let l = and_parts (list_all ground_tidy f.o.items) (list_all ground_tidy f.m.items) k.1 in
    record {
      tidy = each (record { s = tidy_plots f.s.items k.0; o = tidy_plots f.o.items l.0; m = tidy_plots f.m.items l.1 });
      closed = each (record { s = tidy_closed f.s.items k.0; o = tidy_closed f.o.items l.0; m = tidy_closed f.m.items l.1 });
    }

-- where no image is out
pub joined_none : (ts : List Township) (f : Forest) (lent : List Lent) → lent ≡ [] → IsTidy f → AreJoined ts f lent
joined_none ts f lent none h = record {
  joined = λ e i j a b. joined_but_none (written e i j f) (plots f e i j) (h.tidy e i j a b);
  closed = λ e i m. h.closed e i;
  lies = λ e i j a b l m. absurd (subst (λ (z : List Lent). In l z) none m);
  marked = λ e i l m. absurd (subst (λ (z : List Lent). In l z) none m);
}

-- trees of one leaf
pub opened_tidy : {count : ℕ} (f : Forest) → ((e : Estate) → length (grounds f e) ≡ count)
    → ((e : Estate) → Everywhere count (λ i j. plots f e i j ≡ Same (all_to 0)))
    → ((e : Estate) (i : ℕ) → closable_in (grounds f e) i ≡ false) → IsTidy f
opened_tidy f sized opening closed = record {
  tidy = λ e. everywhere (sym (sized e)) (λ i j a b. ap is_tidy (opening e i j a b));
  closed = closed;
}

-- ---- a put

-- quartering that stopped
pub joined_stopped : {ts : List Township} {x : Instrument ℕ} {h : Home} {ps : List (List Quarter)} {old new : Forest} {lent : List Lent}
    → IsQuartered x h ps old new → IsNoted x h ps old new → AreJoined ts old lent → AreJoined ts new lent
joined_stopped {x} {h} {old} {new} q noted k = record {
  joined = λ e. everywhere (sym (each q.split e).sized) (λ i j a b p m.
      let s = apart e i j a b p m in ap is_joinable s.1 ∙ k.joined e i j a b p s.0);
  closed = λ e i none. elim noted [
    | inl note ↦
        let parts = or_parts (was_written e i old) (names (estates_of x) e && reaches h i) (sym (was_noted note e i) ∙ none) in
        (each q.split e).closed i parts.1 ∙ k.closed e i parts.0
    | inr same ↦ (each same.townships e).closable i ∙ k.closed e i (sym (ap (list_any (writes e i)) same.noted) ∙ none)
  ];
  lies = λ e. everywhere (sym (each q.split e).sized) (λ i j a b l m p n. k.lies e i j a b l m p (apart e i j a b p n).0);
  marked = λ e i l m some. elim noted [
    | inl note ↦ was_noted note e i
        ∙ or_left (was_written e i old) (names (estates_of x) e && reaches h i) (k.marked e i l m some)
    | inr same ↦ ap (list_any (writes e i)) same.noted ∙ k.marked e i l m some
  ];
}
  where
    -- what is apart from all paths that are written now was so before, and is as it was
    apart : (e : Estate) → Everywhere (length (grounds old e)) (λ i j. (p : List Quarter) → ApartFromAll p (written e i j new)
        → ApartFromAll p (written e i j old) × (plot_at p (plots new e i j) ≡ plot_at p (plots old e i j)))
    apart e i j a b p away = elim noted [
      | inl note ↦ let s = apart_noted note e i j p away in (s.0, (each q.split e).elsewhere i j a b p s.1)
      | inr same ↦ (
        subst (λ (puts : List Written). ApartFromAll p (map (put_ways e i j) puts)) same.noted away,
        ap (plot_at p) ((each same.townships e).stays i j a b),
      )
    ]

put_elsewhere : {i : Instrument ℕ} {ps : List (List Quarter)} {e : Estate} {t u v : Plot} {xs ys : List Piece} → IsPut i ps e t u v xs ys
    → (q : List Quarter) → Apart q (named_ways i e ps) → plot_at q v ≡ plot_at q t
put_elsewhere {i} {ps} {e} {t} {u} {xs} put q away = ap (plot_at q) put.exchanged
    ∙ elsewhere_swapped xs u q (subst (Apart q) (sym (put_paths put).0) away)
    ∙ ap (plot_at q) put.split ∙ elsewhere_split_all (named_ways i e ps) t q away

pub joined_put : {i : Instrument ℕ} {ts : List Township} {old new : Forest} {lent : List Lent} (l : Lent)
    → ((e : Estate) → length (grounds old e) ≡ length ts) → IsDone ts l.land i old new l.trees → AreJoined ts old lent
    → AreJoined ts new (lent ++ l ∷ [])
joined_put {i} {ts} {old} {new} {lent} l sized done k = record {
  joined = λ e. everywhere (sym (done.sized e)) (λ a b c d q m.
      let s = apart_noted done.noted e a b q m in ap is_joinable (put_elsewhere (put e a b c d) q s.1) ∙ k.joined e a b c d q s.0);
  closed = λ e t none.
      let parts = or_parts (was_written e t old) (now e t) (sym (was_noted done.noted e t) ∙ none) in
      done.closed e t parts.1 ∙ k.closed e t parts.0;
  lies = λ e. everywhere (sym (done.sized e)) (λ a b c d y m q n.
      let s = apart_noted done.noted e a b q n in
      pushed (λ z. Apart q (paths (lent_pieces ts z e a b))) lent l (λ z o. k.lies e a b c d z o q s.0)
      (subst (Apart q) (sym (put_paths (put e a b c d)).1) s.1) y m);
  marked = λ e t. pushed (λ z. (is_some_part (parts_of z.trees e) && reaches (home_in ts z.land) t) ≡ true → was_written e t new ≡ true)
      lent l
      (λ y o some. was_noted done.noted e t ∙ or_left (was_written e t old) (now e t) (k.marked e t y o some))
      (λ some.
      let own = and_parts (is_some_part (parts_of l.trees e)) (reaches (home_in ts l.land) t) some in
      was_noted done.noted e t ∙ or_right (was_written e t old) (now e t) (and_from (names (estates_of i) e)
      (reaches (home_in ts l.land) t) (done.named e own.0) own.1));
}
  where
    now : Estate → ℕ → Bool
    now e t = names (estates_of i) e && reaches (home_in ts l.land) t

    put : (e : Estate) → Everywhere (length (grounds old e)) (λ a b. IsPut i (ways_in ts l.land a b) e (plots old e a b)
        (plots done.mid e a b) (plots new e a b) (pieces (home_in ts l.land) done.made e a b) (lent_pieces ts l e a b))
    put e = everywhere (sym (sized e)) (done.put e)

-- ---- an image that goes back or is let go

pub joined_restored : {ts : List Township} {old new : Forest} {lent less : List Lent} {n : ℕ} {l : Lent} {back : Subtrees}
    → IsTakenOut n l lent less → new.written ≡ old.written → ((e : Estate) → IsExchanged e (home_in ts l.land) l.trees back old new)
    → AreJoined ts old lent → AreJoined ts new less
joined_restored {ts} {old} {new} {lent} {less} {n} {l} out noted swap k = record {
  joined = λ e. everywhere (sym (swap e).sized) (λ i j a b q m.
      let s = subst (ApartFromAll q) (same_ways e i j) m in
      ap is_joinable (ap (plot_at q) ((swap e).trees i j a b)
      ∙ elsewhere_swapped (lent_pieces ts l e i j) (plots old e i j) q (k.lies e i j a b l (out_in out) q s)) ∙ k.joined e i j a b q s);
  closed = λ e i none.
      let before : was_written e i old ≡ false = sym (same_marks e i) ∙ none in
      (swap e).elsewhere i (false_from_ne_true _ (λ some. both_ways (was_written e i old) before (k.marked e i l (out_in out) some)))
      ∙ k.closed e i before;
  lies = λ e. everywhere (sym (swap e).sized) (λ i j a b x m q n.
      k.lies e i j a b x (left_in out x m) q (subst (ApartFromAll q) (same_ways e i j) n));
  marked = λ e i x m some. same_marks e i ∙ k.marked e i x (left_in out x m) some;
}
  where
    same_ways : (e : Estate) (i j : ℕ) → written e i j new ≡ written e i j old
    same_ways e i j = ap (λ (ws : Vec Written). map (put_ways e i j) ws.items) noted

    same_marks : (e : Estate) (i : ℕ) → was_written e i new ≡ was_written e i old
    same_marks e i = ap (λ (ws : Vec Written). list_any (writes e i) ws.items) noted

pub joined_less : {ts : List Township} {f : Forest} {lent less : List Lent} {n : ℕ} {l : Lent} → IsTakenOut n l lent less
    → AreJoined ts f lent → AreJoined ts f less
joined_less out k = record {
  joined = k.joined;
  closed = k.closed;
  lies = λ e i j a b x m. k.lies e i j a b x (left_in out x m);
  marked = λ e i x m. k.marked e i x (left_in out x m);
}

-- ---- tidying

-- what is joined but where it was written is tidy once that is tidied
pub joined_tidied : {ts : List Township} {old : Forest} (new : Forest) {lent : List Lent}
    → ((e : Estate) → AreTidied e old.written.items (grounds old e) (grounds new e)) → AreJoined ts old lent → IsTidy new
joined_tidied {old} new done k = record {
  tidy = λ e. everywhere (sym (done e).sized) (λ i j a b. joined_but_tidy (plots new e i j) (((done e).tidied i j a b).joined []
      (subst (λ (puts : List (List (List Quarter))). JoinedBut puts (plots old e i j)) (sym (append-nil (written e i j old)))
      (k.joined e i j a b))));
  closed = λ e i. elim (cases_Bool (was_written e i old)) [ inl w ↦ (done e).closed i w | inr w ↦ (done e).others i w ∙ k.closed e i w ];
}
