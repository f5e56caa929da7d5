-- Pieces changing places with what stands at their paths.
use Rattle.std.proofs.Common.{◌≡◌, Bool, true, false, ◌||◌, cond, List, [], ◌∷◌, ◌++◌, length}
use Rattle.std.proofs.Common.{Result, Ok, Err, OnErr, refl, sym, ap, subst, ◌∙◌, inl, inr}
use Rattle.title_share.specs.Division.{Division}
use Rattle.title_land.specs.{declared.rectangle.Quarter.{Quarter}, Laws.Members.{In}}
use Rattle.title_tree.specs.{Paths.{begins, rest}, Plots.{Plot, value_at, has_path, plot_at, graft, split, changed}, Pieces.{Refines}}
use Rattle.title_tree.specs.Pieces.{Piece, paths, has, held, swapped, taken, split_all, fresh, Apart, Disjoint, Ready, Short, Reaches}
use Rattle.title_tree.specs.Laws.{Beginnings.{begins_append, begins_both}, Grafts.{value_split, split_has, split_keeps, plot_at_split}}
use Rattle.title_tree.specs.Laws.Grafts.{value_graft, value_plot_at, has_graft, has_below, has_changed, value_changed}

apart_reaches : (p : List Quarter) (n : Plot) (q : List Quarter) → begins p q ≡ false → (r : List Quarter) → q ≡ p ++ r
    → has_path r n ≡ true
apart_reaches p n q f r e = let k : begins p q ≡ true = ap (λ (z : List Quarter). begins p z) e ∙ begins_append p r in absurd cc

pub ready_graft : (p : List Quarter) (n t : Plot) (qs : List (List Quarter)) → Apart p qs → Ready qs t → Ready qs (graft p n t)
ready_graft p n t qs a h q i = has_graft p n t q (apart_reaches p n q (a q i).0) (h q i)

by_two : (b h : Bool) {A : Type 0} (x y z : A) → cond h x (cond b y z) ≡ cond (b || h) (cond h x y) z
by_two true true x y z = refl
by_two true false x y z = refl
by_two false true x y z = refl
by_two false false x y z = refl

pub value_swapped : (xs : List Piece) (t : Plot) (c : List Quarter) → Disjoint (paths xs) → Ready (paths xs) t
    → Short (paths xs) (length c) → value_at (swapped xs t) c ≡ cond (has (paths xs) c) (held xs c) (value_at t c)
value_swapped [] t c d h s = refl
value_swapped (x ∷ xs) t c d h s =
    value_swapped xs (graft x.path x.plot t) c d.1 (ready_graft x.path x.plot t (paths xs) d.0 (λ q i. h q (inr i))) (λ q i. s q (inr i))
    ∙ ap (λ (v : Division). cond (has (paths xs) c) (held xs c) v)
    (value_graft x.path x.plot t c (h x.path (inl refl)) (s x.path (inl refl)))
    ∙ by_two (begins x.path c) (has (paths xs) c) (held xs c) (value_at x.plot (rest x.path c)) (value_at t c)

pub paths_taken : (xs : List Piece) (t : Plot) → paths (taken xs t) ≡ paths xs
paths_taken [] t = refl
paths_taken (x ∷ xs) t = ap (λ (z : List (List Quarter)). x.path ∷ z) (paths_taken xs (graft x.path x.plot t))

pub paths_fresh : (change : Division → Division) (ps : List (List Quarter)) (t : Plot) → paths (fresh change ps t) ≡ ps
paths_fresh change [] t = refl
paths_fresh change (p ∷ ps) t = ap (λ (z : List (List Quarter)). p ∷ z) (paths_fresh change ps t)

apart_case : (p q : List Quarter) (qs : List (List Quarter)) (c : List Quarter) → Apart p (q ∷ qs) → (b d : Bool) → begins p c ≡ b
    → begins q c ≡ d → (d || has qs c) ≡ true → (has qs c ≡ true → begins p c ≡ false) → b ≡ false
apart_case p q qs c a false d e f g k = refl
apart_case p q qs c a true true e f g k = absurd (begins_both p q c e f (a q (inl refl)).0 (a q (inl refl)).1)
apart_case p q qs c a true false e f g k = sym e ∙ k g

-- a path that begins a cell of paths apart from another doesn't begin with that one
pub apart_from : (p : List Quarter) (qs : List (List Quarter)) (c : List Quarter) → Apart p qs → has qs c ≡ true → begins p c ≡ false
apart_from p [] c a h = absurd cc
apart_from p (q ∷ qs) c a h =
    let k : (b : Bool) (d : Bool) → begins p c ≡ b → begins q c ≡ d → (d || has qs c) ≡ true → b ≡ false =
    λ b d e f g. apart_case p q qs c a b d e f g (λ i. apart_from p qs c (λ x j. a x (inr j)) i) in
    k (begins p c) (begins q c) refl refl h

held_case : (b h : Bool) (x y z : Division) → (b || h) ≡ true → (h ≡ true → x ≡ z) → (b ≡ true → y ≡ z) → cond h x y ≡ z
held_case b true x y z e f g = f refl
held_case true false x y z e f g = g refl
held_case false false x y z e f g = absurd cc

-- what is taken holds what stood there
pub held_taken : (xs : List Piece) (t : Plot) (c : List Quarter) → Disjoint (paths xs) → Ready (paths xs) t
    → Short (paths xs) (length c) → has (paths xs) c ≡ true → held (taken xs t) c ≡ value_at t c
held_taken [] t c d h s i = absurd cc
held_taken (x ∷ xs) t c d h s i =
    rw (paths_taken xs (graft x.path x.plot t))
    (held_case (begins x.path c) (has (paths xs) c) (held (taken xs (graft x.path x.plot t)) c)
    (value_at (plot_at x.path t) (rest x.path c)) (value_at t c) i
    (λ e. held_taken xs (graft x.path x.plot t) c d.1 (ready_graft x.path x.plot t (paths xs) d.0 (λ q j. h q (inr j)))
    (λ q j. s q (inr j)) e
    ∙ value_graft x.path x.plot t c (h x.path (inl refl)) (s x.path (inl refl))
    ∙ ap (λ (b : Bool). cond b (value_at x.plot (rest x.path c)) (value_at t c)) (apart_from x.path (paths xs) c d.0 e))
    (λ e. value_plot_at x.path t c e))

-- what an instrument makes holds what it leaves in each cell
pub held_fresh : (change : Division → Division) (ps : List (List Quarter)) (t : Plot) (c : List Quarter) → has ps c ≡ true
    → held (fresh change ps t) c ≡ change (value_at t c)
held_fresh change [] t c i = absurd cc
held_fresh change (p ∷ ps) t c i =
    rw (paths_fresh change ps t)
    (held_case (begins p c) (has ps c) (held (fresh change ps t) c) (value_at (changed change (plot_at p t)) (rest p c))
    (change (value_at t c)) i
    (λ e. held_fresh change ps t c e)
    (λ e. value_changed change (plot_at p t) (rest p c) ∙ ap (λ (v : Division). change v) (value_plot_at p t c e)))

-- ---- paths that stay

pub reaches_swapped : (q : List Quarter) (ys : List Piece) (t : Plot) → Reaches q ys → has_path q t ≡ true
    → has_path q (swapped ys t) ≡ true
reaches_swapped q [] t f h = h
reaches_swapped q (y ∷ ys) t f h =
    reaches_swapped q ys (graft y.path y.plot t) (λ x i. f x (inr i)) (has_graft y.path y.plot t q (f y (inl refl)) h)

pub reaches_taken : (q : List Quarter) (ys : List Piece) (t : Plot) → Reaches q ys → has_path q t ≡ true → Reaches q (taken ys t)
reaches_taken q [] t f h y i r k = absurd i
reaches_taken q (y ∷ ys) t f h z (inl e) r k =
    let at : q ≡ y.path ++ r = k ∙ ap (λ (w : Piece). w.path ++ r) e in
    ap (λ (w : Piece). has_path r w.plot) e ∙ has_below y.path t r (subst (λ (w : List Quarter). has_path w t ≡ true) at h)
reaches_taken q (y ∷ ys) t f h z (inr i) r k =
    reaches_taken q ys (graft y.path y.plot t) (λ x j. f x (inr j)) (has_graft y.path y.plot t q (f y (inl refl)) h) z i r k

-- an instrument's new plots have all paths of the old ones
pub reaches_fresh : (q : List Quarter) (change : Division → Division) (ps : List (List Quarter)) (t : Plot) → has_path q t ≡ true
    → Reaches q (fresh change ps t)
reaches_fresh q change [] t h y i r k = absurd i
reaches_fresh q change (p ∷ ps) t h y (inl e) r k =
    let at : q ≡ p ++ r = k ∙ ap (λ (w : Piece). w.path ++ r) e in
    ap (λ (w : Piece). has_path r w.plot) e ∙ has_changed change (plot_at p t) r
    ∙ has_below p t r (subst (λ (w : List Quarter). has_path w t ≡ true) at h)
reaches_fresh q change (p ∷ ps) t h y (inr i) r k = reaches_fresh q change ps t h y i r k

pub split_all_value : (ps : List (List Quarter)) (t : Plot) (c : List Quarter) → value_at (split_all ps t) c ≡ value_at t c
split_all_value [] t c = refl
split_all_value (p ∷ ps) t c = split_all_value ps (split p t) c ∙ value_split p t c

pub split_all_keeps : (ps : List (List Quarter)) (t : Plot) (q : List Quarter) → has_path q t ≡ true → has_path q (split_all ps t) ≡ true
split_all_keeps [] t q h = h
split_all_keeps (p ∷ ps) t q h = split_all_keeps ps (split p t) q (split_keeps p t q h)

pub split_all_ready : (ps : List (List Quarter)) (t : Plot) → Ready ps (split_all ps t)
split_all_ready [] t q i = absurd i
split_all_ready (p ∷ ps) t q (inl e) =
    split_all_keeps ps (split p t) q (subst (λ (z : List Quarter). has_path z (split p t) ≡ true) (sym e) (split_has p t))
split_all_ready (p ∷ ps) t q (inr i) = split_all_ready ps (split p t) q i

put_case : (b : Bool) (x y z : Division) → (b ≡ true → x ≡ y) → cond b x z ≡ cond b y z
put_case true x y z f = f refl
put_case false x y z f = refl

-- an instrument's pieces put into a plot
pub value_put : (change : Division → Division) (ps : List (List Quarter)) (t : Plot) (c : List Quarter) → Disjoint ps → Ready ps t
    → Short ps (length c) → value_at (swapped (fresh change ps t) t) c ≡ cond (has ps c) (change (value_at t c)) (value_at t c)
value_put change ps t c d h s =
    let e = paths_fresh change ps t in
    value_swapped (fresh change ps t) t c (subst Disjoint (sym e) d) (subst (λ (z : List (List Quarter)). Ready z t) (sym e) h)
    (subst (λ (z : List (List Quarter)). Short z (length c)) (sym e) s)
    ∙ ap (λ (z : List (List Quarter)). cond (has z c) (held (fresh change ps t) c) (value_at t c)) e
    ∙ put_case (has ps c) (held (fresh change ps t) c) (change (value_at t c)) (value_at t c) (held_fresh change ps t c)

pub ready_next : (xs : List Piece) (x : Piece) (ys : List Piece) (t u : Plot) → xs ≡ x ∷ ys → u ≡ graft x.path x.plot t
    → Disjoint (paths xs) → Ready (paths xs) t → Disjoint (paths ys) × Ready (paths ys) u
ready_next xs x ys t u e f d h =
    let d2 = subst (λ (z : List Piece). Disjoint (paths z)) e d in
    let h2 = subst (λ (z : List Piece). Ready (paths z) t) e h in
    (d2.1, subst (λ (z : Plot). Ready (paths ys) z) (sym f) (ready_graft x.path x.plot t (paths ys) d2.0 (λ q i. h2 q (inr i))))

-- ---- making before splitting

append_self : (p r : List Quarter) → p ≡ p ++ r → r ≡ []
append_self [] r e = sym e
append_self (x ∷ p) r e = append_self p r (let k : p ≡ p ++ r = cc in k)

pub alone : (ps : List (List Quarter)) (p q : List Quarter) → Disjoint ps → In p ps → In q ps → (r : List Quarter) → q ≡ p ++ r → r ≡ []
alone [] p q d i j r e = absurd i
alone (x ∷ xs) p q d (inl i) (inl j) r e = append_self p r (i ∙ sym j ∙ e)
alone (x ∷ xs) p q d (inl i) (inr j) r e =
    let k : begins p q ≡ true = ap (λ (z : List Quarter). begins p z) e ∙ begins_append p r in
    let m : begins p q ≡ false = ap (λ (z : List Quarter). begins z q) i ∙ (d.0 q j).0 in
    absurd cc
alone (x ∷ xs) p q d (inr i) (inl j) r e =
    let k : begins p q ≡ true = ap (λ (z : List Quarter). begins p z) e ∙ begins_append p r in
    let m : begins p q ≡ false = ap (λ (z : List Quarter). begins p z) j ∙ (d.0 p i).1 in
    absurd cc
alone (x ∷ xs) p q d (inr i) (inr j) r e = alone xs p q d.1 i j r e

pub plot_at_split_all : (p : List Quarter) (qs : List (List Quarter)) (t : Plot)
    → ((q : List Quarter) → In q qs → (r : List Quarter) → q ≡ p ++ r → r ≡ []) → plot_at p (split_all qs t) ≡ plot_at p t
plot_at_split_all p [] t f = refl
plot_at_split_all p (q ∷ qs) t f = plot_at_split_all p qs (split q t) (λ x i. f x (inr i)) ∙ plot_at_split p q t (f q (inl refl))

pub fresh_same : (change : Division → Division) (ps : List (List Quarter)) (t u : Plot)
    → ((p : List Quarter) → In p ps → plot_at p t ≡ plot_at p u) → fresh change ps t ≡ fresh change ps u
fresh_same change [] t u f = refl
fresh_same change (p ∷ ps) t u f =
    rw (f p (inl refl), fresh_same change ps t u (λ q i. f q (inr i))) refl

pub fresh_split : (change : Division → Division) (ps : List (List Quarter)) (t : Plot) → Disjoint ps
    → fresh change ps (split_all ps t) ≡ fresh change ps t
fresh_split change ps t d = fresh_same change ps (split_all ps t) t (λ p i. plot_at_split_all p ps t (λ q j. alone ps p q d i j))

pub refines_split : {A E : Type 0} (r : Result A E) (p : List Quarter) (t u v : Plot) → u ≡ split p t → OnErr r (Refines u v)
    → OnErr r (Refines t v)
refines_split (Ok x) p t u v e h = h
refines_split (Err x) p t u v e h = record {
  content = λ c. h.content c ∙ ap (λ (z : Plot). value_at z c) e ∙ value_split p t c;
  paths = λ q k. h.paths q (ap (λ (z : Plot). has_path q z) e ∙ split_keeps p t q k);
}

-- what holds anyway holds after a refusal
pub on_err : {A E : Type 0} (r : Result A E) (P : Type 0) → P → OnErr r P
on_err (Ok x) P p = tt
on_err (Err x) P p = p

pub split_all_reaches : (ps : List (List Quarter)) (t : Plot) → Ready ps (split_all ps t) × Refines t (split_all ps t)
split_all_reaches ps t =
    (split_all_ready ps t, record { content = split_all_value ps t; paths = split_all_keeps ps t })
