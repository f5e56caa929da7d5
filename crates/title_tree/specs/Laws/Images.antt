-- What keeps the nodes of images that are out stays.
use Rattle.std.proofs.Common.{◌≡◌, ◌≢◌, ℕ, zero, suc, ◌<◌, true, false, cond, ◌⊎◌, List, [], ◌∷◌, ◌++◌, length}
use Rattle.std.proofs.Common.{refl, sym, ap, subst, ◌∙◌, arith, inl, inr}
use Rattle.title_share.specs.Division.{Division}
use Rattle.title_land.specs.{declared.rectangle.Quarter.{Quarter}, Laws.Members.{In, in_last}}
use Rattle.title_tree.specs.{Paths.{begins}, Plots.{Plot, value_at, has_path}, Lendings.{Lending, Keeps, LaterClear}}
use Rattle.title_tree.specs.Pieces.{Piece, paths, has, held, swapped, taken, split_all, fresh, Disjoint, Ready, Short, Reaches, Refines}
use Rattle.title_tree.specs.Laws.{Beginnings.{begins_append}, Swaps.{fresh_split, value_put, held_taken, paths_taken, paths_fresh}}
use Rattle.title_tree.specs.Laws.Swaps.{reaches_swapped, reaches_taken, reaches_fresh, split_all_keeps, split_all_ready, split_all_value}

pub keeps_refined : (t u : Plot) (out : List Lending) (n : ℕ) → Refines t u → Keeps t out n → Keeps u out n
keeps_refined t u out n r h = record {
  ready = λ x i p j. r.paths p (h.ready x i p j);
  apart = h.apart;
  below = h.below;
  reaches = h.reaches;
}

-- fewer images
pub keeps_less : (t : Plot) (out less : List Lending) (n : ℕ) → ((x : Lending) → In x less → In x out) → Keeps t out n → Keeps t less n
keeps_less t out less n f h = record {
  ready = λ x i. h.ready x (f x i);
  apart = λ x i. h.apart x (f x i);
  below = λ x i. h.below x (f x i);
  reaches = λ x y i j. h.reaches x y (f x i) (f y j);
}

apart_two : (a b : ℕ) → a ≢ b → (a < b) ⊎ (b < a)
apart_two zero zero d = absurd (d refl)
apart_two zero (suc b) d = inl (omega arith)
apart_two (suc a) zero d = inr (omega arith)
apart_two (suc a) (suc b) d =
    elim (apart_two a b (λ e. d (ap (λ (n : ℕ). suc n) e))) [ inl e ↦ inl (omega (arith, e)) | inr e ↦ inr (omega (arith, e)) ]

in_path : (y : Piece) (ys : List Piece) → In y ys → In y.path (paths ys)
in_path y [] i = absurd i
in_path y (x ∷ xs) (inl e) = inl (ap (λ (z : Piece). z.path) e)
in_path y (x ∷ xs) (inr i) = inr (in_path y xs i)

-- what goes back has the paths of the other images
goes_back : (t : Plot) (out : List Lending) (n : ℕ) (y : Lending) → In y out → LaterClear y out → Keeps t out n → (x : Lending)
    → In x out → x.number ≢ y.number → (p : List Quarter) → In p (paths x.pieces) → Reaches p y.pieces
goes_back t out n y i l h x j d p k =
    let split : (x.number < y.number) ⊎ (y.number < x.number) = apart_two x.number y.number d in
    elim split [
      | inl e ↦ h.reaches x y j i e p k
      | inr e ↦ λ z m r a. absurd (let b : begins z.path p ≡ true = ap (λ (w : List Quarter). begins z.path w) a
          ∙ begins_append z.path r in let c : begins z.path p ≡ false = l x j e z.path p (in_path z y.pieces m) k in cc)
    ]

-- an image goes back, where no later image that is out shares a cell with it
pub keeps_restored : (t : Plot) (out less : List Lending) (n : ℕ) (y : Lending) → In y out → LaterClear y out
    → ((x : Lending) → In x less → In x out × (x.number ≢ y.number)) → Keeps t out n → Keeps (swapped y.pieces t) less n
keeps_restored t out less n y i l f h = record {
  ready = λ x j p k. reaches_swapped p y.pieces t (goes_back t out n y i l h x (f x j).0 (f x j).1 p k) (h.ready x (f x j).0 p k);
  apart = λ x j. h.apart x (f x j).0;
  below = λ x j. h.below x (f x j).0;
  reaches = λ x z j k. h.reaches x z (f x j).0 (f z k).0;
}

-- a new image is out
pub keeps_more : (t : Plot) (out : List Lending) (n : ℕ) (y : Lending) → y.number ≡ n → Ready (paths y.pieces) t
    → Disjoint (paths y.pieces) → ((x : Lending) → In x out → (q : List Quarter) → In q (paths x.pieces) → Reaches q y.pieces)
    → Keeps t out n → Keeps t (out ++ y ∷ []) (suc n)
keeps_more t out n y e r d f h = record {
  ready = λ x i. elim (in_last x y out i) [ inl j ↦ h.ready x j | inr k ↦ subst (λ (z : Lending). Ready (paths z.pieces) t) (sym k) r ];
  apart = λ x i. elim (in_last x y out i) [ inl j ↦ h.apart x j | inr k ↦ subst (λ (z : Lending). Disjoint (paths z.pieces)) (sym k) d ];
  below = λ x i. elim (in_last x y out i) [
    | inl j ↦ omega (arith, h.below x j)
    | inr k ↦ omega
        (arith, e, ap (λ (z : Lending). z.number) k)
  ];
  reaches = λ x z i j. elim (in_last x y out i) [
    | inl a ↦ elim (in_last z y out j) [
      | inl b ↦ h.reaches x z a b
      | inr b ↦ λ l q k. subst (λ (w : Lending). Reaches q w.pieces) (sym b) (f x a q k)
    ]
    | inr a ↦ elim (in_last z y out j) [
      | inl b ↦ λ l q k. absurd (omega (arith, e, h.below z b, ap (λ (w : Lending). w.number) a, l))
      | inr b ↦ λ l q k. absurd (omega (arith, ap (λ (w : Lending). w.number) a, ap (λ (w : Lending). w.number) b, l))
    ]
  ];
}

-- a put: split, then the new pieces change places with what stood there, which is the image
pub keeps_put : (change : Division → Division) (ps : List (List Quarter)) (t : Plot) (out : List Lending) (n : ℕ) → Disjoint ps
    → Keeps t out n → Keeps (swapped (fresh change ps (split_all ps t)) (split_all ps t))
    (out ++ record { number = n; pieces = taken (fresh change ps (split_all ps t)) (split_all ps t) } ∷ []) (suc n)
keeps_put change ps t out n d h =
    let u = split_all ps t in
    let xs = fresh change ps u in
    let same : paths (taken xs u) ≡ ps = paths_taken xs u ∙ paths_fresh change ps u in
    let stays : (q : List Quarter) → has_path q u ≡ true → has_path q (swapped xs u) ≡ true =
    λ q k. reaches_swapped q xs u (reaches_fresh q change ps u k) k in
    keeps_more (swapped xs u) out n (record { number = n; pieces = taken xs u }) refl
    (λ p i. stays p (split_all_ready ps t p (subst (λ (z : List (List Quarter)). In p z) same i)))
    (subst Disjoint (sym same) d)
    (λ x i q k. let there : has_path q u ≡ true = split_all_keeps ps t q (h.ready x i q k) in
    reaches_taken q xs u (reaches_fresh q change ps u there) there)
    (record {
      ready = λ x i q k. stays q (split_all_keeps ps t q (h.ready x i q k));
      apart = h.apart;
      below = h.below;
      reaches = h.reaches;
    })

-- the pieces that a put makes are ready once the plot is quartered
pub put_ready : (change : Division → Division) (ps : List (List Quarter)) (t u : Plot) (xs : List Piece) → Disjoint ps
    → xs ≡ fresh change ps t → u ≡ split_all ps t → Disjoint (paths xs) × Ready (paths xs) u
put_ready change ps t u xs d e f =
    let same : paths xs ≡ ps = ap paths e ∙ paths_fresh change ps t in (
      subst Disjoint (sym same) d,
      λ p i. ap (λ (z : Plot). has_path p z) f
          ∙ split_all_ready ps t p (subst (λ (z : List (List Quarter)). In p z) same i),
    )

pub put_keeps : (change : Division → Division) (ps : List (List Quarter)) (t u v : Plot) (xs ys : List Piece) (out : List Lending)
    (n : ℕ) → Disjoint ps → xs ≡ fresh change ps t → u ≡ split_all ps t → v ≡ swapped xs u → ys ≡ taken xs u → Keeps t out n
    → Keeps v (out ++ record { number = n; pieces = ys } ∷ []) (suc n)
put_keeps change ps t u v xs ys out n d e f g k h =
    let same : xs ≡ fresh change ps (split_all ps t) = e ∙ sym (fresh_split change ps t d) in
    let v_is : v ≡ swapped (fresh change ps (split_all ps t)) (split_all ps t) = g ∙ ap (λ (z : List Piece). swapped z u) same
    ∙ ap (λ (z : Plot). swapped (fresh change ps (split_all ps t)) z) f in
    let y_is : ys ≡ taken (fresh change ps (split_all ps t)) (split_all ps t) = k ∙ ap (λ (z : List Piece). taken z u) same
    ∙ ap (λ (z : Plot). taken (fresh change ps (split_all ps t)) z) f in
    rw (v_is, y_is) (keeps_put change ps t out n d h)

-- what a put leaves: the clauses of its content
pub put_content : (change : Division → Division) (ps : List (List Quarter)) (t : Plot) (c : List Quarter) → Disjoint ps
    → Short ps (length c) → value_at (swapped (fresh change ps t) (split_all ps t)) c ≡ cond (has ps c) (change (value_at t c))
    (value_at t c)
put_content change ps t c d s =
    let u = split_all ps t in
    ap (λ (z : List Piece). value_at (swapped z u) c) (sym (fresh_split change ps t d))
    ∙ value_put change ps u c d (split_all_ready ps t) s
    ∙ ap (λ (v : Division). cond (has ps c) (change v) v) (split_all_value ps t c)

pub put_held : (change : Division → Division) (ps : List (List Quarter)) (t : Plot) (c : List Quarter) → Disjoint ps
    → Short ps (length c) → has ps c ≡ true → held (taken (fresh change ps t) (split_all ps t)) c ≡ value_at t c
put_held change ps t c d s i =
    let u = split_all ps t in
    let e = paths_fresh change ps t in
    held_taken (fresh change ps t) u c (subst Disjoint (sym e) d)
    (subst (λ (z : List (List Quarter)). Ready z u) (sym e) (split_all_ready ps t))
    (subst (λ (z : List (List Quarter)). Short z (length c)) (sym e) s) (ap (λ (z : List (List Quarter)). has z c) e ∙ i)
    ∙ split_all_value ps t c

-- the law of a put
pub after_put : (change : Division → Division) (ps : List (List Quarter)) (t : Plot) (out : List Lending) (n : ℕ) → Disjoint ps
    → Keeps t out n
    → Keeps (swapped (fresh change ps t) (split_all ps t))
    (out ++ record { number = n; pieces = taken (fresh change ps t) (split_all ps t) } ∷ []) (suc n)
after_put change ps t out n d h =
    put_keeps change ps t (split_all ps t) (swapped (fresh change ps t) (split_all ps t)) (fresh change ps t)
    (taken (fresh change ps t) (split_all ps t)) out n d refl refl refl refl h

pub keeps_none : (t : Plot) → Keeps t [] 0
keeps_none t = record {
  ready = λ x i. absurd i;
  apart = λ x i. absurd i;
  below = λ x i. absurd i;
  reaches = λ x y i. absurd i;
}
