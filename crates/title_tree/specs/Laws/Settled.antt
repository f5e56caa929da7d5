-- Pieces that take their places one after another, each joined at once but where the next one goes too.
use Rattle.std.proofs.Common.{◌≡◌, ◌∙◌, ap, sym, subst, refl, Bool, true, false, ◌&&◌, ◌||◌, not, cond, inl, inr, List, [], ◌∷◌}
use Rattle.std.{proofs.Common.{Option, Some, None}, proofs.lemmas.Bool.{cases_Bool}}
use Rattle.title_share.specs.Division.{Division}
use Rattle.title_land.specs.declared.rectangle.Quarter.{Quarter, TheVariants.{Northeast, Northwest, Southwest, Southeast}}
use Rattle.title_land.specs.{Nodes.{same_quarter}, CoverSets.{path_before}, Laws.Members.{In}}
use Rattle.title_tree.specs.Plots.{Plot, Same, Four, has_path, graft, same_leaf, joined, tidied_at, tidied_all, tidied_until}
use Rattle.title_tree.specs.{Paths.{begins, rest_in}, Laws.{Swaps.{ready_graft}, Uniform.{three_all}}}
use Rattle.title_tree.specs.Pieces.{Piece, Disjoint, InOrder, Ready, first_path, paths, swapped}

-- where no other path leads all nodes are joined
pub until_none : (p : List Quarter) (t : Plot) → tidied_until None p t ≡ tidied_at p t
until_none [] t = refl
until_none (x ∷ p) (Same held) = refl
until_none (Northeast ∷ p) (Four a b c d) = ap (λ (z : Plot). joined (Four z b c d)) (until_none p a)
until_none (Northwest ∷ p) (Four a b c d) = ap (λ (z : Plot). joined (Four a z c d)) (until_none p b)
until_none (Southwest ∷ p) (Four a b c d) = ap (λ (z : Plot). joined (Four a b z d)) (until_none p c)
until_none (Southeast ∷ p) (Four a b c d) = ap (λ (z : Plot). joined (Four a b c z)) (until_none p d)

-- ---- joined before or after

tidied_leaf : (p : List Quarter) (held : Division) → tidied_at p (Same held) ≡ Same held
tidied_leaf [] held = refl
tidied_leaf (x ∷ p) held = refl

one_leaf : (x : Quarter) (p : List Quarter) (a b c d : Plot) → (same_leaf a b && same_leaf a c && same_leaf a d) ≡ true
    → tidied_at (x ∷ p) a ≡ tidied_at (x ∷ p) (Four a b c d)
one_leaf Northeast p (Same f) (Same g) (Same h) (Same i) e =
    sym (ap (λ (z : Plot). joined (Four z (Same g) (Same h) (Same i))) (tidied_leaf p f)
    ∙ ap (λ (z : Bool). cond z (Same f) (Four (Same f) (Same g) (Same h) (Same i))) e)
one_leaf Northwest p (Same f) (Same g) (Same h) (Same i) e =
    sym (ap (λ (z : Plot). joined (Four (Same f) z (Same h) (Same i))) (tidied_leaf p g)
    ∙ ap (λ (z : Bool). cond z (Same f) (Four (Same f) (Same g) (Same h) (Same i))) e)
one_leaf Southwest p (Same f) (Same g) (Same h) (Same i) e =
    sym (ap (λ (z : Plot). joined (Four (Same f) (Same g) z (Same i))) (tidied_leaf p h)
    ∙ ap (λ (z : Bool). cond z (Same f) (Four (Same f) (Same g) (Same h) (Same i))) e)
one_leaf Southeast p (Same f) (Same g) (Same h) (Same i) e =
    sym (ap (λ (z : Plot). joined (Four (Same f) (Same g) (Same h) z)) (tidied_leaf p i)
    ∙ ap (λ (z : Bool). cond z (Same f) (Four (Same f) (Same g) (Same h) (Same i))) e)
one_leaf x p (Same f) (Same g) (Same h) (Four j k l m) e =
    let no = three_all (same_leaf (Same f) (Same g)) (same_leaf (Same f) (Same h)) false e in absurd cc
one_leaf x p (Same f) (Same g) (Four j k l m) d e =
    let no = three_all (same_leaf (Same f) (Same g)) false (same_leaf (Same f) d) e in absurd cc
one_leaf x p (Same f) (Four j k l m) c d e = absurd cc
one_leaf x p (Four j k l m) b c d e = absurd cc

-- what is tidied below is the same whether it was joined above or not
joined_first : (x : Quarter) (p : List Quarter) (a b c d : Plot)
    → tidied_at (x ∷ p) (joined (Four a b c d)) ≡ tidied_at (x ∷ p) (Four a b c d)
joined_first x p a b c d = elim (cases_Bool (same_leaf a b && same_leaf a c && same_leaf a d)) [
  | inl e ↦ ap (λ (z : Bool). tidied_at (x ∷ p) (cond z a (Four a b c d))) e ∙ one_leaf x p a b c d e
  | inr e ↦ ap (λ (z : Bool). tidied_at (x ∷ p) (cond z a (Four a b c d))) e
]

-- what stays for the next path is joined when that one is tidied
tidied_next : (p o : List Quarter) (t : Plot) → begins p o ≡ false → begins o p ≡ false
    → tidied_at o (tidied_until (Some o) p t) ≡ tidied_at o (tidied_at p t)
tidied_next [] o t f g = absurd cc
tidied_next (x ∷ p) [] t f g = absurd cc
tidied_next (x ∷ p) (y ∷ o) (Same held) f g = refl
tidied_next (Northeast ∷ p) (Northeast ∷ o) (Four a b c d) f g =
    ap (λ (z : Plot). joined (Four z b c d)) (tidied_next p o a f g) ∙ sym (joined_first Northeast o (tidied_at p a) b c d)
tidied_next (Northeast ∷ p) (y ∷ o) (Four a b c d) f g =
    ap (λ (z : Plot). tidied_at (y ∷ o) (Four z b c d)) (until_none p a) ∙ sym (joined_first y o (tidied_at p a) b c d)
tidied_next (Northwest ∷ p) (Northwest ∷ o) (Four a b c d) f g =
    ap (λ (z : Plot). joined (Four a z c d)) (tidied_next p o b f g) ∙ sym (joined_first Northwest o a (tidied_at p b) c d)
tidied_next (Northwest ∷ p) (y ∷ o) (Four a b c d) f g =
    ap (λ (z : Plot). tidied_at (y ∷ o) (Four a z c d)) (until_none p b) ∙ sym (joined_first y o a (tidied_at p b) c d)
tidied_next (Southwest ∷ p) (Southwest ∷ o) (Four a b c d) f g =
    ap (λ (z : Plot). joined (Four a b z d)) (tidied_next p o c f g) ∙ sym (joined_first Southwest o a b (tidied_at p c) d)
tidied_next (Southwest ∷ p) (y ∷ o) (Four a b c d) f g =
    ap (λ (z : Plot). tidied_at (y ∷ o) (Four a b z d)) (until_none p c) ∙ sym (joined_first y o a b (tidied_at p c) d)
tidied_next (Southeast ∷ p) (Southeast ∷ o) (Four a b c d) f g =
    ap (λ (z : Plot). joined (Four a b c z)) (tidied_next p o d f g) ∙ sym (joined_first Southeast o a b c (tidied_at p d))
tidied_next (Southeast ∷ p) (y ∷ o) (Four a b c d) f g =
    ap (λ (z : Plot). tidied_at (y ∷ o) (Four a b c z)) (until_none p d) ∙ sym (joined_first y o a b c (tidied_at p d))

-- ---- what comes later

-- tidied at p, joined only where `other` doesn't lead, a plot keeps every node of q
abbrev misses : List Quarter → Option (List Quarter) → List Quarter → Bool
misses [] other q = false
misses (x ∷ p) None q = false
misses (x ∷ p) (Some o) [] = false
misses (x ∷ p) (Some o) (y ∷ q) = not (same_quarter x y) || misses p (rest_in x (Some o)) q

graft_later : (p : List Quarter) (other : Option (List Quarter)) (q : List Quarter) (new t : Plot) → misses p other q ≡ true
    → graft q new (tidied_until other p t) ≡ tidied_until other p (graft q new t)
graft_later [] other q new t h = absurd cc
graft_later (x ∷ p) None q new t h = absurd cc
graft_later (x ∷ p) (Some o) [] new t h = absurd cc
graft_later (x ∷ p) (Some o) (y ∷ q) new (Same held) h = refl
graft_later (Northeast ∷ p) (Some o) (Northeast ∷ q) new (Four a b c d) h =
    ap (λ (z : Plot). Four z b c d) (graft_later p (rest_in Northeast (Some o)) q new a h)
graft_later (Northeast ∷ p) (Some o) (y ∷ q) new (Four a b c d) h = refl
graft_later (Northwest ∷ p) (Some o) (Northwest ∷ q) new (Four a b c d) h =
    ap (λ (z : Plot). Four a z c d) (graft_later p (rest_in Northwest (Some o)) q new b h)
graft_later (Northwest ∷ p) (Some o) (y ∷ q) new (Four a b c d) h = refl
graft_later (Southwest ∷ p) (Some o) (Southwest ∷ q) new (Four a b c d) h =
    ap (λ (z : Plot). Four a b z d) (graft_later p (rest_in Southwest (Some o)) q new c h)
graft_later (Southwest ∷ p) (Some o) (y ∷ q) new (Four a b c d) h = refl
graft_later (Southeast ∷ p) (Some o) (Southeast ∷ q) new (Four a b c d) h =
    ap (λ (z : Plot). Four a b c z) (graft_later p (rest_in Southeast (Some o)) q new d h)
graft_later (Southeast ∷ p) (Some o) (y ∷ q) new (Four a b c d) h = refl

has_later : (p : List Quarter) (other : Option (List Quarter)) (q : List Quarter) (t : Plot) → misses p other q ≡ true
    → has_path q (tidied_until other p t) ≡ has_path q t
has_later [] other q t h = absurd cc
has_later (x ∷ p) None q t h = absurd cc
has_later (x ∷ p) (Some o) [] t h = absurd cc
has_later (x ∷ p) (Some o) (y ∷ q) (Same held) h = refl
has_later (Northeast ∷ p) (Some o) (Northeast ∷ q) (Four a b c d) h = has_later p (rest_in Northeast (Some o)) q a h
has_later (Northeast ∷ p) (Some o) (y ∷ q) (Four a b c d) h = refl
has_later (Northwest ∷ p) (Some o) (Northwest ∷ q) (Four a b c d) h = has_later p (rest_in Northwest (Some o)) q b h
has_later (Northwest ∷ p) (Some o) (y ∷ q) (Four a b c d) h = refl
has_later (Southwest ∷ p) (Some o) (Southwest ∷ q) (Four a b c d) h = has_later p (rest_in Southwest (Some o)) q c h
has_later (Southwest ∷ p) (Some o) (y ∷ q) (Four a b c d) h = refl
has_later (Southeast ∷ p) (Some o) (Southeast ∷ q) (Four a b c d) h = has_later p (rest_in Southeast (Some o)) q d h
has_later (Southeast ∷ p) (Some o) (y ∷ q) (Four a b c d) h = refl

-- the next path, and those after it
next_missed : (p o : List Quarter) → begins p o ≡ false → begins o p ≡ false → misses p (Some o) o ≡ true
next_missed [] o f g = absurd cc
next_missed (x ∷ p) [] f g = absurd cc
next_missed (Northeast ∷ p) (Northeast ∷ o) f g = next_missed p o f g
next_missed (Northeast ∷ p) (y ∷ o) f g = refl
next_missed (Northwest ∷ p) (Northwest ∷ o) f g = next_missed p o f g
next_missed (Northwest ∷ p) (y ∷ o) f g = refl
next_missed (Southwest ∷ p) (Southwest ∷ o) f g = next_missed p o f g
next_missed (Southwest ∷ p) (y ∷ o) f g = refl
next_missed (Southeast ∷ p) (Southeast ∷ o) f g = next_missed p o f g
next_missed (Southeast ∷ p) (y ∷ o) f g = refl

later_missed : (p o q : List Quarter) → path_before p o ≡ true → path_before o q ≡ true → begins p o ≡ false → misses p (Some o) q ≡ true
later_missed [] o q f g h = absurd cc
later_missed (x ∷ p) [] q f g h = absurd cc
later_missed (x ∷ p) (y ∷ o) [] f g h = absurd cc
later_missed (Northeast ∷ p) (Northeast ∷ o) (Northeast ∷ q) f g h = later_missed p o q f g h
later_missed (Northeast ∷ p) (Northeast ∷ o) (z ∷ q) f g h = refl
later_missed (Northeast ∷ p) (y ∷ o) (Northeast ∷ q) f g h = absurd cc
later_missed (Northeast ∷ p) (y ∷ o) (z ∷ q) f g h = refl
later_missed (Northwest ∷ p) (Northwest ∷ o) (Northwest ∷ q) f g h = later_missed p o q f g h
later_missed (Northwest ∷ p) (Northwest ∷ o) (z ∷ q) f g h = refl
later_missed (Northwest ∷ p) (y ∷ o) (Northwest ∷ q) f g h = absurd cc
later_missed (Northwest ∷ p) (y ∷ o) (z ∷ q) f g h = refl
later_missed (Southwest ∷ p) (Southwest ∷ o) (Southwest ∷ q) f g h = later_missed p o q f g h
later_missed (Southwest ∷ p) (Southwest ∷ o) (z ∷ q) f g h = refl
later_missed (Southwest ∷ p) (y ∷ o) (Southwest ∷ q) f g h = absurd cc
later_missed (Southwest ∷ p) (y ∷ o) (z ∷ q) f g h = refl
later_missed (Southeast ∷ p) (Southeast ∷ o) (Southeast ∷ q) f g h = later_missed p o q f g h
later_missed (Southeast ∷ p) (Southeast ∷ o) (z ∷ q) f g h = refl
later_missed (Southeast ∷ p) (y ∷ o) (Southeast ∷ q) f g h = absurd cc
later_missed (Southeast ∷ p) (y ∷ o) (z ∷ q) f g h = refl

all_missed : (x y : Piece) (ys : List Piece) → Disjoint (paths (x ∷ y ∷ ys)) → InOrder (paths (x ∷ y ∷ ys)) → (q : List Quarter)
    → In q (paths (y ∷ ys)) → misses x.path (Some y.path) q ≡ true
all_missed x y ys d o q (inl e) =
    ap (misses x.path (Some y.path)) e ∙ next_missed x.path y.path (d.0 y.path (inl refl)).0 (d.0 y.path (inl refl)).1
all_missed x y ys d o q (inr i) =
    later_missed x.path y.path q (o.0 y.path (inl refl)) (o.1.0 q i) (d.0 y.path (inl refl)).0

swapped_later : (xs : List Piece) (p : List Quarter) (other : Option (List Quarter)) (t : Plot)
    → ((q : List Quarter) → In q (paths xs) → misses p other q ≡ true)
    → swapped xs (tidied_until other p t) ≡ tidied_until other p (swapped xs t)
swapped_later [] p other t f = refl
swapped_later (x ∷ xs) p other t f =
    ap (swapped xs) (graft_later p other x.path x.plot t (f x.path (inl refl)))
    ∙ swapped_later xs p other (graft x.path x.plot t) (λ q i. f q (inr i))

-- ---- the first piece, and then the others

-- one after another they are joined as if all had taken their places before
settled_all : (x : Piece) (xs : List Piece) (t : Plot) → Disjoint (paths (x ∷ xs)) → InOrder (paths (x ∷ xs))
    → tidied_all (paths xs) (swapped xs (tidied_until (first_path xs) x.path (graft x.path x.plot t)))
    ≡ tidied_all (paths (x ∷ xs)) (swapped (x ∷ xs) t)
settled_all x [] t d o = until_none x.path (graft x.path x.plot t)
settled_all x (y ∷ ys) t d o =
    ap (tidied_all (paths (y ∷ ys))) (swapped_later (y ∷ ys) x.path (Some y.path) (graft x.path x.plot t) (all_missed x y ys d o))
    ∙ ap (tidied_all (paths ys)) (tidied_next x.path y.path (swapped (x ∷ y ∷ ys) t) (d.0 y.path (inl refl)).0 (d.0 y.path (inl refl)).1)

-- the others may take their places then
ready_others : (x : Piece) (xs : List Piece) (t : Plot) → Disjoint (paths (x ∷ xs)) → InOrder (paths (x ∷ xs)) → Ready (paths (x ∷ xs)) t
    → Ready (paths xs) (tidied_until (first_path xs) x.path (graft x.path x.plot t))
ready_others x [] t d o h q i = absurd i
ready_others x (y ∷ ys) t d o h q i =
    has_later x.path (Some y.path) q (graft x.path x.plot t) (all_missed x y ys d o q i)
    ∙ ready_graft x.path x.plot t (paths (y ∷ ys)) d.0 (λ p j. h p (inr j)) q i

pub settled_then : (all : List Piece) (x : Piece) (xs : List Piece) (t u v : Plot) → all ≡ x ∷ xs
    → u ≡ tidied_until (first_path xs) x.path (graft x.path x.plot t) → v ≡ tidied_all (paths xs) (swapped xs u) → Disjoint (paths all)
    → InOrder (paths all) → v ≡ tidied_all (paths all) (swapped all t)
settled_then all x xs t u v e f g d o =
    g ∙ ap (λ (z : Plot). tidied_all (paths xs) (swapped xs z)) f
    ∙ settled_all x xs t (subst (λ (z : List Piece). Disjoint (paths z)) e d) (subst (λ (z : List Piece). InOrder (paths z)) e o)
    ∙ ap (λ (z : List Piece). tidied_all (paths z) (swapped z t)) (sym e)

pub settled_ready : (all : List Piece) (x : Piece) (xs : List Piece) (t u : Plot) → all ≡ x ∷ xs
    → u ≡ tidied_until (first_path xs) x.path (graft x.path x.plot t) → Disjoint (paths all) → Ready (paths all) t → InOrder (paths all)
    → Disjoint (paths xs) × (Ready (paths xs) u × InOrder (paths xs))
settled_ready all x xs t u e f d h o =
    let d2 = subst (λ (z : List Piece). Disjoint (paths z)) e d in
    let o2 = subst (λ (z : List Piece). InOrder (paths z)) e o in
    let h2 = subst (λ (z : List Piece). Ready (paths z) t) e h in
    (d2.1, (subst (λ (z : Plot). Ready (paths xs) z) (sym f) (ready_others x xs t d2 o2 h2), o2.1))
