-- Plots after grafts, splits and changes.
use Rattle.std.proofs.Common.{◌≡◌, ◌≤◌, true, cond, List, [], ◌∷◌, ◌++◌, length, refl, ap, ◌∙◌, arith}
use Rattle.title_share.specs.Division.{Division}
use Rattle.title_land.specs.declared.rectangle.Quarter.{Quarter, TheVariants.{Northeast, Northwest, Southwest, Southeast}}
use Rattle.title_tree.specs.{Plots.{Plot, Same, Four, value_at, has_path, plot_at, graft, split, changed}, Paths.{begins, rest}}

pub value_graft : (p : List Quarter) (n t : Plot) (c : List Quarter) → has_path p t ≡ true → length p ≤ length c
    → value_at (graft p n t) c ≡ cond (begins p c) (value_at n (rest p c)) (value_at t c)
value_graft [] n t c h l = refl
value_graft (q ∷ p) n (Same held) c h l = absurd cc
value_graft (q ∷ p) n (Four a b c d) [] h l = absurd (omega arith)
value_graft (Northeast ∷ p) n (Four a b c d) (Northeast ∷ x) h l = value_graft p n a x h (omega arith)
value_graft (Northeast ∷ p) n (Four a b c d) (y ∷ x) h l = refl
value_graft (Northwest ∷ p) n (Four a b c d) (Northwest ∷ x) h l = value_graft p n b x h (omega arith)
value_graft (Northwest ∷ p) n (Four a b c d) (y ∷ x) h l = refl
value_graft (Southwest ∷ p) n (Four a b c d) (Southwest ∷ x) h l = value_graft p n c x h (omega arith)
value_graft (Southwest ∷ p) n (Four a b c d) (y ∷ x) h l = refl
value_graft (Southeast ∷ p) n (Four a b c d) (Southeast ∷ x) h l = value_graft p n d x h (omega arith)
value_graft (Southeast ∷ p) n (Four a b c d) (y ∷ x) h l = refl

pub value_plot_at : (p : List Quarter) (t : Plot) (c : List Quarter) → begins p c ≡ true
    → value_at (plot_at p t) (rest p c) ≡ value_at t c
value_plot_at [] t c b = refl
value_plot_at (q ∷ p) (Same held) c b = refl
value_plot_at (q ∷ p) (Four a b c d) [] e = absurd cc
value_plot_at (Northeast ∷ p) (Four a b c d) (Northeast ∷ x) e = value_plot_at p a x e
value_plot_at (Northeast ∷ p) (Four a b c d) (y ∷ x) e = absurd cc
value_plot_at (Northwest ∷ p) (Four a b c d) (Northwest ∷ x) e = value_plot_at p b x e
value_plot_at (Northwest ∷ p) (Four a b c d) (y ∷ x) e = absurd cc
value_plot_at (Southwest ∷ p) (Four a b c d) (Southwest ∷ x) e = value_plot_at p c x e
value_plot_at (Southwest ∷ p) (Four a b c d) (y ∷ x) e = absurd cc
value_plot_at (Southeast ∷ p) (Four a b c d) (Southeast ∷ x) e = value_plot_at p d x e
value_plot_at (Southeast ∷ p) (Four a b c d) (y ∷ x) e = absurd cc

-- a path stays where what is grafted above it has it too
pub has_graft : (p : List Quarter) (n t : Plot) (q : List Quarter) → ((r : List Quarter) → q ≡ p ++ r → has_path r n ≡ true)
    → has_path q t ≡ true → has_path q (graft p n t) ≡ true
has_graft [] n t q f h = f q refl
has_graft (x ∷ p) n (Same held) q f h = h
has_graft (Northeast ∷ p) n (Four a b c d) [] f h = refl
has_graft (Northeast ∷ p) n (Four a b c d) (Northeast ∷ y) f h =
    has_graft p n a y (λ r e. f r (ap (λ (z : List Quarter). Northeast ∷ z) e)) h
has_graft (Northeast ∷ p) n (Four a b c d) (x ∷ y) f h = h
has_graft (Northwest ∷ p) n (Four a b c d) [] f h = refl
has_graft (Northwest ∷ p) n (Four a b c d) (Northwest ∷ y) f h =
    has_graft p n b y (λ r e. f r (ap (λ (z : List Quarter). Northwest ∷ z) e)) h
has_graft (Northwest ∷ p) n (Four a b c d) (x ∷ y) f h = h
has_graft (Southwest ∷ p) n (Four a b c d) [] f h = refl
has_graft (Southwest ∷ p) n (Four a b c d) (Southwest ∷ y) f h =
    has_graft p n c y (λ r e. f r (ap (λ (z : List Quarter). Southwest ∷ z) e)) h
has_graft (Southwest ∷ p) n (Four a b c d) (x ∷ y) f h = h
has_graft (Southeast ∷ p) n (Four a b c d) [] f h = refl
has_graft (Southeast ∷ p) n (Four a b c d) (Southeast ∷ y) f h =
    has_graft p n d y (λ r e. f r (ap (λ (z : List Quarter). Southeast ∷ z) e)) h
has_graft (Southeast ∷ p) n (Four a b c d) (x ∷ y) f h = h

pub has_below : (p : List Quarter) (t : Plot) (r : List Quarter) → has_path (p ++ r) t ≡ true → has_path r (plot_at p t) ≡ true
has_below [] t r h = h
has_below (q ∷ p) (Same held) r h = absurd cc
has_below (Northeast ∷ p) (Four a b c d) r h = has_below p a r h
has_below (Northwest ∷ p) (Four a b c d) r h = has_below p b r h
has_below (Southwest ∷ p) (Four a b c d) r h = has_below p c r h
has_below (Southeast ∷ p) (Four a b c d) r h = has_below p d r h

pub has_changed : (f : Division → Division) (t : Plot) (q : List Quarter) → has_path q (changed f t) ≡ has_path q t
has_changed f t [] = refl
has_changed f (Same held) (q ∷ p) = refl
has_changed f (Four a b c d) (Northeast ∷ p) = has_changed f a p
has_changed f (Four a b c d) (Northwest ∷ p) = has_changed f b p
has_changed f (Four a b c d) (Southwest ∷ p) = has_changed f c p
has_changed f (Four a b c d) (Southeast ∷ p) = has_changed f d p

pub value_changed : (f : Division → Division) (t : Plot) (c : List Quarter) → value_at (changed f t) c ≡ f (value_at t c)
value_changed f (Same held) c = refl
value_changed f (Four a b c d) [] = value_changed f a []
value_changed f (Four a b c d) (Northeast ∷ p) = value_changed f a p
value_changed f (Four a b c d) (Northwest ∷ p) = value_changed f b p
value_changed f (Four a b c d) (Southwest ∷ p) = value_changed f c p
value_changed f (Four a b c d) (Southeast ∷ p) = value_changed f d p

pub value_split : (p : List Quarter) (t : Plot) (c : List Quarter) → value_at (split p t) c ≡ value_at t c
value_split [] t c = refl
value_split (Northeast ∷ p) (Same held) [] = value_split p (Same held) []
value_split (Northeast ∷ p) (Same held) (Northeast ∷ x) = value_split p (Same held) x
value_split (Northeast ∷ p) (Same held) (Northwest ∷ x) = refl
value_split (Northeast ∷ p) (Same held) (Southwest ∷ x) = refl
value_split (Northeast ∷ p) (Same held) (Southeast ∷ x) = refl
value_split (Northeast ∷ p) (Four a b c d) [] = value_split p a []
value_split (Northeast ∷ p) (Four a b c d) (Northeast ∷ x) = value_split p a x
value_split (Northeast ∷ p) (Four a b c d) (y ∷ x) = refl
value_split (Northwest ∷ p) (Same held) [] = refl
value_split (Northwest ∷ p) (Same held) (Northwest ∷ x) = value_split p (Same held) x
value_split (Northwest ∷ p) (Same held) (Northeast ∷ x) = refl
value_split (Northwest ∷ p) (Same held) (Southwest ∷ x) = refl
value_split (Northwest ∷ p) (Same held) (Southeast ∷ x) = refl
value_split (Northwest ∷ p) (Four a b c d) [] = refl
value_split (Northwest ∷ p) (Four a b c d) (Northwest ∷ x) = value_split p b x
value_split (Northwest ∷ p) (Four a b c d) (y ∷ x) = refl
value_split (Southwest ∷ p) (Same held) [] = refl
value_split (Southwest ∷ p) (Same held) (Southwest ∷ x) = value_split p (Same held) x
value_split (Southwest ∷ p) (Same held) (Northeast ∷ x) = refl
value_split (Southwest ∷ p) (Same held) (Northwest ∷ x) = refl
value_split (Southwest ∷ p) (Same held) (Southeast ∷ x) = refl
value_split (Southwest ∷ p) (Four a b c d) [] = refl
value_split (Southwest ∷ p) (Four a b c d) (Southwest ∷ x) = value_split p c x
value_split (Southwest ∷ p) (Four a b c d) (y ∷ x) = refl
value_split (Southeast ∷ p) (Same held) [] = refl
value_split (Southeast ∷ p) (Same held) (Southeast ∷ x) = value_split p (Same held) x
value_split (Southeast ∷ p) (Same held) (Northeast ∷ x) = refl
value_split (Southeast ∷ p) (Same held) (Northwest ∷ x) = refl
value_split (Southeast ∷ p) (Same held) (Southwest ∷ x) = refl
value_split (Southeast ∷ p) (Four a b c d) [] = refl
value_split (Southeast ∷ p) (Four a b c d) (Southeast ∷ x) = value_split p d x
value_split (Southeast ∷ p) (Four a b c d) (y ∷ x) = refl

pub split_has : (p : List Quarter) (t : Plot) → has_path p (split p t) ≡ true
split_has [] t = refl
split_has (Northeast ∷ p) (Same held) = split_has p (Same held)
split_has (Northeast ∷ p) (Four a b c d) = split_has p a
split_has (Northwest ∷ p) (Same held) = split_has p (Same held)
split_has (Northwest ∷ p) (Four a b c d) = split_has p b
split_has (Southwest ∷ p) (Same held) = split_has p (Same held)
split_has (Southwest ∷ p) (Four a b c d) = split_has p c
split_has (Southeast ∷ p) (Same held) = split_has p (Same held)
split_has (Southeast ∷ p) (Four a b c d) = split_has p d

pub split_keeps : (p : List Quarter) (t : Plot) (q : List Quarter) → has_path q t ≡ true → has_path q (split p t) ≡ true
split_keeps [] t q h = h
split_keeps (x ∷ p) (Same held) (y ∷ q) h = absurd cc
split_keeps (Northeast ∷ p) t [] h = refl
split_keeps (Northeast ∷ p) (Four a b c d) (Northeast ∷ x) h = split_keeps p a x h
split_keeps (Northeast ∷ p) (Four a b c d) (y ∷ x) h = h
split_keeps (Northwest ∷ p) t [] h = refl
split_keeps (Northwest ∷ p) (Four a b c d) (Northwest ∷ x) h = split_keeps p b x h
split_keeps (Northwest ∷ p) (Four a b c d) (y ∷ x) h = h
split_keeps (Southwest ∷ p) t [] h = refl
split_keeps (Southwest ∷ p) (Four a b c d) (Southwest ∷ x) h = split_keeps p c x h
split_keeps (Southwest ∷ p) (Four a b c d) (y ∷ x) h = h
split_keeps (Southeast ∷ p) t [] h = refl
split_keeps (Southeast ∷ p) (Four a b c d) (Southeast ∷ x) h = split_keeps p d x h
split_keeps (Southeast ∷ p) (Four a b c d) (y ∷ x) h = h

pub plot_at_same : (p : List Quarter) (held : Division) → plot_at p (Same held) ≡ Same held
plot_at_same [] held = refl
plot_at_same (q ∷ p) held = refl

-- what stands at a path doesn't change by a split that doesn't go on below it
pub plot_at_split : (p q : List Quarter) (t : Plot) → ((r : List Quarter) → q ≡ p ++ r → r ≡ []) → plot_at p (split q t) ≡ plot_at p t
plot_at_split [] q t f = ap (λ (z : List Quarter). split z t) (f q refl)
plot_at_split (x ∷ p) [] t f = refl
plot_at_split (Northeast ∷ p) (Northeast ∷ y) (Same held) f =
    plot_at_split p y (Same held) (λ r e. f r (ap (λ (z : List Quarter). Northeast ∷ z) e)) ∙ plot_at_same p held
plot_at_split (Northeast ∷ p) (Northeast ∷ y) (Four a b c d) f =
    plot_at_split p y a (λ r e. f r (ap (λ (z : List Quarter). Northeast ∷ z) e))
plot_at_split (Northeast ∷ p) (Northwest ∷ y) (Same held) f = plot_at_same p held
plot_at_split (Northeast ∷ p) (Northwest ∷ y) (Four a b c d) f = refl
plot_at_split (Northeast ∷ p) (Southwest ∷ y) (Same held) f = plot_at_same p held
plot_at_split (Northeast ∷ p) (Southwest ∷ y) (Four a b c d) f = refl
plot_at_split (Northeast ∷ p) (Southeast ∷ y) (Same held) f = plot_at_same p held
plot_at_split (Northeast ∷ p) (Southeast ∷ y) (Four a b c d) f = refl
plot_at_split (Northwest ∷ p) (Northeast ∷ y) (Same held) f = plot_at_same p held
plot_at_split (Northwest ∷ p) (Northeast ∷ y) (Four a b c d) f = refl
plot_at_split (Northwest ∷ p) (Northwest ∷ y) (Same held) f =
    plot_at_split p y (Same held) (λ r e. f r (ap (λ (z : List Quarter). Northwest ∷ z) e)) ∙ plot_at_same p held
plot_at_split (Northwest ∷ p) (Northwest ∷ y) (Four a b c d) f =
    plot_at_split p y b (λ r e. f r (ap (λ (z : List Quarter). Northwest ∷ z) e))
plot_at_split (Northwest ∷ p) (Southwest ∷ y) (Same held) f = plot_at_same p held
plot_at_split (Northwest ∷ p) (Southwest ∷ y) (Four a b c d) f = refl
plot_at_split (Northwest ∷ p) (Southeast ∷ y) (Same held) f = plot_at_same p held
plot_at_split (Northwest ∷ p) (Southeast ∷ y) (Four a b c d) f = refl
plot_at_split (Southwest ∷ p) (Northeast ∷ y) (Same held) f = plot_at_same p held
plot_at_split (Southwest ∷ p) (Northeast ∷ y) (Four a b c d) f = refl
plot_at_split (Southwest ∷ p) (Northwest ∷ y) (Same held) f = plot_at_same p held
plot_at_split (Southwest ∷ p) (Northwest ∷ y) (Four a b c d) f = refl
plot_at_split (Southwest ∷ p) (Southwest ∷ y) (Same held) f =
    plot_at_split p y (Same held) (λ r e. f r (ap (λ (z : List Quarter). Southwest ∷ z) e)) ∙ plot_at_same p held
plot_at_split (Southwest ∷ p) (Southwest ∷ y) (Four a b c d) f =
    plot_at_split p y c (λ r e. f r (ap (λ (z : List Quarter). Southwest ∷ z) e))
plot_at_split (Southwest ∷ p) (Southeast ∷ y) (Same held) f = plot_at_same p held
plot_at_split (Southwest ∷ p) (Southeast ∷ y) (Four a b c d) f = refl
plot_at_split (Southeast ∷ p) (Northeast ∷ y) (Same held) f = plot_at_same p held
plot_at_split (Southeast ∷ p) (Northeast ∷ y) (Four a b c d) f = refl
plot_at_split (Southeast ∷ p) (Northwest ∷ y) (Same held) f = plot_at_same p held
plot_at_split (Southeast ∷ p) (Northwest ∷ y) (Four a b c d) f = refl
plot_at_split (Southeast ∷ p) (Southwest ∷ y) (Same held) f = plot_at_same p held
plot_at_split (Southeast ∷ p) (Southwest ∷ y) (Four a b c d) f = refl
plot_at_split (Southeast ∷ p) (Southeast ∷ y) (Same held) f =
    plot_at_split p y (Same held) (λ r e. f r (ap (λ (z : List Quarter). Southeast ∷ z) e)) ∙ plot_at_same p held
plot_at_split (Southeast ∷ p) (Southeast ∷ y) (Four a b c d) f =
    plot_at_split p y d (λ r e. f r (ap (λ (z : List Quarter). Southeast ∷ z) e))
