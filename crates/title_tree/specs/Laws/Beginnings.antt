-- Paths that begin others.
use Rattle.std.proofs.{Common.{◌≡◌, true, false, List, [], ◌∷◌, ◌++◌, refl, sym, ap, ◌∙◌, length, arith}, lemmas.Bool.{and_from, and_parts}}
use Rattle.std.proofs.{lemmas.List.{append-nil}, Common.{◌&&◌}}
use Rattle.title_land.specs.{declared.rectangle.Quarter.{Quarter}, Laws.SameNode.{same_quarter-is, same_quarter-self}}
use Rattle.title_land.specs.Nodes.{same_quarter}
use Rattle.title_tree.specs.Paths.{begins, rest}

pub begins_append : (p r : List Quarter) → begins p (p ++ r) ≡ true
begins_append [] r = refl
begins_append (q ∷ p) r = and_from _ _ (same_quarter-self q) (begins_append p r)

-- of two paths that begin a third one begins the other
pub begins_both : (p q c : List Quarter) → begins p c ≡ true → begins q c ≡ true → begins p q ≡ false → begins q p ≡ false → ⊥
begins_both [] q c h k f g = cc
begins_both (a ∷ p) [] c h k f g = cc
begins_both (a ∷ p) (b ∷ q) [] h k f g = cc
begins_both (a ∷ p) (b ∷ q) (x ∷ c) h k f g =
    let hs = and_parts _ _ h in
    let ks = and_parts _ _ k in
    let e : a ≡ b = same_quarter-is a x hs.0 ∙ sym (same_quarter-is b x ks.0) in
    let ab = ap (λ (z : Quarter). same_quarter a z) (sym e) ∙ same_quarter-self a in
    let ba = ap (λ (z : Quarter). same_quarter b z) e ∙ same_quarter-self b in
    begins_both p q c hs.1 ks.1 (rw ab at f) (rw ba at g)

-- a path that another begins is that and its rest
pub begins_is : (p c : List Quarter) → begins p c ≡ true → c ≡ p ++ rest p c
begins_is [] c h = refl
begins_is (q ∷ p) [] h = absurd cc
begins_is (q ∷ p) (x ∷ c) h =
    let k = and_parts _ _ h in
    ap (λ (z : Quarter). z ∷ c) (sym (same_quarter-is q x k.0)) ∙ ap (λ (z : List Quarter). q ∷ z) (begins_is p c k.1)

pub rest_append : (p c : List Quarter) → rest p (p ++ c) ≡ c
rest_append [] c = refl
rest_append (q ∷ p) c = rest_append p c

-- what begins below a common path begins
pub begins_under : (a p c : List Quarter) → begins (a ++ p) (a ++ c) ≡ begins p c
begins_under [] p c = refl
begins_under (q ∷ a) p c = λ i. same_quarter-self q i && begins_under a p c i

-- paths as long as each other, of which one begins what the other goes on to, are one
pub begins_parts : (a b p c : List Quarter) → length a ≡ length b → begins (a ++ p) (b ++ c) ≡ true → (a ≡ b) × (begins p c ≡ true)
begins_parts [] [] p c l h = (refl, h)
begins_parts [] (y ∷ b) p c l h = absurd cc
begins_parts (x ∷ a) [] p c l h = absurd cc
begins_parts (x ∷ a) (y ∷ b) p c l h =
    let k = and_parts (same_quarter x y) (begins (a ++ p) (b ++ c)) h in
    let short : length a ≡ length b = omega (arith, l) in
    let m = begins_parts a b p c short k.1 in
    (ap (λ (z : Quarter). z ∷ a) (same_quarter-is x y k.0) ∙ ap (λ (z : List Quarter). y ∷ z) m.0, m.1)

-- a path begins what is as long only where they are one
pub begins_whole : (a b : List Quarter) → length a ≡ length b → begins a b ≡ true → a ≡ b
begins_whole a b l h = (begins_parts a b [] [] l (simp append-nil h)).0

pub begins_on : (p c r : List Quarter) → begins p c ≡ true → begins p (c ++ r) ≡ true
begins_on [] c r h = refl
begins_on (q ∷ p) [] r h = absurd cc
begins_on (q ∷ p) (x ∷ c) r h =
    let k = and_parts (same_quarter q x) (begins p c) h in
    and_from (same_quarter q x) (begins p (c ++ r)) k.0 (begins_on p c r k.1)

pub begins_self : (p : List Quarter) → begins p p ≡ true
begins_self p = sym (ap (begins p) (append-nil p)) ∙ begins_append p []
