-- Covers by squares.
use Rattle.std.proofs.Common.{◌≡◌, ℕ, zero, suc, ◌-◌, ◌<◌, ◌≤◌, Bool, true, false, List, [], ◌∷◌, ◌++◌, refl, ap, ◌∙◌, append_assoc, arith}
use Rattle.std.{proofs.Common.{map, ◌+◌, get_or, length, take, sym}, specs.List.{flat_map}}
use Rattle.std.proofs.lemmas.List.{append-nil, flat_map_more, map-append, take_all, take_more}
use Rattle.title_land.specs.{declared.rectangle.Quarter.{Quarter, TheVariants.{Northeast, Northwest, Southwest, Southeast}}, Grids.{fills}}
use Rattle.title_land.specs.{declared.{node.Node.{Node}, survey.Section.{Section}}, Nodes.{quarters, square}, Covers.{cover_below, node_at}}

pub cover_filled : (depth : ℕ) (has : ℕ → ℕ → Bool) (levels : ℕ) (path : List Quarter) → fills has (square depth path) ≡ true
    → cover_below depth has levels path ≡ path ∷ []
cover_filled depth has zero path e = rw e refl
cover_filled depth has (suc levels) path e = rw e refl

pub cover_cell : (depth : ℕ) (has : ℕ → ℕ → Bool) (levels : ℕ) (path : List Quarter) → fills has (square depth path) ≡ false → levels ≤ 0
    → cover_below depth has levels path ≡ []
cover_cell depth has zero path e l = rw e refl
cover_cell depth has (suc levels) path e l = absurd (omega arith)

pub cover_split : (depth : ℕ) (has : ℕ → ℕ → Bool) (levels : ℕ) (path : List Quarter) → fills has (square depth path) ≡ false → 0 < levels
    → cover_below depth has levels path ≡ cover_below depth has (levels - 1) (Northeast ∷ path)
    ++ cover_below depth has (levels - 1) (Northwest ∷ path) ++ cover_below depth has (levels - 1) (Southwest ∷ path)
    ++ cover_below depth has (levels - 1) (Southeast ∷ path)
cover_split depth has zero path e l = absurd (omega arith)
cover_split depth has (suc levels) path e l =
    let k : suc levels - 1 ≡ levels = omega arith in
    rw (e, k) refl

-- the nodes of a list of squares, those of its quarters one after another
map_flat : {X Y : Type 0} (f : X → Y) (g : Quarter → List X) (qs : List Quarter) → flat_map (λ q. map f (g q)) qs ≡ map f (flat_map g qs)
map_flat f g [] = refl
map_flat f g (q ∷ qs) = ap (λ ys. map f (g q) ++ ys) (map_flat f g qs) ∙ sym (map-append f (g q) (flat_map g qs))

-- one quarter's nodes more
pub cover_more : (f : Quarter → List Node) (qs : List Quarter) (i : ℕ) (d : Quarter) (old some new : List Node) → i < length qs
    → some ≡ old ++ flat_map f (take i qs) → new ≡ some ++ f (get_or qs i d) → new ≡ old ++ flat_map f (take (i + 1) qs)
cover_more f qs i d old some new l h e =
    e ∙ ap (λ ns. ns ++ f (get_or qs i d)) h ∙ flat_map_more f old (take i qs) (get_or qs i d)
    ∙ ap (λ xs. old ++ flat_map f xs) (sym (take_more qs i d l))

-- after the last quarter the square's are there
pub cover_done : (s : Section) (depth : ℕ) (has : ℕ → ℕ → Bool) (levels : ℕ) (path : List Quarter) (old new : List Node) (i : ℕ)
    → fills has (square depth path) ≡ false → 0 < levels → 4 ≤ i
    → new ≡ old ++ flat_map (λ q. map (node_at s) (cover_below depth has (levels - 1) (q ∷ path))) (take i quarters)
    → new ≡ old ++ map (node_at s) (cover_below depth has levels path)
cover_done s depth has levels path old new i f l h e =
    let below : Quarter → List (List Quarter) = λ q. cover_below depth has (levels - 1) (q ∷ path) in
    let all : flat_map below quarters ≡ cover_below depth has levels path =
    ap (λ ps. below Northeast ++ (below Northwest ++ (below Southwest ++ ps))) (append-nil (below Southeast))
    ∙ sym (append_assoc (below Northeast) (below Northwest) (below Southwest ++ below Southeast))
    ∙ sym (append_assoc (below Northeast ++ below Northwest) (below Southwest) (below Southeast))
    ∙ sym (cover_split depth has levels path f l) in
    e ∙ ap (λ qs. old ++ flat_map (λ q. map (node_at s) (below q)) qs) (take_all i quarters h)
    ∙ ap (λ ns. old ++ ns) (map_flat (node_at s) below quarters)
    ∙ ap (λ ps. old ++ map (node_at s) ps) all
