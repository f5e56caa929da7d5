-- What a put leaves.
use Rattle.std.proofs.Common.{◌≡◌, ◌≢◌, ◌∙◌, ap, sym, refl, subst, ℕ, suc, ◌+◌, ◌-◌, ◌<◌, ◌≤◌, arith, Bool, true, false, cond, inl, inr}
use Rattle.std.proofs.{Common.{List, [], ◌∷◌, ◌++◌, length, map, Option, Some, None, Result, Ok, Err, is_some}, lemmas.List.{map_push}}
use Rattle.std.{proofs.lemmas.Bool.{and_parts, and_from, or_right, cond_both, eq-eqb}, specs.{Prelude.{◌==◌, ◌&&◌}, Global.{Vec}}}
use Rattle.title_share.specs.Division.{Division}
use Rattle.title_land.specs.{Depth.{depth}, declared.{survey.{Township.{Township}, Cell.{Cell}}, rectangle.Quarter.{Quarter}}}
use Rattle.title_land.specs.{declared.tract.Land.{Land}, Lands.{has, is_in_plant, is_plant_cell}, CellLists.{cells_of}}
use Rattle.title_land.specs.Laws.{CellMembers.{listed, listed_from, list_has_the_cells}, Members.{In, in_map}}
use Rattle.title_instrument.specs.declared.{parts.{Estate.{Estate, TheVariants.{S, O, M}}, Rule.{Rule}}, instrument.Instrument.{Instrument}}
use Rattle.title_instrument.specs.{declared.owners.Effect.{Effect, TheVariants.{Done, Refused}}, Owners.{opening_owners}, Estates.{names}}
use Rattle.title_instrument.specs.{Effect.{holding_effect, cell_effect, joined}, Laws.EffectLaws.{holding_unnamed}, Parties.{estates_of}}
use Rattle.title_store.specs.Plants.{Plant, Failing, IsEachOnce, is_cell_of, failing_or, first_failing, done_or, plant_effect, refused_in}
use Rattle.title_store.specs.{Plants.{Refusal, refusal_of}, Loans.{IsTaken}, Laws.RefusedPuts.{refused_by}}
use Rattle.title_tree.specs.{Changes.{why_of, new_or, after}, Plots.{Plot, value_at, plot_at, fits}, Lendings.{Lending, Keeps}}
use Rattle.title_tree.specs.Pieces.{Piece, Disjoint, Ready, Short, paths, held, swapped, taken, split_all, fresh, refusal_at}
use Rattle.title_tree.specs.Laws.{Swaps.{paths_taken, paths_fresh}, Refusals.{none_refuses_at, some_refuses_at}}
use Rattle.title_tree.specs.Laws.{CellSquares.{cell_ways_are_whole}, Images.{put_ready, put_keeps, put_content, put_held}}
use Rattle.title_tree.specs.Laws.Depths.{fits_plot_at, fits_changed, split_all_fits}
use Rattle.title_tree_store.specs.declared.{lent.Lent.{Lent}, forest.{Forest.{Forest}, Subtrees.{Subtrees}, Written.{Written}}}
use Rattle.title_tree_store.{specs.{Grounds.{Everywhere, parted_in, closable_in}, Keeping.{IsBacked, IsKept}}, proofs.Images.{rises_more}}
use Rattle.title_tree_store.specs.Spots.{index_of, ways_in, home_in, tract_ways, is_in_township, reaches}
use Rattle.title_tree_store.proofs.Steps.{named_or, not_reached}
use Rattle.title_tree_store.specs.Forests.{grounds, plots, parts_of, named_ways, wants, brings, is_some_part, AreAll, IsChange, HasNote}
use Rattle.title_tree_store.specs.Forests.{IsMade, IsQuartered, IsExchanged, IsSettled, refusal_in}
use Rattle.title_tree_store.specs.Keeping.{content_of, lending, lies_in, held_before, loan_of, loans_of, same_ways, is_whole, PiecesFit}
use Rattle.title_tree_store.proofs.CellPaths.{cell_at, tract_has, tract_has_at, tract_short, tract_apart, is_there, section_below}
use Rattle.title_tree_store.proofs.Keeps.{same_ways-self, kept_none, fits_swapped, some_township, wants_parts, in_township_below}
use Rattle.title_tree_store.{specs.Refusing.{why_cell, first_in, triple}, proofs.Contents.{at_cell, each, everywhere, now}}
use Rattle.title_tree_store.proofs.Contents.{owners, owners_same, cond_same, content_changes, in_township, in_section, in_square}
use Rattle.title_tree_store.proofs.{Images.{pushed}, Loans.{was, among_lent, loans_push}}
use Rattle.title_land.specs.declared.tract.Land.TheVariants as land
use Rattle.title_tree.specs.Pieces as pieces
use Rattle.title_tree_store.specs.Forests as forests

-- the steps of a put in each estate's tree: what was made, the tree quartered, the exchange, the image
pub record IsPut (i : Instrument ℕ) (ps : List (List Quarter)) (e : Estate) (t u v : Plot) (xs ys : List Piece) : Type 0 where
  pub made : IsChange i e ps t xs
  pub split : u ≡ split_all (named_ways i e ps) t
  pub exchanged : v ≡ swapped xs u
  pub image : ys ≡ taken xs u

-- what was made and the image have the paths of the estates that are named
pub put_paths : {i : Instrument ℕ} {ps : List (List Quarter)} {e : Estate} {t u v : Plot} {xs ys : List Piece} → IsPut i ps e t u v xs ys
    → (paths xs ≡ named_ways i e ps) × (paths ys ≡ named_ways i e ps)
put_paths {i} {ps} {e} {t} {u} {v} {xs} put =
    let made = ap paths put.made.1 ∙ paths_fresh (after (holding_effect i e)) (named_ways i e ps) t in
    (made, ap paths put.image ∙ paths_taken xs u ∙ made)

-- what a cell of the paths has changes as if each estate were named
named_value : (i : Instrument ℕ) (e : Estate) (ps : List (List Quarter)) (c : List Quarter) (v : Division)
    → cond (pieces.has (named_ways i e ps) c) (after (holding_effect i e) v) v ≡ cond (pieces.has ps c) (after (holding_effect i e) v) v
named_value i e ps c v =
    named_or (λ qs. cond (pieces.has qs c) (after (holding_effect i e) v) v ≡ cond (pieces.has ps c) (after (holding_effect i e) v) v)
    i e ps refl (λ none. cond_both (pieces.has ps c) (after (holding_effect i e) v) v (λ z. v ≡ z)
    (λ h. sym (ap (new_or v) (holding_unnamed i e v none))) (λ h. refl))

fresh_fit : (levels : ℕ) (change : Division → Division) (ps : List (List Quarter)) (t : Plot) → fits levels t ≡ true
    → PiecesFit levels (fresh change ps t)
fresh_fit levels change [] t h y i = absurd i
fresh_fit levels change (p ∷ ps) t h y i = elim i [
  | inl e ↦ subst (λ (z : Piece). (n : ℕ) → levels ≡ length z.path + n → fits n z.plot ≡ true) (sym e)
      (λ n m. fits_changed n change (plot_at p t) (fits_plot_at levels n p t m h))
  | inr j ↦ fresh_fit levels change ps t h y j
]

ok_from : (r : Result Division Rule) (held : Division) → why_of r ≡ None → r ≡ Ok (new_or held r)
ok_from (Ok new) held h = refl
ok_from (Err rule) held h = absurd cc

-- what a cell of the plant has
content_plant : (ts : List Township) (ps : Estate → ℕ → ℕ → Plot) (c : Cell) → is_plant_cell depth ts c ≡ true
    → content_of ts ps c ≡ owners (now ts ps c)
content_plant ts ps c plant = ap (λ (b : Bool). cond b (owners (now ts ps c)) opening_owners) plant

of_cells : (ts : List Township) (x : Land) (c : Cell) → In c (cells_of depth ts x) → is_cell_of depth ts x c ≡ true
of_cells ts x c i = sym (list_has_the_cells depth ts x c) ∙ listed_from (cells_of depth ts x) c i

-- in the section of a tract that is a part of one there are all of its paths
ways_there : (ts : List Township) (x : Land) (t : ℕ) → is_in_township (home_in ts x) t ≡ true
    → (j : ℕ) × (j < 36) × (ways_in ts x t j ≡ tract_ways x)
ways_there ts (land.Part s g) t h = (
  s.number - 1,
  section_below s,
  ap (λ (b : Bool). cond b (tract_ways (land.Part s g)) []) (and_from (index_of ts s.township == t) (s.number - 1 == s.number - 1) h
      (eq-eqb (s.number - 1) (s.number - 1) refl)),
)
ways_there ts _ t h = absurd cc

-- a put that is done: what was made of the estates that the instrument names, the forest quartered, and the exchange
pub record IsDone (ts : List Township) (x : Land) (i : Instrument ℕ) (old new : Forest) (trees : Subtrees) : Type 0 where
  pub made : Subtrees
  pub mid : Forest
  pub sized : (e : Estate) → length (grounds new e) ≡ length (grounds old e)
  pub put : (e : Estate) → Everywhere (length ts) (λ a b. IsPut i (ways_in ts x a b) e (plots old e a b) (plots mid e a b)
      (plots new e a b) (forests.pieces (home_in ts x) made e a b) (forests.pieces (home_in ts x) trees e a b))
  pub all : (e : Estate) → AreAll (length ts) (parts_of trees e)
  pub named : (e : Estate) → is_some_part (parts_of trees e) ≡ true → names (estates_of i) e ≡ true
  pub some : (e : Estate) (t : ℕ) → wants (home_in ts x) (parts_of trees e) t ≡ true → tract_ways x ≢ []
  pub parted : (e : Estate) (t : ℕ) → parted_in (grounds old e) t ≡ true → parted_in (grounds new e) t ≡ true
  pub wanted : (e : Estate) (t : ℕ) → wants (home_in ts x) (parts_of trees e) t ≡ true → parted_in (grounds new e) t ≡ true
  pub back : (e : Estate) (t : ℕ) → parted_in (grounds old e) t ≡ true → brings (home_in ts x) (parts_of trees e) t ≡ true
  pub noted : HasNote i (home_in ts x) (tract_ways x) old new
  pub closed : (e : Estate) (t : ℕ) → (names (estates_of i) e && reaches (home_in ts x) t) ≡ false
      → closable_in (grounds new e) t ≡ closable_in (grounds old e) t

-- what was made changes places with what stands in the quartered trees
pub done_from : {ts : List Township} {x : Land} {i : Instrument ℕ} {old mid new : Forest} {made trees : Subtrees}
    → ((e : Estate) → length (grounds old e) ≡ length ts) → IsMade i (home_in ts x) (tract_ways x) old mid made
    → IsQuartered i (home_in ts x) (tract_ways x) old mid → HasNote i (home_in ts x) (tract_ways x) old mid → new.written ≡ mid.written
    → ((e : Estate) → IsExchanged e (home_in ts x) made trees mid new) → IsDone ts x i old new trees
done_from {ts} {x} {i} {old} {mid} {new} {made} {trees} sized m q note noted swap = record {
  made = made;
  mid = mid;
  sized = λ e. (swap e).sized ∙ (each q.split e).sized;
  put = λ e a b k l. record {
    made = everywhere (sized e) (m.change e) a b k l;
    split = everywhere (sized e) (m.split e) a b k l;
    exchanged = everywhere ((each q.split e).sized ∙ sized e) (swap e).trees a b k l;
    image = everywhere ((each q.split e).sized ∙ sized e) (swap e).parts a b k l;
  };
  all = λ e. subst (λ (n : ℕ). AreAll n (parts_of trees e)) ((each q.split e).sized ∙ sized e) (swap e).all;
  named = λ e some. m.named e (sym (swap e).some ∙ some);
  some = λ e t w. m.some e t (sym ((swap e).wanted t) ∙ w);
  parted = λ e t p. (swap e).parted t ((each q.split e).kept t p) (m.brings e t p);
  wanted = λ e t w.
      let before = sym ((swap e).wanted t) ∙ w in
      (swap e).parted t (m.wanted e t before) (wants_parts (home_in ts x) (parts_of made e) t before).2;
  back = λ e t p. (swap e).back t ((each q.split e).kept t p);
  noted = record {
    last = note.last;
    pushed = ap (λ (ws : Vec Written). ws.items) noted ∙ note.pushed;
    home = note.home;
    ways = note.ways;
    estates = note.estates;
  };
  closed = λ e t h. (swap e).elsewhere t (not_reached (is_some_part (parts_of made e)) (names (estates_of i) e) (reaches (home_in ts x) t)
      (m.named e) h) ∙ (each q.split e).closed t h;
}

apart : (ts : List Township) (x : Land) (i : Instrument ℕ) (e : Estate) (a b : ℕ) → Disjoint (named_ways i e (ways_in ts x a b))
apart ts x i e a b = named_or Disjoint i e (ways_in ts x a b) (tract_apart ts x a b) (λ none. tt)

-- the parts that were made may change places with what stands in the quartered trees
pub put_goes : (ts : List Township) (x : Land) (i : Instrument ℕ) (e : Estate) (a b : ℕ) (t u : Plot) (xs : List Piece)
    → IsChange i e (ways_in ts x a b) t xs → u ≡ split_all (named_ways i e (ways_in ts x a b)) t → Disjoint (paths xs) × Ready (paths xs) u
put_goes ts x i e a b t u xs made split =
    put_ready (after (holding_effect i e)) (named_ways i e (ways_in ts x a b)) t u xs (apart ts x i e a b) made.1 split

pub made_goes : (ts : List Township) (x : Land) (i : Instrument ℕ) {old mid : Forest} {made : Subtrees}
    → ((e : Estate) → length (grounds old e) ≡ length ts) → IsMade i (home_in ts x) (tract_ways x) old mid made → (e : Estate)
    → Everywhere (length ts) (λ a b. Disjoint (paths (forests.pieces (home_in ts x) made e a b))
    × Ready (paths (forests.pieces (home_in ts x) made e a b)) (plots mid e a b))
made_goes ts x i sized m e a b k l =
    put_goes ts x i e a b _ _ _ (everywhere (sized e) (m.change e) a b k l) (everywhere (sized e) (m.split e) a b k l)

module _ {ts : List Township} {old : Forest} {lent : List Lent} {n : ℕ} (kept : IsKept ts old lent n) (x : Land) (i : Instrument ℕ)
    (of : is_in_plant ts x ≡ true) where
  -- the paths of an estate that is named, and its change
  abbrev ways : Estate → ℕ → ℕ → List (List Quarter)
  ways e a b = named_ways i e (ways_in ts x a b)

  abbrev change : Estate → Division → Division
  change e = after (holding_effect i e)

  short : (e : Estate) (a b : ℕ) → Short (ways e a b) depth
  short e a b = named_or (λ qs. Short qs depth) i e (ways_in ts x a b) (tract_short ts x a b) (λ none p j. absurd j)

  -- the images that are out have lower numbers
  below : (y : Lent) → In y lent → y.number < n
  below y m = (kept.keeps S 0 0 (some_township ts x of) (omega arith)).below (lending ts S 0 0 y) (in_map (lending ts S 0 0) y lent m)

  -- where no leaf refuses, and each cell of the paths has changed
  module _ (new : Estate → ℕ → ℕ → Plot)
      (none : (e : Estate) → Everywhere (length ts) (λ a b. refusal_in i e (ways_in ts x a b) (plots old e a b) ≡ None))
      (at : (e : Estate) → Everywhere (length ts) (λ a b. (p : List Quarter) → length p ≡ depth → value_at (new e a b) p
      ≡ cond (pieces.has (ways e a b) p) (change e (value_at (plots old e a b) p)) (value_at (plots old e a b) p))) where
    -- ---- no cell refuses

    cell_none : (c : Cell) → is_cell_of depth ts x c ≡ true → (e : Estate) → why_of (holding_effect i e (now ts (plots old) c e)) ≡ None
    cell_none c h e =
        let k = and_parts (has x c) (is_plant_cell depth ts c) h in
        let here = ways_in ts x (in_township ts c) (in_section c) in
        let there = plots old e (in_township ts c) (in_section c) in
        named_or (λ qs. refusal_at (holding_effect i e) qs there ≡ None → why_of (holding_effect i e (value_at there (in_square c))) ≡ None)
        i e here (λ g. none_refuses_at (holding_effect i e) here there g (in_square c) (tract_has ts x c of k.1 ∙ k.0))
        (λ none g. ap why_of (holding_unnamed i e (value_at there (in_square c)) none))
        (at_cell ts c (none e) k.1)

    cell_done : (c : Cell) → is_cell_of depth ts x c ≡ true → cell_effect i (content_of ts (plots old) c)
        ≡ Done (owners (λ e. change e (now ts (plots old) c e)))
    unfolding cell_effect
    cell_done c h =
        let ok = λ (e : Estate). ok_from (holding_effect i e (now ts (plots old) c e)) (now ts (plots old) c e) (cell_none c h e) in
        ap (cell_effect i) (content_plant ts (plots old) c (and_parts (has x c) (is_plant_cell depth ts c) h).1)
        ∙ (λ k. joined (ok S k) (ok O k) (ok M k))

    none_failing : (cells : List Cell) → ((c : Cell) → In c cells → is_cell_of depth ts x c ≡ true)
        → first_failing i (content_of ts (plots old)) cells ≡ None
    none_failing [] f = refl
    none_failing (c ∷ cells) f =
        ap (λ (y : Effect). failing_or c y (first_failing i (content_of ts (plots old)) cells)) (cell_done c (f c (inl refl)))
        ∙ none_failing cells (λ z j. f z (inr j))

    pub none_refuses : refused_in depth ts i (content_of ts (plots old)) x ≡ None
    unfolding refused_in
    none_refuses = ap (refusal_of depth x) (none_failing (cells_of depth ts x) (λ c j. of_cells ts x c j))

    -- the plant then
    pub shows : (c : Cell) → content_of ts new c ≡ plant_effect depth ts i (content_of ts (plots old)) x c
    unfolding plant_effect
    shows c = content_changes ts x (plots old) new (λ y e. change e (now ts (plots old) y e)) value c
        ∙ cond_same (is_cell_of depth ts x c) _ _ (content_of ts (plots old) c)
        (λ h. sym (ap (done_or (content_of ts (plots old) c)) (cell_done c h)))
        ∙ sym (ap (λ (o : Option _). cond (is_some o) (content_of ts (plots old) c)
        (cond (is_cell_of depth ts x c) (done_or (content_of ts (plots old) c) (cell_effect i (content_of ts (plots old) c)))
        (content_of ts (plots old) c))) none_refuses)
      where
        value : (y : Cell) → is_plant_cell depth ts y ≡ true → (e : Estate) → now ts new y e
            ≡ cond (has x y) (change e (now ts (plots old) y e)) (now ts (plots old) y e)
        value y plant e = at_cell ts y (at e) plant (in_square y) (cell_ways_are_whole depth y.row y.column)
            ∙ named_value i e (ways_in ts x (in_township ts y) (in_section y)) (in_square y) (now ts (plots old) y e)
            ∙ ap (λ (b : Bool). cond b (change e (now ts (plots old) y e)) (now ts (plots old) y e)) (tract_has ts x y of plant)

  -- a post alone, of which what was put in is joined at once
  module _ (new : Forest) (sized : (e : Estate) → length (grounds new e) ≡ length (grounds old e))
      (settled : (e : Estate) → Everywhere (length ts) (λ a b. IsSettled i e (ways_in ts x a b) (plots old e a b) (plots new e a b))) where
    settled_at : (e : Estate) → Everywhere (length ts) (λ a b. (p : List Quarter) → length p ≡ depth → value_at (plots new e a b) p
        ≡ cond (pieces.has (ways e a b) p) (change e (value_at (plots old e a b) p)) (value_at (plots old e a b) p))
    settled_at e a b c d p long = (settled e a b c d).tidied.content p
        ∙ put_content (change e) (ways e a b) (plots old e a b) p (apart ts x i e a b) (subst (Short (ways e a b)) (sym long) (short e a b))

    pub none_settled : refused_in depth ts i (content_of ts (plots old)) x ≡ None
    none_settled = none_refuses (plots new) (λ e a b c d. (settled e a b c d).none) settled_at

    pub settled_shows : (c : Cell) → content_of ts (plots new) c ≡ plant_effect depth ts i (content_of ts (plots old)) x c
    settled_shows = shows (plots new) (λ e a b c d. (settled e a b c d).none) settled_at

    pub kept_settled : lent ≡ [] → IsKept ts new lent n
    kept_settled none = subst (λ (z : List Lent). IsKept ts new z n) (sym none) (kept_none n (λ e. sized e ∙ kept.sized e)
        (λ e a b c d. (settled e a b c d).tidied.within depth (fits_swapped depth (fresh (change e) (ways e a b) (plots old e a b))
        (split_all (ways e a b) (plots old e a b))
        (subst (λ (z : List (List Quarter)). Short z depth) (sym (paths_fresh (change e) (ways e a b) (plots old e a b))) (short e a b))
        (fresh_fit depth (change e) (ways e a b) (plots old e a b) (kept.fit e a b c d))
        (split_all_fits (ways e a b) (plots old e a b) depth (short e a b) (kept.fit e a b c d))).0))

  module _ {new : Forest} {trees : Subtrees} (done : IsDone ts x i old new trees) where
    abbrev image : Lent
    image = record { number = n; land = x; trees = trees }

    -- ---- what is kept

    swapped_fit : (e : Estate) → Everywhere (length ts) (λ a b.
        (fits depth (swapped (forests.pieces (home_in ts x) done.made e a b) (plots done.mid e a b)) ≡ true)
        × PiecesFit depth (taken (forests.pieces (home_in ts x) done.made e a b) (plots done.mid e a b)))
    swapped_fit e a b c d =
        let p = done.put e a b c d in
        fits_swapped depth (forests.pieces (home_in ts x) done.made e a b) (plots done.mid e a b)
        (subst (λ (z : List (List Quarter)). Short z depth) (sym (put_paths p).0) (short e a b))
        (subst (PiecesFit depth) (sym p.made.1) (fresh_fit depth (change e) (ways e a b) (plots old e a b) (kept.fit e a b c d)))
        (ap (fits depth) p.split ∙ split_all_fits (ways e a b) (plots old e a b) depth (short e a b) (kept.fit e a b c d))

    some_piece : (e : Estate) (t : ℕ) → wants (home_in ts x) (parts_of trees e) t ≡ true
        → ((j : ℕ) → j < 36 → forests.pieces (home_in ts x) trees e t j ≡ []) → ⊥
    some_piece e t w none =
        let inside = (wants_parts (home_in ts x) (parts_of trees e) t w).1 in
        let there = in_township_below (length ts) (home_in ts x) t (is_there ts x of) inside in
        let at = ways_there ts x t inside in
        done.some e t w (sym at.2
        ∙ sym (ap (λ (b : Bool). cond b (ways_in ts x t at.0) []) (done.named e (wants_parts (home_in ts x) (parts_of trees e) t w).0))
        ∙ sym (put_paths (done.put e t at.0 there at.1)).1 ∙ ap paths (none at.0 at.1))

    image_backed : IsBacked ts image
    image_backed = record {
      within = of;
      all = done.all;
      at = λ e a b c d. ap (λ (z : List (List Quarter)). is_whole z (ways_in ts x a b)) ((put_paths (done.put e a b c d)).1)
          ∙ named_or (λ qs. is_whole qs (ways_in ts x a b) ≡ true) i e (ways_in ts x a b)
          (or_right (same_ways (ways_in ts x a b) []) (same_ways (ways_in ts x a b) (ways_in ts x a b))
          (same_ways-self (ways_in ts x a b))) (λ none. refl);
      fit = λ e a b c d. subst (PiecesFit depth) (sym (done.put e a b c d).image) (swapped_fit e a b c d).1;
      some = some_piece;
    }

    at_most : (y : Lent) → In y (lent ++ image ∷ []) → y.number ≤ n
    at_most = pushed (λ y. y.number ≤ n) lent image (λ y m. let l = below y m in omega (arith, l)) (omega arith)

    pub kept_put : IsKept ts new (lent ++ image ∷ []) (suc n)
    kept_put = record {
      sized = λ e. done.sized e ∙ kept.sized e;
      fit = λ e a b c d. ap (fits depth) (done.put e a b c d).exchanged ∙ (swapped_fit e a b c d).0;
      keeps = λ e a b c d.
          let p = done.put e a b c d in
          subst (λ (out : List Lending). Keeps (plots new e a b) out (suc n)) (sym (map_push (lending ts e a b) lent image))
          (put_keeps (change e) (ways e a b) (plots old e a b) (plots done.mid e a b) (plots new e a b)
          (forests.pieces (home_in ts x) done.made e a b) (forests.pieces (home_in ts x) trees e a b) (map (lending ts e a b) lent) n
          (apart ts x i e a b) p.made.1 p.split p.exchanged p.image (kept.keeps e a b c d));
      backed = pushed (IsBacked ts) lent image kept.backed image_backed;
      rises = rises_more lent image kept.rises below;
      wanted = λ e t. pushed (λ y. wants (home_in ts y.land) (parts_of y.trees e) t ≡ true → parted_in (grounds new e) t ≡ true) lent image
          (λ y m w. done.parted e t (kept.wanted e t y m w)) (done.wanted e t);
      brought = λ e t x z m o. pushed (λ y. y.number < z.number → wants (home_in ts y.land) (parts_of y.trees e) t ≡ true
          → brings (home_in ts z.land) (parts_of z.trees e) t ≡ true) lent image
          (λ y p less w. pushed (λ z. y.number < z.number → brings (home_in ts z.land) (parts_of z.trees e) t ≡ true) lent image
          (λ z q less. kept.brought e t y z p q less w) (λ less. done.back e t (kept.wanted e t y p w)) z o less)
          (λ less w. let f = at_most z o in absurd (omega (arith, f, less))) x m;
    }

    -- ---- what the cells have

    -- what a cell has after a put, by the paths of the estate
    put_at : (e : Estate) → Everywhere (length ts) (λ a b. (p : List Quarter) → length p ≡ depth → value_at (plots new e a b) p
        ≡ cond (pieces.has (ways e a b) p) (change e (value_at (plots old e a b) p)) (value_at (plots old e a b) p))
    put_at e a b c d p long =
        let k = done.put e a b c d in
        rw (k.exchanged, k.made.1, k.split) (put_content (change e) (ways e a b) (plots old e a b) p (apart ts x i e a b)
        (subst (Short (ways e a b)) (sym long) (short e a b)))

    pub refused_none : refused_in depth ts i (content_of ts (plots old)) x ≡ None
    refused_none = none_refuses (plots new) (λ e a b c d. (done.put e a b c d).made.0) put_at

    pub put_shows : (c : Cell) → content_of ts (plots new) c ≡ plant_effect depth ts i (content_of ts (plots old)) x c
    put_shows = shows (plots new) (λ e a b c d. (done.put e a b c d).made.0) put_at

    -- what a cell held before a put is what the image has of it, or what the cell still holds
    before_put : (e : Estate) → Everywhere (length ts) (λ a b. (p : List Quarter) → length p ≡ depth
        → held_before ts e (image ∷ []) a b p (value_at (plots new e a b) p) ≡ value_at (plots old e a b) p)
    before_put e a b c d p long = go (lies_in ts e image a b p) refl
      where
        k : IsPut i (ways_in ts x a b) e (plots old e a b) (plots done.mid e a b) (plots new e a b)
            (forests.pieces (home_in ts x) done.made e a b) (forests.pieces (home_in ts x) trees e a b)
        k = done.put e a b c d

        at : pieces.has (ways e a b) p ≡ lies_in ts e image a b p
        at = ap (λ (z : List (List Quarter)). pieces.has z p) (sym ((put_paths k).1))

        go : (y : Bool) → lies_in ts e image a b p ≡ y
            → cond y (held (forests.pieces (home_in ts x) trees e a b) p) (value_at (plots new e a b) p) ≡ value_at (plots old e a b) p
        go true h = rw (k.image, k.made.1, k.split) (put_held (change e) (ways e a b) (plots old e a b) p (apart ts x i e a b)
            (subst (Short (ways e a b)) (sym long) (short e a b)) (at ∙ h))
        go false h = put_at e a b c d p long
            ∙ ap (λ (y : Bool). cond y (change e (value_at (plots old e a b) p)) (value_at (plots old e a b) p)) (at ∙ h)

    -- the image of a put
    pub put_takes : IsTaken n ts x (content_of ts (plots old)) (loans_of ts (plots old) lent) (loans_of ts (plots new) (lent ++ image ∷ []))
    put_takes = record {
      held = (loan_of ts (plots new) image []).held;
      holds = λ c h.
          let plant = (and_parts (has x c) (is_plant_cell depth ts c) h).1 in
          ap (λ (b : Bool). cond b (owners (was ts (plots new) (image ∷ []) c)) opening_owners) h
          ∙ owners_same (was ts (plots new) (image ∷ []) c) (now ts (plots old) c) (λ e.
          at_cell ts c (before_put e) plant (in_square c) (cell_ways_are_whole depth c.row c.column))
          ∙ sym (content_plant ts (plots old) c plant);
      above = λ b j. let m = among_lent ts (plots old) lent b j in subst (λ (z : ℕ). z < n) (sym m.2) (below m.0 m.1);
      last = loans_push ts (plots old) (plots new) lent image before_put;
    }

-- ---- a put that is refused

first_same : (ts : List Township) (i : Instrument ℕ) (ps : Estate → ℕ → ℕ → Plot) (cells : List Cell)
    → ((c : Cell) → In c cells → is_plant_cell depth ts c ≡ true) → first_failing i (content_of ts ps) cells ≡ first_in ts ps i cells
first_same ts i ps [] f = refl
first_same ts i ps (c ∷ cells) f = λ k.
    failing_or c (cell_effect i (content_plant ts ps c (f c (inl refl)) k)) (first_same ts i ps cells (λ z j. f z (inr j)) k)

tract_first : (ts : List Township) (x : Land) (i : Instrument ℕ) (ps : Estate → ℕ → ℕ → Plot)
    → first_failing i (content_of ts ps) (cells_of depth ts x) ≡ first_in ts ps i (cells_of depth ts x)
tract_first ts x i ps =
    first_same ts i ps (cells_of depth ts x) (λ z j. (and_parts (has x z) (is_plant_cell depth ts z) (of_cells ts x z j)).1)

unrefused : (x : Land) (o : Option Failing) → refusal_of depth x o ≡ None → o ≡ None
unrefused x None h = refl
unrefused x (Some f) h = absurd cc

triple_some : (o : Option Failing) (rule : Rule) (e : Estate) (c : Cell) → Some (rule, e, c) ≡ triple o
    → o ≡ Some (record { rule = rule; estate = e; cell = c })
triple_some None rule e c h = absurd cc
triple_some (Some f) rule e c h =
    let same : (rule, e, c) ≡ (f.rule, f.estate, f.cell) = cc in
    ap (λ (z : Rule × Estate × Cell). Some (record { rule = z.0; estate = z.1; cell = z.2 })) (sym same)

triple_none : (o : Option Failing) → None ≡ triple o → o ≡ None
triple_none None h = refl
triple_none (Some f) h = absurd cc

-- the first failing cell of a tract, as it was found
pub found_failing : (ts : List Township) (x : Land) (i : Instrument ℕ) (ps : Estate → ℕ → ℕ → Plot) (rule : Rule) (e : Estate) (c : Cell)
    → Some (rule, e, c) ≡ triple (first_in ts ps i (cells_of depth ts x))
    → first_failing i (content_of ts ps) (cells_of depth ts x) ≡ Some (record { rule = rule; estate = e; cell = c })
found_failing ts x i ps rule e c h = tract_first ts x i ps ∙ triple_some _ rule e c h

-- where no cell fails none refuses
none_fails : (z : Cell) (e : Effect) (later : Option Failing) → failing_or z e later ≡ None → (why_cell e ≡ None) × (later ≡ None)
none_fails z (Done w) later h = (refl, h)
none_fails z (Refused rule s) later h = absurd cc

each_done : (i : Instrument ℕ) (p : Plant) (c : Cell) (cells : List Cell) → first_failing i p cells ≡ None → In c cells
    → why_cell (cell_effect i (p c)) ≡ None
each_done i p c [] h j = absurd j
each_done i p c (z ∷ cells) h j =
    let k = none_fails z (cell_effect i (p z)) (first_failing i p cells) h in
    elim j [ inl e ↦ ap (λ (y : Cell). why_cell (cell_effect i (p y))) e ∙ k.0 | inr m ↦ each_done i p c cells k.1 m ]

whys : (s o m : Result Division Rule) → why_cell (joined s o m) ≡ None → (why_of s ≡ None) × (why_of o ≡ None) × (why_of m ≡ None)
whys (Ok s) (Ok o) (Ok m) h = (refl, refl, refl)
whys (Err r) o m h = absurd cc
whys (Ok s) (Err r) m h = absurd cc
whys (Ok s) (Ok o) (Err r) h = absurd cc

why_at : (i : Instrument ℕ) (w : Estate → Division) → why_cell (cell_effect i (owners w)) ≡ None → (e : Estate)
    → why_of (holding_effect i e (w e)) ≡ None
unfolding cell_effect
why_at i w h S = (whys _ _ _ h).0
why_at i w h O = (whys _ _ _ h).1
why_at i w h M = (whys _ _ _ h).2

-- where a leaf refuses, a cell does
pub some_cell_fails : {ts : List Township} {f : Forest} {lent : List Lent} {n : ℕ} → IsKept ts f lent n → IsEachOnce ts → (x : Land)
    (i : Instrument ℕ) → is_in_plant ts x ≡ true → (e : Estate) (rule : Rule) (a b : ℕ) → a < length ts → b < 36
    → refusal_at (holding_effect i e) (named_ways i e (ways_in ts x a b)) (plots f e a b) ≡ Some rule
    → None ≡ triple (first_in ts (plots f) i (cells_of depth ts x)) → ⊥
some_cell_fails {ts} {f} kept once x i of e rule a b l m refusal none =
    let named = named_or (λ qs. refusal_at (holding_effect i e) qs (plots f e a b) ≡ Some rule
    → refusal_at (holding_effect i e) (ways_in ts x a b) (plots f e a b) ≡ Some rule) i e (ways_in ts x a b) (λ h. h)
    (λ unnamed h. absurd cc) refusal in
    let c = some_refuses_at (holding_effect i e) depth (ways_in ts x a b) (plots f e a b) rule (kept.fit e a b l m) (tract_short ts x a b)
    named in
    let y = cell_at ts a b c.0 once l m c.2 in
    let inside = sym (tract_has_at ts x a b c.0 y of) ∙ c.1 in
    let there = listed (cells_of depth ts x) y.cell
    (list_has_the_cells depth ts x y.cell ∙ and_from (has x y.cell) (is_plant_cell depth ts y.cell) inside y.plant) in
    let ok = why_at i (now ts (plots f) y.cell)
    (each_done i (λ z. owners (now ts (plots f) z)) y.cell (cells_of depth ts x) (triple_none _ none) there) e in
    let bad : why_of (holding_effect i e (now ts (plots f) y.cell e)) ≡ Some rule =
    (λ k. why_of (holding_effect i e (value_at (plots f e (y.township_is k) (y.section_is k)) (y.path_is k)))) ∙ c.3 in
    let clash : None ≡ Some rule = sym ok ∙ bad in
    absurd cc

-- so the post is refused
pub some_refused : {ts : List Township} {f : Forest} {lent : List Lent} {n : ℕ} → IsKept ts f lent n → IsEachOnce ts → (x : Land)
    (i : Instrument ℕ) → is_in_plant ts x ≡ true → (e : Estate) (rule : Rule) (a b : ℕ) → a < length ts → b < 36
    → refusal_at (holding_effect i e) (named_ways i e (ways_in ts x a b)) (plots f e a b) ≡ Some rule
    → refused_in depth ts i (content_of ts (plots f)) x ≢ None
unfolding refused_in
some_refused {ts} {f} kept once x i of e rule a b l m refusal none =
    some_cell_fails kept once x i of e rule a b l m refusal (sym (ap triple (sym (tract_first ts x i (plots f)) ∙ unrefused x _ none)))

-- where no cell is found none is refused
pub none_refused : (ts : List Township) (x : Land) (i : Instrument ℕ) (ps : Estate → ℕ → ℕ → Plot)
    → None ≡ triple (first_in ts ps i (cells_of depth ts x)) → refused_in depth ts i (content_of ts ps) x ≡ None
none_refused ts x i ps h = refused_by i (content_of ts ps) ts x None (tract_first ts x i ps ∙ triple_none _ h)

-- a post that is refused changes nothing
pub refused_keeps : (ts : List Township) (x : Land) (i : Instrument ℕ) (p : Plant) (r : Refusal) → refused_in depth ts i p x ≡ Some r
    → (c : Cell) → plant_effect depth ts i p x c ≡ p c
unfolding plant_effect
refused_keeps ts x i p r h c = ap (λ (o : Option Refusal). cond (is_some o) (p c)
    (cond (is_cell_of depth ts x c) (done_or (p c) (cell_effect i (p c))) (p c))) h
