-- A post alone, estate by estate: what was made takes its places and is joined; or what was quartered before it stopped is joined again.
use Rattle.std.proofs.Common.{◌≡◌, ◌∙◌, ap, sym, subst, refl, ℕ, true, false, ◌&&◌, cond, inl, inr, List, [], ◌∷◌, length}
use Rattle.std.proofs.lemmas.Bool.{cases_Bool, cond_both}
use Rattle.title_land.specs.declared.rectangle.Quarter.{Quarter}
use Rattle.title_instrument.specs.declared.{parts.{Estate.{Estate}, Estates.{Estates}}, instrument.Instrument.{Instrument}}
use Rattle.title_instrument.specs.{Estates.{names}, Effect.{holding_effect}, Parties.{estates_of}}
use Rattle.title_tree.specs.{Changes.{after}, Joins.{is_joinable}, Joining.{JoinedBut}}
use Rattle.title_tree.specs.Plots.{Plot, value_at, plot_at, is_tidy, fits}
use Rattle.title_tree.specs.Pieces.{Apart, Disjoint, InOrder, Ready, paths, swapped}
use Rattle.title_tree.specs.Laws.{Joined.{elsewhere_split_all, elsewhere_swapped, joined_but_none, joined_but_tidy}, Images.{put_ready}}
use Rattle.title_tree.specs.Laws.Swaps.{paths_fresh}
use Rattle.title_tree_store.specs.declared.{forest.{Forest.{Forest}, Subtrees.{Subtrees}, Written.{Written}}, spots.Home.{Home}}
use Rattle.title_tree_store.specs.{Grounds.{Everywhere, IsTidied, closable_in, AreUntouched}, Spots.{paths_in, ways_at, reaches}}
use Rattle.title_tree_store.specs.Forests.{grounds, plots, parts_of, parts_at, named_ways, put_ways, writes, IsMade, IsQuartered}
use Rattle.title_tree_store.specs.Forests.{IsTidy, IsMadeFor, IsSettled, IsRejoined}
use Rattle.title_tree_store.proofs.{Contents.{each, everywhere}, Steps.{named_or}}
use Rattle.title_tree_store.specs.declared.spots.Home.TheVariants as home

-- where no two nodes of a place share a cell, none of a section do
ways_apart : (h : Home) (ps : List (List Quarter)) (i j : ℕ) → Disjoint ps → Disjoint (ways_at h ps i j)
ways_apart home.Everything ps i j d = (λ q m. absurd m, tt)
ways_apart (home.Township t) ps i j d = cond_both _ ([] ∷ []) [] Disjoint (λ _. (λ q m. absurd m, tt)) (λ _. tt)
ways_apart (home.Section n t) ps i j d = cond_both _ ps [] Disjoint (λ _. d) (λ _. tt)

-- where a place's stand in order, a section's do
ways_in_order : (h : Home) (ps : List (List Quarter)) (i j : ℕ) → InOrder ps → InOrder (ways_at h ps i j)
ways_in_order home.Everything ps i j o = (λ q m. absurd m, tt)
ways_in_order (home.Township t) ps i j o = cond_both _ ([] ∷ []) [] InOrder (λ _. (λ q m. absurd m, tt)) (λ _. tt)
ways_in_order (home.Section n t) ps i j o = cond_both _ ps [] InOrder (λ _. o) (λ _. tt)

-- a tidy plot that changed at some paths alone can be joined nowhere else
elsewhere_joined : (ps : List (List Quarter)) (t u : Plot) → is_tidy t ≡ true
    → ((q : List Quarter) → Apart q ps → plot_at q u ≡ plot_at q t) → JoinedBut (ps ∷ []) u
elsewhere_joined ps t u tidy same q away =
    ap is_joinable (same q (away ps (inl refl))) ∙ joined_but_none [] t tidy q (λ qs m. absurd m)

module _ (x : Instrument ℕ) (h : Home) (ps : List (List Quarter)) (old mid : Forest) (q : IsQuartered x h ps old mid) (put : Written)
    (place : put.home ≡ h) (ways : paths_in put.paths ≡ ps) (estates : put.estates ≡ estates_of x) where
  -- what is noted of it
  same_ways : (e : Estate) (i j : ℕ) → put_ways e i j put ≡ named_ways x e (ways_at h ps i j)
  same_ways e i j = λ k. cond (names (estates k) e) (ways_at (place k) (ways k) i j) []

  same_marks : (e : Estate) (i : ℕ) → writes e i put ≡ (names (estates_of x) e && reaches h i)
  same_marks e i = λ k. names (estates k) e && reaches (place k) i

  -- joined where it wrote, a township can't be one tree
  shut : IsTidy old → (new : Forest) (e : Estate) → ((i : ℕ) → writes e i put ≡ true → closable_in (grounds new e) i ≡ false)
      → ((i : ℕ) → writes e i put ≡ false → closable_in (grounds new e) i ≡ closable_in (grounds mid e) i) → (i : ℕ)
      → closable_in (grounds new e) i ≡ false
  shut tidy new e closed others i = elim (cases_Bool (writes e i put)) [
    | inl w ↦ closed i w
    | inr w ↦ others i w ∙ (each q.split e).closed i (sym (same_marks e i) ∙ w) ∙ tidy.closed e i
  ]

  -- ---- it is done

  module _ (made : Subtrees) (disjoint : Disjoint ps) (m : IsMade x h ps old mid made) where
    goes : (e : Estate) → Everywhere (length (grounds mid e)) (λ i j. Disjoint (paths (parts_at put.home (parts_of made e) i j))
        × Ready (paths (parts_at put.home (parts_of made e) i j)) (plots mid e i j))
    goes e = rw place (everywhere (sym (each q.split e).sized) (λ i j a b.
        put_ready (after (holding_effect x e)) (named_ways x e (ways_at h ps i j)) (plots old e i j) (plots mid e i j)
        (parts_at h (parts_of made e) i j)
        (named_or Disjoint x e (ways_at h ps i j) (ways_apart h ps i j disjoint) (λ none. tt)) (m.change e i j a b).1 (m.split e i j a b)))

    own : (e : Estate) → Everywhere (length (grounds mid e)) (λ i j. paths (parts_at put.home (parts_of made e) i j)
        ≡ put_ways e i j put)
    own e = everywhere (sym (each q.split e).sized) (λ i j a b.
        ap (λ (k : Home). paths (parts_at k (parts_of made e) i j)) place ∙ ap paths (m.change e i j a b).1
        ∙ paths_fresh (after (holding_effect x e)) (named_ways x e (ways_at h ps i j)) (plots old e i j) ∙ sym (same_ways e i j))

    pub made_for : InOrder ps → (e : Estate) → IsMadeFor put e (parts_of made e) (grounds mid e)
    made_for order e = record {
      all = rw (each q.split e).sized (m.all e);
      wanted = λ i w. m.wanted e i (rw place at w);
      goes = goes e;
      own = own e;
      order = λ i j a b. subst InOrder (sym (own e i j a b ∙ same_ways e i j))
          (named_or InOrder x e (ways_at h ps i j) (ways_in_order h ps i j order) (λ none. tt));
      named = λ some. ap (λ (named : Estates). names named e) estates ∙ m.named e some;
    }

    module _ (new : Forest) (tidied : (e : Estate) → Everywhere (length (grounds mid e)) (λ i j. IsTidied (put_ways e i j put ∷ [])
        (swapped (parts_at put.home (parts_of made e) i j) (plots mid e i j)) (plots new e i j))) where
      pub settled : (e : Estate) → Everywhere (length (grounds old e)) (λ i j. IsSettled x e (ways_at h ps i j) (plots old e i j)
          (plots new e i j))
      settled e i j a b =
          let c = m.change e i j a b in
          let t : IsTidied (put_ways e i j put ∷ []) (swapped (parts_at put.home (parts_of made e) i j) (plots mid e i j)) (plots new e i
          j) =
          everywhere (each q.split e).sized (tidied e) i j a b in
          record { none = c.0; tidied = rw (same_ways e i j, place, c.1, m.split e i j a b) at t }

      pub tidy_settled : IsTidy old → ((e : Estate) → length (grounds new e) ≡ length (grounds mid e))
          → ((e : Estate) (i : ℕ) → writes e i put ≡ true → closable_in (grounds new e) i ≡ false)
          → ((e : Estate) (i : ℕ) → writes e i put ≡ false → closable_in (grounds new e) i ≡ closable_in (grounds mid e) i) → IsTidy new
      tidy_settled tidy sized closed others = record {
        tidy = λ e. everywhere (sym (sized e ∙ (each q.split e).sized)) (λ i j a b.
            let xs = parts_at put.home (parts_of made e) i j in
            joined_but_tidy (plots new e i j) ((everywhere (each q.split e).sized (tidied e) i j a b).joined []
            (elsewhere_joined (put_ways e i j put) (plots old e i j) (swapped xs (plots mid e i j)) (tidy.tidy e i j a b) (λ z away.
            elsewhere_swapped xs (plots mid e i j) z (subst (Apart z) (sym (everywhere (each q.split e).sized (own e) i j a b)) away)
            ∙ ap (plot_at z) (m.split e i j a b)
            ∙ elsewhere_split_all (named_ways x e (ways_at h ps i j)) (plots old e i j) z (subst (Apart z) (same_ways e i j) away)))));
        closed = λ e. shut tidy new e (closed e) (others e);
      }

  -- ---- it stopped

  module _ (new : Forest) (tidied : (e : Estate) → Everywhere (length (grounds mid e)) (λ i j. IsTidied (put_ways e i j put ∷ [])
      (plots mid e i j) (plots new e i j))) where
    pub rejoined : (e : Estate) → Everywhere (length (grounds old e)) (λ i j. IsRejoined (ways_at h ps i j) (plots old e i j)
        (plots new e i j))
    rejoined e i j a b =
        let t = everywhere (each q.split e).sized (tidied e) i j a b in
        record {
          content = λ c. t.content c ∙ ((each q.split e).refines i j a b).content c;
          within = λ n s f. t.within n ((each q.split e).within i j a b n s f);
        }

    pub tidy_rejoined : IsTidy old → ((e : Estate) → length (grounds new e) ≡ length (grounds mid e))
        → ((e : Estate) (i : ℕ) → writes e i put ≡ true → closable_in (grounds new e) i ≡ false)
        → ((e : Estate) (i : ℕ) → writes e i put ≡ false → closable_in (grounds new e) i ≡ closable_in (grounds mid e) i) → IsTidy new
    tidy_rejoined tidy sized closed others = record {
      tidy = λ e. everywhere (sym (sized e ∙ (each q.split e).sized)) (λ i j a b.
          joined_but_tidy (plots new e i j) ((everywhere (each q.split e).sized (tidied e) i j a b).joined []
          (elsewhere_joined (put_ways e i j put) (plots old e i j) (plots mid e i j) (tidy.tidy e i j a b) (λ z away.
          (each q.split e).elsewhere i j a b z (subst (Apart z) (same_ways e i j) away)))));
      closed = λ e. shut tidy new e (closed e) (others e);
    }

-- nothing was quartered
module _ (h : Home) (ps : List (List Quarter)) (old new : Forest) (same : (e : Estate) → AreUntouched (grounds old e) (grounds new e)) where
  pub untouched : (e : Estate) → Everywhere (length (grounds old e)) (λ i j. IsRejoined (ways_at h ps i j) (plots old e i j)
      (plots new e i j))
  untouched e i j a b = record {
    content = λ c. ap (λ (t : Plot). value_at t c) ((same e).stays i j a b);
    within = λ n s f. ap (fits n) ((same e).stays i j a b) ∙ f;
  }

  pub tidy_untouched : IsTidy old → ((e : Estate) → length (grounds new e) ≡ length (grounds old e)) → IsTidy new
  tidy_untouched tidy sized = record {
    tidy = λ e. everywhere (sym (sized e)) (λ i j a b. ap is_tidy ((same e).stays i j a b) ∙ tidy.tidy e i j a b);
    closed = λ e i. (same e).closable i ∙ tidy.closed e i;
  }
