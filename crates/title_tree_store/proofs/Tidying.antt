-- What joining leaves.
use Rattle.std.proofs.Common.{◌≡◌, ◌∙◌, ap, sym, refl, subst, ℕ, ◌<◌, Bool, true, false, ◌||◌, List, [], ◌∷◌, ◌++◌, append_assoc, length}
use Rattle.std.{proofs.lemmas.List.{map-append, Folds.{list_any-append}}, specs.List.{list_any}}
use Rattle.title_instrument.specs.declared.parts.Estate.{Estate}
use Rattle.title_land.specs.declared.rectangle.Quarter.{Quarter}
use Rattle.title_tree.specs.{Plots.{Plot, value_at, fits, tidied, tidied_all}, Joining.{JoinedBut}}
use Rattle.title_tree.specs.Laws.{Joined.{joined_but_none, joined_but_tidied, tidied_tidy}, Uniform.{tidied_shows, tidied_all_shows}}
use Rattle.title_tree.specs.Laws.Depths.{fits_tidied, fits_tidied_all}
use Rattle.title_tree_store.specs.{declared.{ground.Ground.{Ground}, forest.Written.{Written}}, Forests.{put_ways, writes, AreTidied}}
use Rattle.title_tree_store.specs.Grounds.{plot_in, closable_in, Everywhere, IsTidied}

-- a plot that is tidied at some paths
pub tidied_here : (ps : List (List Quarter)) (t u : Plot) → u ≡ tidied_all ps t → IsTidied (ps ∷ []) t u
tidied_here ps t u e = record {
  content = λ c. ap (λ (v : Plot). value_at v c) e ∙ tidied_all_shows ps t c;
  within = λ n f. ap (fits n) e ∙ fits_tidied_all n ps t f;
  joined = λ later h. subst (JoinedBut later) (sym e) (joined_but_tidied ps later t h);
}

-- whole
pub tidied_wholly : (puts : List (List (List Quarter))) (t u : Plot) → u ≡ tidied t → IsTidied puts t u
tidied_wholly puts t u e = record {
  content = λ c. ap (λ (v : Plot). value_at v c) e ∙ tidied_shows t c;
  within = λ n f. ap (fits n) e ∙ fits_tidied n t f;
  joined = λ later h. subst (JoinedBut later) (sym e) (joined_but_none later (tidied t) (tidied_tidy t));
}

-- one put after another
pub tidied_then : (ps qs : List (List (List Quarter))) (t u v : Plot) → IsTidied ps t u → IsTidied qs u v → IsTidied (ps ++ qs) t v
tidied_then ps qs t u v h k = record {
  content = λ c. k.content c ∙ h.content c;
  within = λ n f. k.within n (h.within n f);
  joined = λ later m. k.joined later (h.joined (qs ++ later)
      (subst (λ (z : List (List (List Quarter))). JoinedBut z t) (append_assoc ps qs later) m));
}

-- whether a township could be one tree, after some puts and after one more
closed_more : (some last old mid new : Bool) → (some ≡ true → mid ≡ false) → (some ≡ false → mid ≡ old)
    → (last ≡ true → new ≡ false) → (last ≡ false → new ≡ mid)
    → ((some || (last || false)) ≡ true → new ≡ false) × ((some || (last || false)) ≡ false → new ≡ old)
closed_more true true old mid new p q r s = (λ _. r refl, λ h. absurd cc)
closed_more true false old mid new p q r s = (λ _. s refl ∙ p refl, λ h. absurd cc)
closed_more false true old mid new p q r s = (λ _. r refl, λ h. absurd cc)
closed_more false false old mid new p q r s = (λ h. absurd cc, λ _. s refl ∙ q refl)

-- where one more put wrote
pub tidied_more : {e : Estate} {puts : List Written} {old mid new : List Ground} (put : Written) → AreTidied e puts old mid
    → Everywhere (length mid) (λ i j. IsTidied (put_ways e i j put ∷ []) (plot_in mid i j) (plot_in new i j))
    → ((i : ℕ) → writes e i put ≡ true → closable_in new i ≡ false)
    → ((i : ℕ) → writes e i put ≡ false → closable_in new i ≡ closable_in mid i) → length new ≡ length mid
    → AreTidied e (puts ++ put ∷ []) old new
tidied_more {e} {puts} {old} {mid} {new} put h tidied closed others sized =
    let shut = λ (i : ℕ). closed_more (list_any (writes e i) puts) (writes e i put) _ _ _ (h.closed i) (h.others i) (closed i) (others i) in
    record {
      tidied = λ i j a b. rw (map-append (put_ways e i j) puts (put ∷ [])) (tidied_then _ _ _ (plot_in mid i j) _
          (h.tidied i j a b) (tidied i j (subst (λ (n : ℕ). i < n) (sym h.sized) a) b));
      closed = λ i k. (shut i).0 (sym (list_any-append (writes e i) puts (put ∷ [])) ∙ k);
      others = λ i k. (shut i).1 (sym (list_any-append (writes e i) puts (put ∷ [])) ∙ k);
      sized = sized ∙ h.sized;
    }
