-- Fields, one after another, and whether they go on over the end of their line.
use Rattle.std.{proofs.Common.{◌≡◌, ℕ, zero, suc, List, [], ◌∷◌, true, false, Option, refl, sym, ap, ◌∙◌, take}, specs.List.{list_any}}
use Rattle.std.proofs.lemmas.Bool.{or_parts, or_right}
use Rattle.csv.specs.Records.{field_at}
use Rattle.title_counter.specs.Founds.{has_line_feed, is_spoilt}

-- no field so far has a line feed
pub next_clear : (fields : List (List ℕ)) (i : ℕ) (found : Option (List ℕ)) → found ≡ field_at fields i → is_spoilt found ≡ false
    → list_any has_line_feed (take i fields) ≡ false → list_any has_line_feed (take (suc i) fields) ≡ false
unfolding field_at
next_clear [] i found e clean h = refl
next_clear (f ∷ fields) zero found e clean h = let first = ap is_spoilt (sym e) ∙ clean in rw first refl
next_clear (f ∷ fields) (suc i) found e clean h =
    let parts = or_parts (has_line_feed f) (list_any has_line_feed (take i fields)) h in
    rw (parts.0, next_clear fields i found e clean parts.1) refl

pub spoilt_there : (fields : List (List ℕ)) (i : ℕ) (found : Option (List ℕ)) → found ≡ field_at fields i → is_spoilt found ≡ true
    → list_any has_line_feed fields ≡ true
unfolding field_at
spoilt_there [] i found e spoilt = let never : false ≡ true = ap is_spoilt (sym e) ∙ spoilt in cc never
spoilt_there (f ∷ fields) zero found e spoilt = let first = ap is_spoilt (sym e) ∙ spoilt in rw first refl
spoilt_there (f ∷ fields) (suc i) found e spoilt = let more = spoilt_there fields i found e spoilt in or_right (has_line_feed f)
    (list_any has_line_feed fields) more
