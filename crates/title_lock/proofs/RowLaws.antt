-- A list of entries gone through from the oldest to the newest, and counted from the newest on.
use Rattle.std.proofs.Common.{◌≡◌, ◌<◌, ◌+◌, ℕ, List, [], ◌∷◌, reverse, length, take, get_or, ap, ◌∙◌, ◌≢◌, ◌++◌, Option, None, cond, eqb}
use Rattle.std.proofs.{Common.{sym, subst}, lemmas.{Bool.{ne_eqb, cond-false}, List.{take_more, reverse-append}}}
use Rattle.title_land.specs.{declared.node.Node.{Node}, Lands.{cover_of}}
use Rattle.title_lock.specs.{declared.{guards.Entry.{Entry}, modes.Mode.{Mode}}, Modes.{bound}, Overlaps.{is_post}, Asking.{asked, mode_at}}
use Rattle.title_lock.{specs.{Counts.{IsCount}, Holders.{own_part}}, proofs.CountLaws.{count_moved}}

-- one entry more stands before those so far
pub turned_more : (rows : List Entry) (i : ℕ) (d : Entry) → i < length rows → reverse (take (i + 1) rows)
    ≡ get_or rows i d ∷ reverse (take i rows)
turned_more rows i d low = ap (λ (t : List Entry). reverse t) (take_more rows i d low) ∙ reverse-append (take i rows) (get_or rows i d ∷ [])

-- the newest row changes the mode of its examiner alone
row_other : (depth : ℕ) (x : Entry) (es : List Entry) (n : Node) (f : ℕ) → f ≢ x.examiner
    → mode_at depth (x ∷ es) f n ≡ mode_at depth es f n
row_other depth x es n f other = ap (λ (o : Option Mode). bound o (mode_at depth es f n))
    (cond-false (eqb f x.examiner) (asked (is_post x.access) (cover_of depth x.tract) n) None (ne_eqb f x.examiner other))

pub row_counted : (depth : ℕ) (rows older : List Entry) (x : Entry) (n : Node) (m : Mode) (k j : ℕ) (had has : Option Mode)
    → rows ≡ older ++ x ∷ [] → had ≡ mode_at depth (reverse older) x.examiner n
    → has ≡ bound (cond (eqb x.examiner x.examiner) (asked (is_post x.access) (cover_of depth x.tract) n) None) had
    → IsCount (λ f. mode_at depth (reverse older) f n) m k → j + own_part had m ≡ k + own_part has m
    → IsCount (λ f. mode_at depth (reverse rows) f n) m j
row_counted depth rows older x n m k j had has is was now counted sum =
    subst (λ (es : List Entry). IsCount (λ f. mode_at depth es f n) m j) (sym turned)
    (count_moved (λ f. mode_at depth es f n) (λ f. mode_at depth (x ∷ es) f n) x.examiner (row_other depth x es n) m k j counted
    (subst (λ (o : Option Mode). j + own_part (mode_at depth es x.examiner n) m ≡ k + own_part o m) here
    (subst (λ (o : Option Mode). j + own_part o m ≡ k + own_part has m) was sum)))
  where
    es : List Entry
    es = reverse older

    turned : reverse rows ≡ x ∷ es
    turned = ap (λ (t : List Entry). reverse t) is ∙ reverse-append older (x ∷ [])

    here : has ≡ mode_at depth (x ∷ es) x.examiner n
    here = now ∙ ap (bound (cond (eqb x.examiner x.examiner) (asked (is_post x.access) (cover_of depth x.tract) n) None)) was
