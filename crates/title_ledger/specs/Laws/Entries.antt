-- What the entries of a ledger say.
use Rattle.std.proofs.Common.{◌≡◌, ⊎_elim, ◌+◌, List, [], ◌∷◌, ◌++◌, length, fold, ap, sym, ◌∙◌, subst, arith, length-append}
use Rattle.std.proofs.lemmas.List.Sums.{fold-append}
use mathlib.Core.List.{IsPrefix}
use Rattle.title_land.specs.declared.survey.Township.{Township}
use Rattle.title_chain.specs.declared.record.Record.{Record}
use Rattle.title_ledger.specs.declared.entry.Entry.{Entry}
use Rattle.title_ledger.specs.Ledgers.{AreSerial, next_lists, no_lists, lists_of, sure_of, shown_of, IsSettled}
use Rattle.title_ledger.specs.Laws.Beginnings.{prefix_self, prefix_more, prefix_trans, prefix_shorter, prefix_whole}
use Rattle.title_ledger.specs.declared.entry.Entry.TheVariants as entry

-- one entry more
pub lists_snoc : (log : List Entry) (e : Entry) → lists_of (log ++ e ∷ []) ≡ next_lists (lists_of log) e
unfolding lists_of
lists_snoc log e = fold-append next_lists no_lists log (e ∷ [])

-- ---- from any two lists on, of which the first begins the second

-- the committed ones begin those that are shown
keeps_order : (s : List Record × List Record) (log : List Entry) → IsPrefix s.0 s.1
    → IsPrefix (fold next_lists s log).0 (fold next_lists s log).1
keeps_order s [] p = p
keeps_order s (entry.Tried r ∷ log) p = keeps_order (s.0, s.0 ++ r ∷ []) log (prefix_more s.0 (r ∷ []))
keeps_order s (entry.Committed ∷ log) p = keeps_order (s.1, s.1) log (prefix_self s.1)

-- the committed ones only grow
grows : (s : List Record × List Record) (log : List Entry) → IsPrefix s.0 s.1 → IsPrefix s.0 (fold next_lists s log).0
grows s [] p = prefix_self s.0
grows s (entry.Tried r ∷ log) p = grows (s.0, s.0 ++ r ∷ []) log (prefix_more s.0 (r ∷ []))
grows s (entry.Committed ∷ log) p =
    prefix_trans s.0 s.1 (fold next_lists (s.1, s.1) log).0 p (grows (s.1, s.1) log (prefix_self s.1))

-- ---- from no record on

-- the committed records begin those that are shown
pub sure_begins : (log : List Entry) → IsPrefix (sure_of log) (shown_of log)
unfolding lists_of
sure_begins log = keeps_order no_lists log (prefix_self [])

-- with more entries the committed records only grow
pub sure_more : (log more : List Entry) → IsPrefix (sure_of log) (sure_of (log ++ more))
unfolding lists_of
sure_more log more =
    let s = fold next_lists no_lists log in
    subst (λ (t : List Record × List Record). IsPrefix s.0 t.0) (sym (fold-append next_lists no_lists log more))
    (grows s more (keeps_order no_lists log (prefix_self [])))

-- of two beginnings of the ledger the longer has all that the shorter has committed
pub sure_later : (a b : List Entry) → IsPrefix a b → IsPrefix (sure_of a) (sure_of b)
sure_later a b p = subst (λ w. IsPrefix (sure_of a) (sure_of w)) p.1 (sure_more a p.0)

-- what is committed is shown in each longer beginning
pub covers_more : (told mine : List Entry) → IsPrefix told mine → IsPrefix (sure_of told) (shown_of mine)
covers_more told mine p =
    prefix_trans (sure_of told) (sure_of mine) (shown_of mine) (sure_later told mine p) (sure_begins mine)

-- what is committed in a settled beginning is shown in the one that is shorter by an entry
pub covers_last : (told mine : List Entry) → IsSettled told → IsPrefix mine told → length told ≡ length mine + 1
    → IsPrefix (sure_of told) (shown_of mine)
covers_last told mine settled p long = ⊎_elim none some settled
  where
    none : told ≡ [] → IsPrefix (sure_of told) (shown_of mine)
    none e = absurd (omega (arith, ap length e))

    some : (before : List Entry) × (told ≡ before ++ entry.Committed ∷ []) → IsPrefix (sure_of told) (shown_of mine)
    some b =
        let n : length b.0 ≡ length mine = omega (arith, ap length b.1 ∙ length-append b.0 (entry.Committed ∷ [])) in
        let same : b.0 ≡ mine =
        prefix_whole b.0 mine (prefix_shorter b.0 mine told (entry.Committed ∷ [], sym b.1) p (omega arith)) n in
        let is : sure_of told ≡ shown_of mine = ap sure_of b.1
        ∙ ap (λ (t : List Record × List Record). t.0) (lists_snoc b.0 entry.Committed) ∙ ap shown_of same in
        subst (λ w. IsPrefix (sure_of told) w) is (prefix_self (sure_of told))

-- ---- what the type of a front asks

-- of no entry
pub empty_ok : (townships : List Township) (log : List Entry) → log ≡ []
    → AreSerial townships (shown_of log) × AreSerial townships (sure_of log)
unfolding lists_of
empty_ok townships log e =
    subst (λ (l : List Entry). AreSerial townships (shown_of l) × AreSerial townships (sure_of l)) (sym e) (tt, tt)

-- of a record that is tried
pub tried_ok : (townships : List Township) (log w : List Entry) (r : Record) → w ≡ log ++ entry.Tried r ∷ []
    → AreSerial townships (sure_of log ++ r ∷ []) → AreSerial townships (sure_of log)
    → AreSerial townships (shown_of w) × AreSerial townships (sure_of w)
tried_ok townships log w r is next now =
    let l = ap lists_of is ∙ lists_snoc log (entry.Tried r) in (
      subst (λ (t : List Record × List Record). AreSerial townships t.1) (sym l) next,
      subst (λ (t : List Record × List Record). AreSerial townships t.0) (sym l) now,
    )

-- of a record that is committed
pub settled_ok : (townships : List Township) (log w : List Entry) → w ≡ log ++ entry.Committed ∷ []
    → AreSerial townships (shown_of log) → AreSerial townships (shown_of w) × AreSerial townships (sure_of w)
settled_ok townships log w is now =
    let l = ap lists_of is ∙ lists_snoc log entry.Committed in (
      subst (λ (t : List Record × List Record). AreSerial townships t.1) (sym l) now,
      subst (λ (t : List Record × List Record). AreSerial townships t.0) (sym l) now,
    )
