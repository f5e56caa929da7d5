-- The steps of the writer and the readers keep the rule.
use Rattle.std.proofs.Common.{◌≡◌, ◌≢◌, ⊎_elim, ℕ, List, [], ◌∷◌, refl, sym, ◌∙◌, subst}
use mathlib.Core.Option.{some, some-ne-none}
use mathlib.Core.List.{IsPrefix}
use lib.ListN.{get_elem?}
use Rattle.crossbeam_utils.specs.Register.{Admits, TurnsAt, Turns}
use Rattle.atomic_table.proofs.Lists.{at_set, at_snoc}
use Rattle.logbook.specs.Pages.{Book}
use Rattle.title_land.specs.declared.survey.Township.{Township}
use Rattle.title_chain.specs.declared.record.Record.{Record}
use Rattle.title_ledger.specs.{declared.entry.Entry.{Entry}, Ledgers.{AreSerial, lists_of, shown_of, sure_of}}
use Rattle.title_ledger.specs.Laws.Beginnings.{prefix_self, prefix_trans}
use Rattle.title_views.specs.Views.{Shown, IsOf, Grows, SeesAll}

-- a new view has seen nothing
pub admits : (townships : List Township) (b : Book) → Admits (Grows townships b) []
admits townships b x views h = (
  h.0,
  λ seat v at. ⊎_elim (h.1 seat v) (λ (e : [] ≡ v). subst (λ (z : List Record). IsPrefix z x.records) e (x.records, refl))
      (at_snoc views [] v seat at),
)

-- a step to a longer list
pub turns_at : (townships : List Township) (b : Book) (seat : ℕ) (v : List Record) (x y : Shown) → IsOf townships b y
    → IsPrefix x.records y.records → TurnsAt (Grows townships b) seat v x y (SeesAll townships b)
turns_at townships b seat v x y is up views h at = (
  y.records,
  (
    is,
    λ j u e. ⊎_elim
        (λ (t : (j ≡ seat) × (y.records ≡ u)). subst (λ (z : List Record). IsPrefix z y.records) t.1 (prefix_self y.records))
        (λ (t : (j ≢ seat) × (get_elem? views j ≡ some u)). prefix_trans u x.records y.records (h.1 j u t.1) up)
        (at_set views seat j y.records u e),
  ),
  (refl, prefix_trans v x.records y.records (h.1 seat v at) up, is),
)

-- a look changes nothing
pub looks : (townships : List Township) (b : Book) (seat : ℕ) (v : List Record)
    → Turns (Grows townships b) seat v (λ x. x) (SeesAll townships b)
looks townships b seat v x views h at = turns_at townships b seat v x x h.0 (prefix_self x.records) views h at

-- of no entry
pub no_entry : (log : List Entry) → log ≡ [] → (sure_of log ≡ []) × (shown_of log ≡ [])
unfolding lists_of
no_entry log e = subst (λ (l : List Entry). (sure_of l ≡ []) × (shown_of l ≡ [])) (sym e) (refl, refl)

-- an empty list is published, and the writer has seen nothing
pub begins : (townships : List Township) (b : Book) (x : Shown) → x.page.book ≡ b → x.page.log ≡ [] → x.records ≡ []
    → Grows townships b x ([] ∷ [])
begins townships b x book log recs = (
  (
    book,
    (no_entry x.page.log log).1 ∙ sym recs,
    subst (λ (l : List Record). AreSerial townships l) (sym recs) tt,
  ),
  λ seat v at. ⊎_elim (λ (e : get_elem? [] seat ≡ some v). absurd (some-ne-none v (sym e)))
      (λ (e : [] ≡ v). subst (λ (z : List Record). IsPrefix z x.records) e (x.records, refl))
      (at_snoc [] [] v seat at),
)
