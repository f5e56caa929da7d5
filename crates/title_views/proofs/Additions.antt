-- What the writer's operations make of what is published.
use Rattle.std.proofs.Common.{◌≡◌, ℕ, ◌+◌, ◌-◌, zero, suc, List, [], ◌∷◌, ◌++◌, length, take, fold, Result, Ok, Err, inr, ap, sym}
use Rattle.std.{proofs.{Common.{◌∙◌, subst, arith}, lemmas.List.Sums.{fold-append}}, specs.Prelude.{All, MatchResult, is_ok, if◌then◌else◌}}
use Rattle.std.proofs.Math.Seq.{take-append_seam, take-length}
use Rattle.logbook.specs.Pages.{Book}
use Rattle.title_land.specs.declared.survey.Township.{Township}
use Rattle.title_chain.specs.declared.record.Record.{Record}
use Rattle.title_ledger.specs.{declared.entry.Entry.{Entry}, Ledgers.{AreSerial, lists_of, sure_of, shown_of, IsSettled}}
use Rattle.title_ledger.specs.Laws.Entries.{lists_snoc}
use Rattle.title_ledger.specs.declared.entry.Entry.TheVariants as entry
use Rattle.title_views.specs.{declared.published.Addition.{Addition}, Views.{Shown, placed, IsOf}}

-- what is published after an operation
abbrev pub added : Shown → Addition → Shown
added x a = placed x a.place a.rec a.page

-- operations at one place leave what is before it
pub fold_keeps : (c : List Record) (x : Shown) (adds : List Addition) → take (length c) x.records ≡ c
    → All (λ (a : Addition). a.place ≡ 1 + length c) adds → take (length c) (fold added x adds).records ≡ c
fold_keeps c x [] e all = e
fold_keeps c x (a ∷ adds) e all =
    let here : a.place ≡ 1 + length c = all 0 a (omega (arith)) in
    let n : a.place - 1 ≡ length c = omega arith in
    let cut : take (a.place - 1) x.records ≡ c = ap (λ (k : ℕ). take k x.records) n ∙ e in
    let next : take (length c) (take (a.place - 1) x.records ++ a.rec ∷ []) ≡ c =
    ap (λ (l : List Record). take (length c) (l ++ a.rec ∷ [])) cut ∙ take-append_seam c (a.rec ∷ []) in
    fold_keeps c (added x a) adds next (λ k d lt. all (suc k) d (omega arith))

-- the last of them is what is published
pub published_next : (townships : List Township) (b : Book) (c : List Record) (x : Shown) (adds all : List Addition) (a : Addition)
    → x.records ≡ c → All (λ (q : Addition). q.place ≡ 1 + length c) adds → all ≡ adds ++ a ∷ [] → a.place ≡ 1 + length c
    → a.page.book ≡ b → shown_of a.page.log ≡ c ++ a.rec ∷ [] → AreSerial townships (c ++ a.rec ∷ [])
    → ((fold added x all).records ≡ c ++ a.rec ∷ []) × IsOf townships b (fold added x all)
published_next townships b c x adds all a is places ends place book shows serial =
    let start : take (length c) x.records ≡ c = ap (λ (l : List Record). take (length c) l) is ∙ take-length c in
    let k = fold_keeps c x adds start places in
    let y = fold added x adds in
    let m : a.place - 1 ≡ length c = omega arith in
    let at : fold added x all ≡ added y a = ap (fold added x) ends ∙ fold-append added x adds (a ∷ []) in
    let recs : (fold added x all).records ≡ c ++ a.rec ∷ [] =
    ap (λ (s : Shown). s.records) at ∙ ap (λ (j : ℕ). take j y.records ++ a.rec ∷ []) m ∙ ap (λ (l : List Record). l ++ a.rec ∷ []) k in (
      recs,
      (
        ap (λ (s : Shown). s.page.book) at ∙ book,
        ap (λ (s : Shown). shown_of s.page.log) at ∙ shows ∙ sym recs,
        subst (λ (l : List Record). AreSerial townships l) (sym recs) serial,
      ),
    )

-- one more at the same place
pub all_snoc : (n : ℕ) (adds : List Addition) (a : Addition) → All (λ (q : Addition). q.place ≡ n) adds → a.place ≡ n
    → All (λ (q : Addition). q.place ≡ n) (adds ++ a ∷ [])
all_snoc n [] a all e zero d lt = e
all_snoc n [] a all e (suc k) d lt = absurd (omega arith)
all_snoc n (q ∷ adds) a all e zero d lt = all 0 d (omega arith)
all_snoc n (q ∷ adds) a all e (suc k) d lt = all_snoc n adds a (λ j c l. all (suc j) c (omega arith)) e k d (omega arith)

-- what a call that publishes leaves, whether it did or not
pub left_over : (c : List Record) (x y z : Shown) (adds all left : List Addition) (a : Addition) {E : Type 0} (r : Result (Unit {0}) E)
    → x.records ≡ c → y.records ≡ c ++ a.rec ∷ [] → All (λ (q : Addition). q.place ≡ 1 + length c) adds → all ≡ adds ++ a ∷ []
    → a.place ≡ 1 + length c → MatchResult r (λ _. (z ≡ y) × (left ≡ [])) (λ _. (z ≡ x) × (left ≡ all))
    → (z.records ≡ (if is_ok r then c ++ a.rec ∷ [] else c)) × All (λ (q : Addition). q.place ≡ 1 + length z.records) left
left_over c x y z adds all left a (Ok u) is recs places ends place h = (
  ap (λ (s : Shown). s.records) h.0 ∙ recs,
  λ k d lt. absurd (let none = ap length h.1 in omega arith),
)
left_over c x y z adds all left a (Err e) is recs places ends place h =
    let same : z.records ≡ c = ap (λ (s : Shown). s.records) h.0 ∙ is in (
      same,
      subst (λ (l : List Record). All (λ (q : Addition). q.place ≡ 1 + length l) left) (sym same)
          (subst (λ (ps : List Addition). All (λ (q : Addition). q.place ≡ 1 + length c) ps) (sym (h.1 ∙ ends))
          (all_snoc (1 + length c) adds a places place)),
    )

-- the ledger once a record is tried
pub tried_lists : (last log : List Entry) (r : Record) (c : List Record) → log ≡ last ++ entry.Tried r ∷ [] → sure_of last ≡ c
    → (sure_of log ≡ c) × (shown_of log ≡ c ++ r ∷ [])
tried_lists last log r c is sure =
    let l = ap lists_of is ∙ lists_snoc last (entry.Tried r) in (
      ap (λ (t : List Record × List Record). t.0) l ∙ sure,
      ap (λ (t : List Record × List Record). t.1) l ∙ ap (λ (k : List Record). k ++ r ∷ []) sure,
    )

-- and once it is committed
pub settled_lists : (last log : List Entry) (c : List Record) → log ≡ last ++ entry.Committed ∷ [] → shown_of last ≡ c
    → (sure_of log ≡ c) × IsSettled log
settled_lists last log c is shows =
    (ap (λ (t : List Record × List Record). t.0) (ap lists_of is ∙ lists_snoc last entry.Committed) ∙ shows, inr (last, is))
