-- The locks with an access that is prepared, and without.
use Rattle.std.proofs.Common.{◌≡◌, ℕ, true, not, List, [], ◌∷◌, ◌++◌, Option, Some, None, eqb, refl, sym, ap, subst, ◌∙◌, arith}
use Rattle.std.{proofs.lemmas.Bool.{eq-eqb, both_ways, not_from_true}, specs.List.{list_any}}
use Rattle.std.proofs.lemmas.{Option.{none-some, same_Some}, List.Elements.{All-head, All-same, filter_passes}}
use Rattle.title_land.specs.{declared.node.Node.{Node}, Lands.{cover_of}}
use Rattle.title_lock.specs.{declared.{guards.Entry.{Entry}, table.Table.{Table}}, Overlaps.{without}, Books.{IsNewest}}
use Rattle.title_lock.{specs.Tables.{on_all, table_mode, is_asked, IdleMore, IdleLess, NoMoreIdle}, proofs.BookLaws.{same_parts}}
use Rattle.title_lock.specs.{Tables.{TableIs, AllUsed}, Locks.{granted, waiting, IsReady, AreKept, IsLean, AreLocks}}

-- the table tells the modes of the entries, whether or not an access is prepared
pub kept_table : (depth : ℕ) (p : Option ℕ) (book : List Entry) (t : Table) → AreKept depth p book t
    → TableIs depth (granted p book) (on_all t)
kept_table depth None book t h = h
kept_table depth (Some e) [] t h = absurd cc
kept_table depth (Some e) (x ∷ es) t h = h.0

-- locks where no access is prepared
pub record IsForgotten (depth : ℕ) (p : Option ℕ) (book : List Entry) (t : Table) : Type 0 where
  pub none : p ≡ None
  pub all : granted p book ≡ book
  pub table : TableIs depth book (on_all t)
  pub lean : IsLean depth None t

-- none is where no entry waits
pub forgotten : (depth : ℕ) (p : Option ℕ) (book : List Entry) (t : Table) → AreLocks depth p book t → waiting p book ≡ None
    → IsForgotten depth p book t
forgotten depth None book t h none = record { none = refl; all = refl; table = h.kept; lean = h.lean }
forgotten depth (Some e) [] t h none = absurd (none-some e h.kept)
forgotten depth (Some e) (x ∷ es) t h none = absurd (none-some x (sym none))

-- a table with the same modes is that of the same entries
pub table_same : (depth : ℕ) (es : List Entry) (t u : Table) → ((f : ℕ) (n : Node) → table_mode (on_all u) f n ≡ table_mode (on_all t) f n)
    → TableIs depth es (on_all t) → TableIs depth es (on_all u)
table_same depth es t u same are = record {
  apart = are.apart;
  sized = are.sized;
  modes = λ f n. same f n ∙ are.modes f n;
}

-- the entry that waits stands first in the book, and can be granted
pub first_waits : (depth : ℕ) (p : Option ℕ) (book : List Entry) (t : Table) (x : Entry) → AreKept depth p book t → waiting p book ≡ Some x
    → (book ≡ x ∷ granted p book) × IsReady depth x.examiner x (granted p book) t
first_waits depth None book t x h some = absurd cc
first_waits depth (Some e) [] t x h some = absurd cc
first_waits depth (Some e) (y ∷ es) t x h some =
    subst (λ (z : Entry). (y ∷ es ≡ z ∷ es) × IsReady depth z.examiner z es t) (same_Some y x some)
    (refl, record { own = refl; wide = h.1.wide; free = h.1.free; room = h.1.room })

-- ---- an examiner's newest entry, where the first is its own

-- an examiner's own entry isn't left without it
pub own_goes : (e : ℕ) (x : Entry) (es : List Entry) → x.examiner ≡ e → without e (x ∷ es) ≡ x ∷ es → ⊥
own_goes e x es own same =
    let left = All-same (λ (z : Entry). not (eqb z.examiner e) ≡ true) (x ∷ es) (without e (x ∷ es)) (sym same)
    (filter_passes (λ (z : Entry). not (eqb z.examiner e)) (x ∷ es)) in
    both_ways (not (eqb x.examiner e)) (not_from_true (eqb x.examiner e) (eq-eqb x.examiner e own))
    (All-head (λ (z : Entry). not (eqb z.examiner e) ≡ true) x es left)

-- what is taken of an examiner whose own entry is the first is that entry
first_taken : (e : ℕ) (x y : Entry) (es left newer older : List Entry) → x.examiner ≡ e → x ∷ es ≡ newer ++ y ∷ older
    → left ≡ newer ++ older → without e newer ≡ newer → (x ≡ y) × (left ≡ es)
first_taken e x y es left [] older own was now first = let parts = same_parts x y es older was in (parts.0, now ∙ sym parts.1)
first_taken e x y es left (z ∷ newer) older own was now first =
    let head = (same_parts x z es (newer ++ y ∷ older) was).0 in
    absurd (own_goes e z newer (ap (λ (w : Entry). w.examiner) (sym head) ∙ own) first)

-- what is taken of an examiner whose access is prepared is that access
pub prepared_taken : (depth e : ℕ) (book left : List Entry) (t : Table) (y : Entry) → AreKept depth (Some e) book t → IsNewest e y left book
    → (waiting (Some e) book ≡ Some y) × (left ≡ granted (Some e) book)
prepared_taken depth e [] left t y h newest = absurd cc
prepared_taken depth e (x ∷ es) left t y h (newer, older, was, now, first) =
    let taken = first_taken e x y es left newer older h.1.own was now first in (ap (λ (z : Entry). Some z) taken.0, taken.1)

-- something is taken
pub prepared_some : (depth e : ℕ) (book : List Entry) (t : Table) → AreKept depth (Some e) book t → without e book ≡ book → ⊥
prepared_some depth e [] t h same = cc
prepared_some depth e (x ∷ es) t h same = own_goes e x es h.1.own same

-- ---- nothing is kept but what is held and what waits

-- an access that waits no more leaves nobody idle
pub lean_done : (depth : ℕ) (x : Entry) (t u : Table) → IsLean depth (Some x) t
    → IdleLess (on_all t) (on_all u) x.examiner (λ n. list_any (is_asked n) (cover_of depth x.tract))
    → (AllUsed (on_all t) → AllUsed (on_all u)) → IsLean depth None u
lean_done depth x t u lean less used = record {
  idle = λ f n idle. absurd (grind (arith, lean.idle f n, less.less f n));
  used = used lean.used;
}

-- an access that is to wait makes its examiner idle where it asks
pub lean_more : (depth : ℕ) (x : Entry) (t u : Table) → IsLean depth None t
    → IdleMore (on_all t) (on_all u) x.examiner (λ n. list_any (is_asked n) (cover_of depth x.tract))
    → (AllUsed (on_all t) → AllUsed (on_all u)) → IsLean depth (Some x) u
lean_more depth x t u lean more used = record {
  idle = λ f n idle. grind (arith, lean.idle f n, more.more f n);
  used = used lean.used;
}

-- where nobody more is idle it is as it was
pub lean_same : (depth : ℕ) (w : Option Entry) (t u : Table) → IsLean depth w t → NoMoreIdle (on_all t) (on_all u)
    → (AllUsed (on_all t) → AllUsed (on_all u)) → IsLean depth w u
lean_same depth w t u lean same used = record { idle = λ f n idle. lean.idle f n (same.same f n idle); used = used lean.used }
