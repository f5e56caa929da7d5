-- Tables and entries after an entry more, and after an examiner's are given back.
use Rattle.std.proofs.Common.{◌≡◌, ℕ, Bool, true, false, cond, not, ◌&&◌, ◌||◌, List, [], ◌∷◌, ◌++◌, Option, None, is_some, eqb}
use Rattle.std.proofs.{Common.{refl, sym, ap, ◌∙◌, arith}, lemmas.List.{Elements.{All-cons, All-filter}}}
use Rattle.std.{proofs.lemmas.Bool.{or_left, or_right, Decides.{nat_tests}}, specs.List.{list_any}}
use Rattle.title_lock.specs.{declared.{modes.Mode.{Mode}, table.Table.{Table}, guards.Entry.{Entry}}, Modes.{bound}}
use Rattle.title_lock.{specs.{Overlaps.{Stands, is_post, without}, Asking.{asked, mode_at}, Books.{IsNewest}}, proofs.ModeLaws.{bound_turn}}
use Rattle.title_lock.specs.Tables.{HeldAt, on_all, table_mode, is_asked, is_asked_by, IsGone, TableIs}
use Rattle.title_lock.proofs.WalkLaws.{asked_some, none_some}
use Rattle.title_lock.proofs.Overlap.{MeetByCovers, Apart, apart_more, entries_stand}
use Rattle.title_land.specs.{declared.node.Node.{Node}, Nodes.{same_node, is_above}, Lands.{cover_of, IsLand}}
use Rattle.title_land.specs.Laws.{NodeSharing.{above_is_transitive}, SameNode.{same_node-to}}

-- ---- one entry more

pub table_more : (depth : ℕ) → MeetByCovers depth → (es : List Entry) (table more : Table) (x : Entry) → IsLand depth x.tract
    → TableIs depth es (on_all table) → Stands es x.examiner x.tract (is_post x.access) None →
    ((f : ℕ) (n : Node) → table_mode (on_all more) f n ≡ bound (table_mode (on_all table) f n)
    (cond (eqb f x.examiner) (asked (is_post x.access) (cover_of depth x.tract) n) None)) → TableIs depth (x ∷ es) (on_all more)
table_more depth by es table more x wide are free modes = record {
  apart = apart_more depth es x (λ e f o n. are.apart e f o n)
      (λ f o. (entries_stand depth by (is_post x.access) x.tract wide f es are.sized).0 (free f o));
  sized = All-cons (λ (z : Entry). IsLand depth z.tract) x es wide are.sized;
  modes = λ f n. grind (arith, modes f n, are.modes f n, bound_turn);
}

-- ---- an examiner's entries fewer

modes_without : (depth : ℕ) (e : ℕ) (es : List Entry) (f : ℕ) (n : Node)
    → mode_at depth (without e es) f n ≡ cond (eqb f e) None (mode_at depth es f n)
modes_without depth e [] f n = grind arith
modes_without depth e (x ∷ xs) f n = grind (arith, nat_tests, modes_without depth e xs f n)

-- others' modes stand beside each other still
pub apart_without : (depth : ℕ) (e : ℕ) (es : List Entry) → Apart depth es → Apart depth (without e es)
apart_without depth e es apart f g o n =
    grind (arith, modes_without depth e es f n, modes_without depth e es g n, apart f g o n)

-- ---- what an examiner's entries ask for is all that it holds

modes_some : (depth : ℕ) (e : ℕ) (es : List Entry) (n : Node) → is_some (mode_at depth es e n) ≡ list_any (is_asked_by depth e n) es
modes_some depth e [] n = refl
modes_some depth e (x ∷ xs) n = grind (arith, modes_some depth e xs n, asked_some (is_post x.access) (cover_of depth x.tract) n)

modes_none : (depth : ℕ) (e : ℕ) (es : List Entry) (n : Node) → list_any (is_asked_by depth e n) es ≡ false → mode_at depth es e n ≡ None
modes_none depth e es n h = none_some (mode_at depth es e n) (modes_some depth e es n ∙ h)

-- where it asks for something it has a mode
pub table_held : (depth : ℕ) (es : List Entry) (t : HeldAt) → TableIs depth es t → (e : ℕ) (n : Node)
    → list_any (is_asked_by depth e n) es ≡ true → is_some (table_mode t e n) ≡ true
table_held depth es t are e n asks = ap (λ (z : Option Mode). is_some z) (are.modes e n) ∙ modes_some depth e es n ∙ asks

-- the table without what an examiner's entries ask for is that of the others' entries
pub table_fewer : (depth : ℕ) (e : ℕ) (es : List Entry) (table fewer : Table) → TableIs depth es (on_all table) →
    ((f : ℕ) (n : Node) → table_mode (on_all fewer) f n ≡ cond (eqb f e && list_any (is_asked_by depth e n) es) None
    (table_mode (on_all table) f n))
    → TableIs depth (without e es) (on_all fewer)
table_fewer depth e es table fewer are left = record {
  apart = apart_without depth e es (λ f g o n. are.apart f g o n);
  sized = All-filter (λ (z : Entry). not (eqb z.examiner e)) (λ (z : Entry). IsLand depth z.tract) es are.sized;
  modes = λ f n. grind (arith, nat_tests, left f n, are.modes f n, modes_without depth e es f n, modes_none depth e es n);
}

-- ---- one entry of an examiner taken out, and none of it left

-- a test holds somewhere: of the one, or of the others
any_more : {V : Type 0} (p : V → Bool) (x : V) (xs ys : List V) → list_any p (xs ++ x ∷ ys) ≡ (p x || list_any p (xs ++ ys))
any_more p x [] ys = refl
any_more p x (z ∷ xs) ys = grind (arith, any_more p x xs ys)

-- what is asked for by an examiner's entry and by the others is what is asked for by all
pub asked_more : (depth : ℕ) (e : ℕ) (n : Node) (x : Entry) (fewer more : List Entry) → x.examiner ≡ e → IsNewest e x fewer more →
    (list_any (is_asked n) (cover_of depth x.tract) || list_any (is_asked_by depth e n) fewer) ≡ list_any (is_asked_by depth e n) more
asked_more depth e n x fewer more mine (newer, older, was, now, first) =
    grind (arith, nat_tests, any_more (is_asked_by depth e n) x newer older)

-- one of an examiner's entries, between others, goes with them
without_around : (e : ℕ) (x : Entry) (newer older : List Entry) → x.examiner ≡ e
    → without e (newer ++ x ∷ older) ≡ without e (newer ++ older)
without_around e x [] older mine = grind (arith, nat_tests)
without_around e x (z ∷ newer) older mine = grind (arith, without_around e x newer older mine)

-- without an examiner's entries it is the same with one of them more
pub without_more : (e : ℕ) (x : Entry) (fewer more : List Entry) → x.examiner ≡ e → IsNewest e x fewer more
    → without e fewer ≡ without e more
without_more e x fewer more mine (newer, older, was, now, first) =
    ap (without e) now ∙ sym (without_around e x newer older mine) ∙ ap (without e) (sym was)

-- ---- where an examiner holds nothing of what its entries ask for, it holds nothing above

-- what is asked of a node is asked above it
asked_above : (m k c : Node) → is_asked m c ≡ true → is_above k m ≡ true → is_asked k c ≡ true
asked_above m k c asks up = grind (arith, asks, up, same_node-to m c, above_is_transitive k m c up)

cover_above : (m k : Node) → is_above k m ≡ true → (cover : List Node) → list_any (is_asked m) cover ≡ true
    → list_any (is_asked k) cover ≡ true
cover_above m k up [] asks = asks
cover_above m k up (c ∷ cover) asks = grind (arith, asks, cover_above m k up cover, asked_above m k c)

-- what is asked for one node of a cover is asked
asked_any : (m c : Node) → is_asked m c ≡ true → (cover : List Node) → list_any (same_node c) cover ≡ true
    → list_any (is_asked m) cover ≡ true
asked_any m c asks [] in_cover = in_cover
asked_any m c asks (d ∷ cover) in_cover = grind (arith, asks, in_cover, same_node-to c d, asked_any m c asks cover)

-- so it is at each node that an entry of the examiner asks for
pub record AreGone (depth e : ℕ) (es : List Entry) (t : HeldAt) : Type 0 where
  pub each : (m : Node) → list_any (is_asked_by depth e m) es ≡ true → table_mode t e m ≡ None
      → (k : Node) → is_above k m ≡ true → table_mode t e k ≡ None

-- where it holds all that they ask for
pub gone_begins : (depth e : ℕ) (es : List Entry) (t : HeldAt)
    → ((n : Node) → list_any (is_asked_by depth e n) es ≡ true → is_some (table_mode t e n) ≡ true) → AreGone depth e es t
gone_begins depth e es t held = record { each = λ m asks none k up. absurd (grind (arith, held m asks, none)) }

-- at each node of the cover of one of them
pub gone_cover : (depth e : ℕ) (x : Entry) (fewer more : List Entry) (t : HeldAt) → x.examiner ≡ e → IsNewest e x fewer more
    → AreGone depth e more t → (c : Node) → list_any (same_node c) (cover_of depth x.tract) ≡ true → IsGone t e c
gone_cover depth e x fewer more t mine newest gone c in_cover = λ m asks.
    gone.each m (sym (asked_more depth e m x fewer more mine newest) ∙ or_left (list_any (is_asked m) (cover_of depth x.tract))
    (list_any (is_asked_by depth e m) fewer) (asked_any m c asks (cover_of depth x.tract) in_cover))

-- and of the others' when that is given back
pub gone_stays : (depth e : ℕ) (x : Entry) (fewer more : List Entry) (t u : HeldAt) → x.examiner ≡ e → IsNewest e x fewer more
    → ((f : ℕ) (n : Node) → table_mode u f n ≡ cond (eqb f e && list_any (is_asked n) (cover_of depth x.tract)) None (table_mode t f n))
    → AreGone depth e more t → AreGone depth e fewer u
gone_stays depth e x fewer more t u mine newest taken gone = record {
  each = λ m asks none k up. grind (
    arith,
    nat_tests,
    none,
    taken e m,
    taken e k,
    cover_above m k up (cover_of depth x.tract),
    gone.each m (sym (asked_more depth e m x fewer more mine newest) ∙ or_right (list_any (is_asked m) (cover_of depth x.tract))
        (list_any (is_asked_by depth e m) fewer) asks),
    up,
  );
}

-- ---- none left

-- the others' entries ask for nothing in an examiner's name
asks_none : (depth : ℕ) (e : ℕ) (n : Node) (es : List Entry) → list_any (is_asked_by depth e n) (without e es) ≡ false
asks_none depth e n [] = refl
asks_none depth e n (x ∷ es) = grind (arith, nat_tests, asks_none depth e n es)

-- an examiner with no entry asks for nothing
pub none_left : (depth : ℕ) (e : ℕ) (n : Node) (es : List Entry) (b : Bool) (r : Option Mode) → without e es ≡ es
    → r ≡ cond (b && list_any (is_asked_by depth e n) es) None r
none_left depth e n es b r h = grind (arith, asks_none depth e n es)
