-- Where a table tells the modes of entries, whoever holds a node holds its intention at each node above; and where nobody is idle,
-- whoever has room at a node has it above.
use Rattle.std.proofs.Common.{◌≡◌, ◌≢◌, ℕ, Bool, true, false, cond, eqb, List, [], ◌∷◌, Option, Some, None, is_some}
use Rattle.std.proofs.{Common.{refl, sym, ◌∙◌, arith}, lemmas.Bool.{false≢true, false_from_ne_true}}
use Rattle.title_land.specs.{declared.node.Node.{Node}, Nodes.{is_above}, Lands.{cover_of}}
use Rattle.title_land.specs.Laws.{NodeSharing.{above_is_transitive}, SameNode.{same_node-to}}
use Rattle.title_lock.specs.declared.{modes.Mode.{Mode}, table.Table.{Table}, guards.Entry.{Entry}}
use Rattle.title_lock.specs.{Modes.{allows, intends}, Overlaps.{is_post}, Holders.{Modes}}
use Rattle.title_lock.{specs.{Asking.{asked_for, asked, mode_at}, Locks.{IsLean}}, proofs.Intentions.{intends_bound}}
use Rattle.title_lock.specs.Tables.{HeldAt, on_all, table_mode, mode_in, room_in, idle_in, TableIs, IsRooted, IsRoomy}

-- who holds something holds something above
intends_some : (a b : Option Mode) → intends a b ≡ true → is_some a ≡ true → is_some b ≡ true
intends_some a b h k = grind (arith, h, k)

-- ---- what entries ask

-- what is asked for one node of a cover is intended above
asked_for_intends : (p : Bool) (c m k : Node) → is_above k m ≡ true → intends (asked_for p c m) (asked_for p c k) ≡ true
asked_for_intends p c m k up = grind (arith, up, same_node-to m c, above_is_transitive k m c up)

asked_intends : (p : Bool) (cover : List Node) (m k : Node) → is_above k m ≡ true → intends (asked p cover m) (asked p cover k) ≡ true
asked_intends p [] m k up = refl
asked_intends p (c ∷ cover) m k up = intends_bound (asked_for p c m) (asked_for p c k) (asked p cover m) (asked p cover k)
    (asked_for_intends p c m k up) (asked_intends p cover m k up)

entries_intend : (depth : ℕ) (es : List Entry) (e : ℕ) (m k : Node) → is_above k m ≡ true
    → intends (mode_at depth es e m) (mode_at depth es e k) ≡ true
entries_intend depth [] e m k up = refl
entries_intend depth (x ∷ es) e m k up =
    let asked_of = λ (n : Node). cond (eqb e x.examiner) (asked (is_post x.access) (cover_of depth x.tract) n) None in
    intends_bound (asked_of m) (asked_of k) (mode_at depth es e m) (mode_at depth es e k)
    (grind (arith, asked_intends (is_post x.access) (cover_of depth x.tract) m k up)) (entries_intend depth es e m k up)

-- ---- their table

-- whoever holds a node holds its intention above
pub table_rooted : (depth : ℕ) (es : List Entry) (t : HeldAt) → TableIs depth es t → (e : ℕ) (n : Node) → IsRooted t e n
table_rooted depth es t are e n = λ m asked k up. rw (are.modes e m, are.modes e k) (entries_intend depth es e m k up)

-- any two examiners' modes stand beside each other
pub table_apart : (depth : ℕ) (es : List Entry) (t : HeldAt) → TableIs depth es t → (e f : ℕ) → f ≢ e → (n : Node)
    → allows (table_mode t e n) (table_mode t f n) ≡ true
table_apart depth es t are e f other n = rw (are.modes e n, are.modes f n) (are.apart e f other n)

-- ---- room

-- who isn't idle has room where it holds something, and there alone
room_held : (e : ℕ) (o : Option Modes) → idle_in e o ≡ false → room_in e o ≡ is_some (mode_in e o)
room_held e None h = refl
room_held e (Some g) h = grind (arith, h)

-- where nobody is idle, whoever has room at a node has it above
pub table_roomy : (depth : ℕ) (es : List Entry) (t : Table) → TableIs depth es (on_all t) → IsLean depth None t → (e : ℕ) (n : Node)
    → IsRoomy (on_all t) e n
table_roomy depth es t are lean e n = λ m asked room k up.
    let held = λ (q : Node). room_held e (on_all t q) (false_from_ne_true (idle_in e (on_all t q)) (λ h. false≢true (lean.idle e q h))) in
    held k ∙ intends_some (table_mode (on_all t) e m) (table_mode (on_all t) e k) (table_rooted depth es (on_all t) are e n m asked k up)
    (sym (held m) ∙ room)
