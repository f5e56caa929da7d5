-- Steps dealt to hands, one after another.
use Rattle.std.proofs.Common.{◌≡◌, ◌∙◌, ◌<◌, ◌+◌, ◌-◌, ◌==◌, ℕ, zero, suc, refl, sym, ap, subst, arith}
use Rattle.std.proofs.{Common.{List, [], ◌∷◌, ◌++◌, length, set, get_or, replicate, map}, lemmas.List.{length-replicate}}
use Rattle.std.proofs.lemmas.Bool.{cond-false, cond-true, eq-eqb, ne_eqb}
use Rattle.title_dealing.specs.{Turns.{IsAskedBy}, Dealing.{AreDealt, told_of}}
use Rattle.title_dealing.specs.Dealing.{Hand, empty_hand, hand_of, with_line, with_line_each, with_lines_each, with_request}
use Rattle.title_plan.specs.declared.line.Line.{Line}
use Rattle.title_plan.specs.declared.line.Line.TheVariants as line
use Rattle.title_trace.specs.{declared.call.Request.{Request}, Trace.{examiner_of}}
use Rattle.title_turns.specs.{declared.script.Script.{Script}, Dealt.{told_by}}

-- the last step comes before what the hands have
last_dealt : (e : ℕ) (lines : List Line) (l : Line) (hands : List Hand) →
    with_lines_each e (lines ++ l ∷ []) hands ≡ with_lines_each e lines (with_line_each e l hands)
last_dealt e [] l hands = refl
last_dealt e (first ∷ lines) l hands = ap (λ (hs : List Hand). with_line_each e first hs) (last_dealt e lines l hands)

-- a step that is dealt from the back leaves the same to come
pub rest_dealt : (before left : List Line) (l : Line) (old new whole : List Hand) → before ≡ left ++ l ∷ [] →
    new ≡ with_line_each 1 l old → with_lines_each 1 before old ≡ whole → with_lines_each 1 left new ≡ whole
rest_dealt before left l old new whole taken then all =
    ap (with_lines_each 1 left) then ∙ sym (last_dealt 1 left l old)
    ∙ ap (λ (lines : List Line). with_lines_each 1 lines old) (sym taken) ∙ all

-- there are as many hands as before
pub as_many : (e : ℕ) (l : Line) (hands : List Hand) → length (with_line_each e l hands) ≡ length hands
as_many e l [] = refl
as_many e l (hand ∷ hands) = ap suc (as_many (suc e) l hands)

-- each hand is that of its examiner
abbrev AreHands : List Line → ℕ → List Hand → Type 0
AreHands lines e [] = Unit {0}
AreHands lines e (hand ∷ hands) = (hand ≡ hand_of e lines) × AreHands lines (suc e) hands

none_yet : (n e : ℕ) → AreHands [] e (replicate n empty_hand)
none_yet zero e = tt
none_yet (suc n) e = (refl, none_yet n (suc e))

one_more : (lines : List Line) (l : Line) (e : ℕ) (hands : List Hand) → AreHands lines e hands →
    AreHands (l ∷ lines) e (with_line_each e l hands)
one_more lines l e [] h = tt
one_more lines l e (hand ∷ hands) h = (ap (λ (x : Hand). with_line e l x) h.0, one_more lines l (suc e) hands h.1)

all_dealt : (lines : List Line) (n e : ℕ) → AreHands lines e (with_lines_each e lines (replicate n empty_hand))
all_dealt [] n e = none_yet n e
all_dealt (l ∷ lines) n e = one_more lines l e (with_lines_each e lines (replicate n empty_hand)) (all_dealt lines n e)

-- a request that is of none of these examiners changes no hand of theirs
others_kept : (q : Request) (e : ℕ) (hands : List Hand) → examiner_of q < e → with_line_each e (line.Asks q) hands ≡ hands
others_kept q e [] h = refl
others_kept q e (hand ∷ hands) h =
    let other = ne_eqb (examiner_of q) e (λ s. omega (arith, h, s)) in
    rw (cond-false (examiner_of q == e) (with_request q hand) hand other, others_kept q (suc e) hands (omega (arith, h))) refl

dealt_at : (q : Request) (e i : ℕ) (hands : List Hand) (d : Hand) → examiner_of q ≡ e + i → i < length hands →
    set hands i (with_request q (get_or hands i d)) ≡ with_line_each e (line.Asks q) hands
dealt_at q e i [] d h inside = absurd (omega (arith, inside))
dealt_at q e zero (hand ∷ hands) d h inside =
    let own = eq-eqb (examiner_of q) e (omega (arith, h)) in
    rw (cond-true (examiner_of q == e) (with_request q hand) hand own, others_kept q (suc e) hands (omega (arith, h))) refl
dealt_at q e (suc i) (hand ∷ hands) d h inside =
    let other = ne_eqb (examiner_of q) e (λ s. omega (arith, h, s)) in
    rw (cond-false (examiner_of q == e) (with_request q hand) hand other)
    (ap (λ (hs : List Hand). hand ∷ hs) (dealt_at q (suc e) i hands d (omega (arith, h)) (omega (arith, inside))))

-- the hand at its examiner's index takes a request
pub request_dealt : (q : Request) (l : Line) (hands : List Hand) (index : ℕ) (old new : Hand) → l ≡ line.Asks q →
    IsAskedBy (length hands) l → index ≡ examiner_of q - 1 → old ≡ get_or hands index old → new ≡ with_request q old →
    set hands index new ≡ with_line_each 1 l hands
request_dealt q l hands index old new is asked at was then =
    let own = subst (IsAskedBy (length hands)) is asked in
    ap (λ (h : Hand). set hands index h) (then ∙ ap (with_request q) was)
    ∙ dealt_at q 1 index hands old (omega (arith, own.0, at)) (omega (arith, own.0, own.1, at))
    ∙ ap (λ (x : Line). with_line_each 1 x hands) (sym is)

-- scripts that tell what hands come to are those of the steps
hands_told : (lines : List Line) (e : ℕ) (hands : List Hand) (scripts : List Script) → AreHands lines e hands →
    map told_by scripts ≡ told_of e hands → AreDealt lines e scripts × (length scripts ≡ length hands)
hands_told lines e [] [] h told = (tt, refl)
hands_told lines e [] (s ∷ scripts) h told = absurd cc
hands_told lines e (hand ∷ hands) [] h told = absurd cc
hands_told lines e (hand ∷ hands) (s ∷ scripts) h told =
    let first : told_by s ≡ (e, hand.later) = cc in
    let others : map told_by scripts ≡ told_of (suc e) hands = cc in
    let rest = hands_told lines (suc e) hands scripts h.1 others in
    (((ap (λ p. p.0) first, ap (λ p. p.1) first ∙ ap (λ (x : Hand). x.later) h.0), rest.0), ap suc rest.1)

-- scripts that tell what hands come to that had no step before these were dealt
pub all_told : (lines : List Line) (n : ℕ) (empty hands : List Hand) (scripts : List Script) → empty ≡ replicate n empty_hand →
    hands ≡ with_lines_each 1 lines empty → length hands ≡ length empty → map told_by scripts ≡ told_of 1 hands →
    AreDealt lines 1 scripts × (length scripts ≡ n)
all_told lines n empty hands scripts none all many told =
    let is = all ∙ ap (with_lines_each 1 lines) none in
    let dealt = hands_told lines 1 hands scripts (subst (AreHands lines 1) (sym is) (all_dealt lines n 1)) told in
    (dealt.0, dealt.1 ∙ many ∙ ap length none ∙ length-replicate n empty_hand)
