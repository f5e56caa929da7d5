-- Each transaction that was dealt is one that a step begins.
use Rattle.std.proofs.Common.{◌≡◌, ◌∙◌, ◌==◌, ℕ, suc, Bool, true, false, cond, refl, ap, List, [], ◌∷◌, length, filter}
use Rattle.title_dealing.specs.Dealing.{Hand, hand_of, transactions_of, with_request}
use Rattle.title_day.specs.OfficeReports.{is_begin_of}
use Rattle.title_plan.specs.declared.line.Line.{Line}
use Rattle.title_plan.specs.declared.line.Line.TheVariants as line
use Rattle.title_trace.specs.declared.call.Request.TheVariants as request

-- what an end or a step of any examiner leaves of the transactions behind it
later_kept : (mine : Bool) (x y : Hand) → x.later ≡ y.later → (cond mine x y).later ≡ y.later
later_kept true x y h = h
later_kept false x y h = refl

begun : (mine : Bool) (rest : List Line) (l : Line) (test : Line → Bool) (x y : Hand) → length x.later ≡ suc (length y.later) →
    length y.later ≡ length (filter test rest) → test l ≡ mine → length (cond mine x y).later ≡ length (filter test (l ∷ rest))
begun true rest l test x y more h is = rw is (more ∙ ap suc h)
begun false rest l test x y more h is = rw is h

-- an examiner has as many transactions as its steps begin
pub as_many_as_begun : (lines : List Line) (e : ℕ) → length (transactions_of lines e) ≡ length (filter (is_begin_of e) lines)
as_many_as_begun [] e = refl
as_many_as_begun (line.Asks (request.Begin f) ∷ rest) e =
    begun (f == e) rest (line.Asks (request.Begin f)) (is_begin_of e) (with_request (request.Begin f) (hand_of e rest)) (hand_of e rest)
    refl (as_many_as_begun rest e) refl
as_many_as_begun (line.Asks (request.Step f a) ∷ rest) e =
    ap length (later_kept (f == e) (with_request (request.Step f a) (hand_of e rest)) (hand_of e rest) refl)
    ∙ as_many_as_begun rest e
as_many_as_begun (line.Asks (request.Commit f) ∷ rest) e =
    ap length (later_kept (f == e) (with_request (request.Commit f) (hand_of e rest)) (hand_of e rest) refl)
    ∙ as_many_as_begun rest e
as_many_as_begun (line.Asks (request.Abort f) ∷ rest) e =
    ap length (later_kept (f == e) (with_request (request.Abort f) (hand_of e rest)) (hand_of e rest) refl)
    ∙ as_many_as_begun rest e
as_many_as_begun (line.Alone f a ∷ rest) e = as_many_as_begun rest e
as_many_as_begun (line.Described f why ∷ rest) e = as_many_as_begun rest e
