-- The steps of an office's script, dealt to its examiners as transactions.
use Rattle.std.specs.Prelude.{◌≡◌, ◌==◌, ℕ, suc, Bool, true, false, cond, List, [], ◌∷◌, map}
use Rattle.title_chain.specs.declared.ask.Ask.{Ask}
use Rattle.title_trace.specs.{declared.call.Request.{Request}, Trace.{examiner_of}}
use Rattle.title_trace.specs.declared.call.Request.TheVariants as request
use Rattle.title_plan.specs.declared.line.Line.{Line}
use Rattle.title_plan.specs.declared.line.Line.TheVariants as line
use Rattle.title_turns.specs.{declared.script.Script.{Script}, Dealt.{Dealt, dealt_in}}

-- what an examiner's steps from some step on come to: the asks up to the end of the transaction that is open there, whether that is
-- committed, and the transactions after it
pub record Hand : Type 0 where
  pub asks : List Ask
  pub commits : Bool
  pub later : List Dealt

-- behind the last step there is nothing: a transaction that is open there counts as aborted
abbrev pub empty_hand : Hand
empty_hand = record { asks = []; commits = false; later = [] }

-- the hand from a request on, by the hand behind it
abbrev pub with_request : Request → Hand → Hand
with_request (request.Begin e) hand =
    record { asks = []; commits = false; later = record { asks = hand.asks; commits = hand.commits } ∷ hand.later }
with_request (request.Step e a) hand = record { asks = a ∷ hand.asks; commits = hand.commits; later = hand.later }
with_request (request.Commit e) hand = record { asks = []; commits = true; later = hand.later }
with_request (request.Abort e) hand = record { asks = []; commits = false; later = hand.later }

-- the same by a step row, for an examiner whose row it may be
abbrev pub with_line : ℕ → Line → Hand → Hand
with_line e (line.Asks q) hand = cond (examiner_of q == e) (with_request q hand) hand
with_line e _ hand = hand

-- the hand of an examiner from the first of these steps on
abbrev pub hand_of : ℕ → List Line → Hand
hand_of e [] = empty_hand
hand_of e (l ∷ rest) = with_line e l (hand_of e rest)

-- the hands of the examiners from a number on, in order, where a step row comes before what they have
abbrev pub with_line_each : ℕ → Line → List Hand → List Hand
with_line_each e l [] = []
with_line_each e l (hand ∷ hands) = with_line e l hand ∷ with_line_each (suc e) l hands

-- the same where several come before it
abbrev pub with_lines_each : ℕ → List Line → List Hand → List Hand
with_lines_each e [] hands = hands
with_lines_each e (l ∷ rest) hands = with_line_each e l (with_lines_each e rest hands)

-- the transactions that an examiner's steps ask for, in order
abbrev pub transactions_of : List Line → ℕ → List Dealt
transactions_of lines e = (hand_of e lines).later

-- what the scripts tell that the hands of the examiners from a number on come to
abbrev pub told_of : ℕ → List Hand → List (ℕ × List Dealt)
told_of e [] = []
told_of e (hand ∷ hands) = (e, hand.later) ∷ told_of (suc e) hands

-- this script is what the steps ask an examiner for
abbrev pub IsDealt : List Line → ℕ → Script → Type 0
IsDealt lines e script = (script.examiner ≡ e) × (map dealt_in script.transactions.items ≡ transactions_of lines e)

-- these scripts are those of the examiners from a number on, in order
abbrev pub AreDealt : List Line → ℕ → List Script → Type 0
AreDealt lines e [] = Unit {0}
AreDealt lines e (script ∷ rest) = IsDealt lines e script × AreDealt lines (suc e) rest
