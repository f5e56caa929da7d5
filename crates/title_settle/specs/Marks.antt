-- What a walk over outcomes leaves: the least place that no record has, and a mark for each record.
use Rattle.std.specs.Prelude.{◌≡◌, ◌≢◌, ◌≤◌, ◌<◌, ℕ, suc, List, [], ◌∷◌, length, All, Option, Some, None, slice_get, cond, nat_le, ◌&&◌}
use Rattle.std.specs.List.{slice_index_or}
use Rattle.title_chain.specs.declared.record.Record.{Record}
use Rattle.title_settle.specs.declared.{marks.Mark.{Mark}, outcome.{Outcome.{Outcome}, Unsettled.{Unsettled}}}
use Rattle.title_settle.specs.Settling.{outcomes_at, IsPlace, AreKnown}
use Rattle.title_settle.specs.declared.marks.Mark.TheVariants as mark
use Rattle.title_settle.specs.declared.outcome.Unsettled.TheVariants as unsettled

-- no outcome has a place that no record has; or this is the least such place
abbrev pub IsLeastUnknown : List Record → List Outcome → Option ℕ → Type 0
IsLeastUnknown records outcomes None = AreKnown records outcomes
IsLeastUnknown records outcomes (Some place) =
    (outcomes_at outcomes place ≢ []) × (IsPlace records place → ⊥)
    × All (λ o. (IsPlace records o.place → ⊥) → place ≤ o.place) outcomes

-- the lesser of a place, if there is one, and another
abbrev pub lesser : Option ℕ → ℕ → Option ℕ
lesser None place = Some place
lesser (Some before) place = cond (nat_le before place) (Some before) (Some place)

-- the least unknown place so far and a further place: the lesser of both, if that place is none of so many
abbrev pub least_with : Option ℕ → ℕ → ℕ → Option ℕ
least_with least places place = cond (nat_le 1 place && nat_le place places) least (lesser least place)

-- the mark of a place once one more outcome has it, which stands at this index
abbrev pub mark_after : Mark → ℕ → Mark
mark_after mark.Unseen index = mark.Once index
mark_after (mark.Once first) index = mark.Several
mark_after mark.Several index = mark.Several

-- the mark tells which outcomes with this place were seen: none, the one at an index, or several
abbrev pub IsMark : List Outcome → ℕ → List Outcome → Mark → Type 0
IsMark outcomes place seen mark.Unseen = seen ≡ []
IsMark outcomes place seen (mark.Once index) =
    (o : Outcome) × (slice_get outcomes index ≡ Some o) × (o.place ≡ place) × (seen ≡ o ∷ [])
IsMark outcomes place seen mark.Several = 2 ≤ length seen

-- there is a mark for each of so many places, which tells which of these outcomes with the place were seen
abbrev pub AreMarks : ℕ → List Outcome → List Outcome → List Mark → Type 0
AreMarks places outcomes seen marks =
    (length marks ≡ places)
    × ((k : ℕ) → k < places → IsMark outcomes (suc k) (outcomes_at seen (suc k)) (slice_index_or marks k mark.Unseen))

-- what is wrong at a place whose record this is: no outcome has it, several have it, or one with another record
abbrev pub IsWrongAt : List Outcome → ℕ → Record → Unsettled → Type 0
IsWrongAt outcomes place r (unsettled.Missing p) = (p ≡ place) × (outcomes_at outcomes place ≡ [])
IsWrongAt outcomes place r (unsettled.Doubled p) = (p ≡ place) × (2 ≤ length (outcomes_at outcomes place))
IsWrongAt outcomes place r (unsettled.Different p) =
    (p ≡ place) × ((o : Outcome) × (outcomes_at outcomes place ≡ o ∷ []) × (o.rec ≢ r))
IsWrongAt outcomes place r (unsettled.Open e) = ⊥
IsWrongAt outcomes place r (unsettled.Unknown p) = ⊥
IsWrongAt outcomes place r unsettled.Memory = ⊥
