-- What a reader of a whole block takes from where a row begins, and the fields of the row.
use Rattle.std.proofs.Common.{◌≡◌, ◌∙◌, refl, sym, ap, ℕ, zero, suc, List, [], ◌∷◌, ◌++◌, Bool, true, false, Option, Some, None, length}
use Rattle.std.{proofs.Common.{Bor, subst, ◌⊎◌, inl, inr, add-one}, specs.{Prelude.{◌==◌, ◌||◌}, List.{list_any}}}
use Rattle.std.proofs.lemmas.{Bool.{cases_Bool, ne_eqb, or_left, or_right}, List.Folds.{list_any-append}}
use Rattle.csv.specs.Machine.{Read, step, in_field, is_end, next_record, fields_after, field_after, ends_at_end}
use Rattle.csv.{proofs.ReadFacts.{rows-end, rows-more}, specs.declared.{parser.{Action.{Action}, State.{State}}, reader.Reader.{Reader}}}
use Rattle.csv.specs.Reading.{default_config, records, records_from, took_first, Reached, ReadRecord}
use Rattle.csv.specs.declared.parser.Action.TheVariants as act
use Rattle.csv.specs.declared.parser.State.TheVariants as st
use Rattle.title_journal.specs.Blocks.{line_feed}
use Rattle.title_daybook.specs.{Readers.{IsAt, Took}, Lines.{closed, fields_in, has_line_feed, has_return, only}}

-- ---- within a row

-- a reader is within a record
abbrev pub IsInside : State → Type 0
IsInside st.StartField = Unit {0}
IsInside st.InField = Unit {0}
IsInside st.InQuoted = Unit {0}
IsInside st.AfterQuote = Unit {0}
IsInside _ = ⊥

-- a byte that ends no line leaves it there
abbrev GoesOn : State → ℕ → Type 0
GoesOn s c = (is_end (step default_config s c).1 ≡ false) × IsInside (step default_config s c).0

-- a byte that ends no line
abbrev Inner : ℕ → Type 0
Inner c = ((c == 13) ≡ false) × ((c == 10) ≡ false)

within_field : (c : ℕ) → Inner c → (is_end (in_field default_config c).1 ≡ false) × IsInside (in_field default_config c).0
within_field c h = elim (cases_Bool (c == 44)) [
  | inl e ↦ rw e (refl, tt)
  | inr e ↦ rw (e, h.0, h.1) (refl, tt)
]

goes_on : (s : State) (c : ℕ) → IsInside s → Inner c → GoesOn s c
goes_on st.StartRecord c inside h = absurd inside
goes_on st.InEscape c inside h = absurd inside
goes_on st.InComment c inside h = absurd inside
goes_on st.AfterCr c inside h = absurd inside
goes_on st.StartField c inside h = elim (cases_Bool (c == 34)) [
  | inl e ↦ rw e (refl, tt)
  | inr e ↦ rw e (within_field c h)
]
goes_on st.InField c inside h = within_field c h
goes_on st.InQuoted c inside h = elim (cases_Bool (c == 34)) [
  | inl e ↦ rw e (refl, tt)
  | inr e ↦ rw e (refl, tt)
]
goes_on st.AfterQuote c inside h = elim (cases_Bool (c == 34)) [
  | inl e ↦ rw e (refl, tt)
  | inr e ↦ rw e (within_field c h)
]

starts : (c : ℕ) → Inner c → GoesOn st.StartRecord c
starts c h = rw (h.0, h.1) (elim (cases_Bool (c == 34)) [
  | inl e ↦ rw e (refl, tt)
  | inr e ↦ rw e (elim (cases_Bool (c == 44)) [
    | inl d ↦ rw d (refl, tt)
    | inr d ↦ rw d (refl, tt)
  ])
])

-- no field has a line feed
abbrev pub IsClean : List (List ℕ) → List ℕ → Type 0
IsClean fields field = (list_any has_line_feed fields ≡ false) × (has_line_feed field ≡ false)

clean_pushed : (fields : List (List ℕ)) (field : List ℕ) → IsClean fields field → list_any has_line_feed (fields ++ field ∷ []) ≡ false
clean_pushed fields field h = rw (list_any-append, h.0, h.1) refl

clean_stays : (a : Action) (c : ℕ) (fields : List (List ℕ)) (field : List ℕ) → (c == 10) ≡ false → IsClean fields field
    → IsClean (fields_after a fields field) (field_after a c field)
clean_stays act.Skip c fields field inner h = h
clean_stays act.Copy c fields field inner h = (h.0, rw (list_any-append, h.1, inner) refl)
clean_stays act.EndField c fields field inner h = (clean_pushed fields field h, refl)
clean_stays act.EndRecord c fields field inner h = (clean_pushed fields field h, refl)

-- the bytes of a line lead from a state into this one
pub record Led (s : State) (fields : List (List ℕ)) (field line : List ℕ) : Type 0 where
  pub state : State
  pub fields2 : List (List ℕ)
  pub field2 : List ℕ
  pub inside : IsInside state
  pub clean : IsClean fields2 field2
  pub reads : (rest : List ℕ) → next_record default_config s fields field (line ++ rest)
      ≡ next_record default_config state fields2 field2 rest

-- the bytes of a line end none
abbrev pub IsLine : List ℕ → Type 0
IsLine line = (list_any (λ b. b == 13) line ≡ false) × (list_any (λ b. b == 10) line ≡ false)

or_parts : (x y : Bool) → (x || y) ≡ false → (x ≡ false) × (y ≡ false)
or_parts true y e = cc e
or_parts false y e = (refl, e)

first_inner : (c : ℕ) (line : List ℕ) → IsLine (c ∷ line) → Inner c × IsLine line
first_inner c line h =
    let r = or_parts (c == 13) (list_any (λ b. b == 13) line) h.0 in
    let n = or_parts (c == 10) (list_any (λ b. b == 10) line) h.1 in ((r.0, n.0), (r.1, n.1))

led : (s : State) (fields : List (List ℕ)) (field line : List ℕ) → IsInside s → IsClean fields field → IsLine line → Led s fields field line
unfolding next_record
led s fields field [] inside clean h =
    record { state = s; fields2 = fields; field2 = field; inside = inside; clean = clean; reads = λ rest. refl }
led s fields field (c ∷ line) inside clean h =
    let parts = first_inner c line h in
    let goes = goes_on s c inside parts.0 in
    let more = led (step default_config s c).0 (fields_after (step default_config s c).1 fields field)
    (field_after (step default_config s c).1 c field) line goes.1 (clean_stays (step default_config s c).1 c fields field parts.0.1
    clean) parts.1 in
    record {
      state = more.state;
      fields2 = more.fields2;
      field2 = more.field2;
      inside = more.inside;
      clean = more.clean;
      reads = λ rest. rw goes.0 (more.reads rest);
    }

led_row : (c : ℕ) (line : List ℕ) → IsLine (c ∷ line) → Led st.StartRecord [] [] (c ∷ line)
unfolding next_record
led_row c line h =
    let parts = first_inner c line h in
    let goes = starts c parts.0 in
    let more = led (step default_config st.StartRecord c).0 (fields_after (step default_config st.StartRecord c).1 [] [])
    (field_after (step default_config st.StartRecord c).1 c []) line goes.1
    (clean_stays (step default_config st.StartRecord c).1 c [] [] parts.0.1 (refl, refl)) parts.1 in
    record {
      state = more.state;
      fields2 = more.fields2;
      field2 = more.field2;
      inside = more.inside;
      clean = more.clean;
      reads = λ rest. rw goes.0 (more.reads rest);
    }

-- ---- a field with a line feed stays one

abbrev Spoilt : List (List ℕ) → List ℕ → Type 0
Spoilt fields field = (list_any has_line_feed fields || has_line_feed field) ≡ true

spoilt_pushed : (fields : List (List ℕ)) (field : List ℕ) → Spoilt fields field → list_any has_line_feed (fields ++ field ∷ []) ≡ true
spoilt_pushed fields field h = rw list_any-append (pushed (list_any has_line_feed fields) (has_line_feed field) h)
  where
    pushed : (x y : Bool) → (x || y) ≡ true → (x || (y || false)) ≡ true
    pushed true y e = refl
    pushed false true e = refl
    pushed false false e = e

still_has : (c : ℕ) (field : List ℕ) → has_line_feed field ≡ true → has_line_feed (field ++ c ∷ []) ≡ true
still_has c field h = rw list_any-append (or_left (has_line_feed field) (has_line_feed (c ∷ [])) h)

now_has : (field : List ℕ) → has_line_feed (field ++ line_feed ∷ []) ≡ true
now_has field = rw list_any-append (or_right (has_line_feed field) (has_line_feed (line_feed ∷ [])) refl)

spoilt_stays : (a : Action) (c : ℕ) (fields : List (List ℕ)) (field : List ℕ) → Spoilt fields field
    → Spoilt (fields_after a fields field) (field_after a c field)
spoilt_stays act.Skip c fields field h = h
spoilt_stays act.Copy c fields field h = elim (cases_Bool (list_any has_line_feed fields)) [
  | inl e ↦ or_left (list_any has_line_feed fields) (has_line_feed (field ++ c ∷ [])) e
  | inr e ↦ or_right (list_any has_line_feed fields) (has_line_feed (field ++ c ∷ [])) (still_has c field (rw e at h))
]
spoilt_stays act.EndField c fields field h = or_left _ _ (spoilt_pushed fields field h)
spoilt_stays act.EndRecord c fields field h = or_left _ _ (spoilt_pushed fields field h)

ended_spoilt : (a : Action) (fields : List (List ℕ)) (field : List ℕ) → is_end a ≡ true → Spoilt fields field
    → list_any has_line_feed (fields_after a fields field) ≡ true
ended_spoilt act.Skip fields field e h = cc e
ended_spoilt act.Copy fields field e h = cc e
ended_spoilt act.EndField fields field e h = cc e
ended_spoilt act.EndRecord fields field e h = spoilt_pushed fields field h

spoilt_record : (s : State) (fields : List (List ℕ)) (field xs : List ℕ) (p : Read)
    → next_record default_config s fields field xs ≡ Some p → Spoilt fields field → list_any has_line_feed p.0 ≡ true
unfolding next_record
spoilt_record s fields field [] p e h = elim (cases_Bool (ends_at_end s)) [
  | inl ends ↦ let same : (fields ++ (field ∷ []), st.StartRecord, []) ≡ p = cc (rw ends at e) in rw (← same) (spoilt_pushed fields field h)
  | inr goes ↦ absurd (let none : None ≡ Some p = rw goes at e in cc none)
]
spoilt_record s fields field (c ∷ xs) p e h = elim (cases_Bool (is_end (step default_config s c).1)) [
  | inl ends ↦
      let same : (fields_after (step default_config s c).1 fields field, (step default_config s c).0, xs) ≡ p = cc (rw ends at e) in
      rw (← same) (ended_spoilt (step default_config s c).1 fields field ends h)
  | inr goes ↦ spoilt_record (step default_config s c).0 (fields_after (step default_config s c).1 fields field)
      (field_after (step default_config s c).1 c field) xs p (rw goes at e) (spoilt_stays (step default_config s c).1 c fields field h)
]

-- ---- a row with its line feed

nothing_more : (n : ℕ) → records_from default_config n st.StartRecord [] ≡ []
unfolding records_from next_record
nothing_more zero = refl
nothing_more (suc n) = refl

only_record : (xs : List ℕ) (fields : List (List ℕ)) → next_record default_config st.StartRecord [] [] xs
    ≡ Some (fields, st.StartRecord, [])
    → records default_config xs ≡ fields ∷ []
unfolding records_from
only_record xs fields e = rw (add-one (length xs)) (rw e (ap (λ (rows : List (List (List ℕ))). fields ∷ rows) (nothing_more (length xs))))

-- the fields of a row, by where its bytes lead
row_fields : (line : List ℕ) → has_return line ≡ false → (l : Led st.StartRecord [] [] line)
    → (fields : List (List ℕ)) → next_record default_config l.state l.fields2 l.field2 (line_feed ∷ []) ≡ Some (fields, st.StartRecord, [])
    → fields_in line ≡ closed fields
row_fields line own l fields e = rw own (ap only (only_record (line ++ line_feed ∷ []) fields (l.reads (line_feed ∷ []) ∙ e)))

-- what a reader takes from where a row begins: the row, or a record that goes on over its end
pub data Taken (line rest : List ℕ) : Type 0 where
  whole : (fields : List (List ℕ)) → next_record default_config st.StartRecord [] [] (line ++ line_feed ∷ rest)
      ≡ Some (fields, st.StartRecord, rest) → fields_in line ≡ closed fields → Taken line rest
  over : ((p : Read) → next_record default_config st.StartRecord [] [] (line ++ line_feed ∷ rest) ≡ Some p
      → list_any has_line_feed p.0 ≡ true) → fields_in line ≡ None → Taken line rest

-- a line feed ends the record of a reader that is in no quotes
ended : (s : State) (fields : List (List ℕ)) (field rest : List ℕ) → IsInside s → (s ≡ st.InQuoted → ⊥)
    → next_record default_config s fields field (line_feed ∷ rest) ≡ Some (fields ++ field ∷ [], st.StartRecord, rest)
unfolding next_record
ended st.StartRecord fields field rest inside open_quote = absurd inside
ended st.InEscape fields field rest inside open_quote = absurd inside
ended st.InComment fields field rest inside open_quote = absurd inside
ended st.AfterCr fields field rest inside open_quote = absurd inside
ended st.InQuoted fields field rest inside open_quote = absurd (open_quote refl)
ended st.StartField fields field rest inside open_quote = refl
ended st.InField fields field rest inside open_quote = refl
ended st.AfterQuote fields field rest inside open_quote = refl

-- and in quotes it belongs to the field
quoted : (fields : List (List ℕ)) (field rest : List ℕ) → next_record default_config st.InQuoted fields field (line_feed ∷ rest)
    ≡ next_record default_config st.InQuoted fields (field ++ line_feed ∷ []) rest
unfolding next_record
quoted fields field rest = refl

in_quoted : (s : State) (fields : List (List ℕ)) (field rest : List ℕ) → s ≡ st.InQuoted
    → next_record default_config s fields field (line_feed ∷ rest)
    ≡ next_record default_config st.InQuoted fields (field ++ line_feed ∷ []) rest
in_quoted s fields field rest is = rw is (quoted fields field rest)

quoted_end : (fields : List (List ℕ)) (field : List ℕ) → next_record default_config st.InQuoted fields field []
    ≡ Some (fields ++ field ∷ [], st.StartRecord, [])
unfolding next_record
quoted_end fields field = refl

closed_none : (fields : List (List ℕ)) → list_any has_line_feed fields ≡ true → closed fields ≡ None
closed_none fields e = rw e refl

whole_row : (line rest : List ℕ) → has_return line ≡ false → (l : Led st.StartRecord [] [] line) → (l.state ≡ st.InQuoted → ⊥)
    → Taken line rest
whole_row line rest own l out =
    let fields = l.fields2 ++ l.field2 ∷ [] in
    whole fields (l.reads (line_feed ∷ rest) ∙ ended l.state l.fields2 l.field2 rest l.inside out)
    (row_fields line own l fields (ended l.state l.fields2 l.field2 [] l.inside out))

row_over : (line rest : List ℕ) → has_return line ≡ false → (l : Led st.StartRecord [] [] line) → l.state ≡ st.InQuoted → Taken line rest
row_over line rest own l is =
    let fields = l.fields2 ++ (l.field2 ++ line_feed ∷ []) ∷ [] in
    let spoilt : Spoilt l.fields2 (l.field2 ++ line_feed ∷ []) =
    or_right (list_any has_line_feed l.fields2) (has_line_feed (l.field2 ++ line_feed ∷ [])) (now_has l.field2) in
    over (λ p e. spoilt_record st.InQuoted l.fields2 (l.field2 ++ line_feed ∷ []) rest p
    (sym (l.reads (line_feed ∷ rest) ∙ in_quoted l.state l.fields2 l.field2 rest is) ∙ e) spoilt)
    (row_fields line own l fields (in_quoted l.state l.fields2 l.field2 [] is ∙ quoted_end l.fields2 (l.field2 ++ line_feed ∷ []))
    ∙ closed_none fields (spoilt_pushed l.fields2 (l.field2 ++ line_feed ∷ []) spoilt))

in_quotes : (s : State) → (s ≡ st.InQuoted) ⊎ (s ≡ st.InQuoted → ⊥)
in_quotes st.StartRecord = inr (λ e. cc e)
in_quotes st.InEscape = inr (λ e. cc e)
in_quotes st.InComment = inr (λ e. cc e)
in_quotes st.AfterCr = inr (λ e. cc e)
in_quotes st.InQuoted = inl refl
in_quotes st.StartField = inr (λ e. cc e)
in_quotes st.InField = inr (λ e. cc e)
in_quotes st.AfterQuote = inr (λ e. cc e)

taken_by : (line rest : List ℕ) → has_return line ≡ false → Led st.StartRecord [] [] line → Taken line rest
taken_by line rest own l = elim (in_quotes l.state) [
  | inl is ↦ row_over line rest own l is
  | inr out ↦ whole_row line rest own l out
]

-- a row that isn't blank
pub taken : (c : ℕ) (line rest : List ℕ) → has_return (c ∷ line) ≡ false → has_line_feed (c ∷ line) ≡ false → Taken (c ∷ line) rest
taken c line rest own row =
    taken_by (c ∷ line) rest own (led_row c line (own, row))

-- a blank row has no fields
pub blank : fields_in [] ≡ None
unfolding records_from next_record
blank = refl

-- ---- what a reader gives of a row

some_row : (line rest : List ℕ) → (line ≡ [] → ⊥) → has_return line ≡ false → has_line_feed line ≡ false → Taken line rest
some_row [] rest some own row = absurd (some refl)
some_row (c ∷ line) rest some own row = taken c line rest own row

module _ (line rest : List ℕ) (fields : List (List ℕ)) (reader : Reader (Bor (List ℕ))) where
  none_by : Taken line rest → next_record default_config st.StartRecord [] [] (line ++ line_feed ∷ rest) ≡ None → fields_in line ≡ None
  none_by (whole given_fields e is) none = absurd (let no_record : None ≡ Some (given_fields, st.StartRecord, rest) = sym none
      ∙ e in cc no_record)
  none_by (over spoilt is) none = is

  spoilt_by : Taken line rest → Took (line ++ line_feed ∷ rest) fields reader true → list_any has_line_feed fields ≡ true
      → fields_in line ≡ None
  spoilt_by (whole given_fields e is) took spoilt =
      let same : (given_fields, st.StartRecord, rest) ≡ took.0 = cc (sym e ∙ took.1) in
      let are : fields ≡ given_fields = took.2 ∙ ap (λ (p : Read). p.0) (sym same) in
      is ∙ closed_none given_fields (subst (λ (f : List (List ℕ)). list_any has_line_feed f ≡ true) are spoilt)
  spoilt_by (over spoilt is) took _ = is

  whole_by : Taken line rest → Took (line ++ line_feed ∷ rest) fields reader true → list_any has_line_feed fields ≡ false
      → (fields_in line ≡ Some fields) × IsAt reader rest
  whole_by (whole given_fields e is) took clean =
      let same : (given_fields, st.StartRecord, rest) ≡ took.0 = cc (sym e ∙ took.1) in
      let are : fields ≡ given_fields = took.2 ∙ ap (λ (p : Read). p.0) (sym same) in
      let own : list_any has_line_feed given_fields ≡ false = subst (λ (f : List (List ℕ)). list_any has_line_feed f ≡ false) are clean in (
        is ∙ rw own (ap Some (sym are)),
        subst (IsAt reader) (ap (λ (p : Read). p.2) (sym same)) (took.3 (ap (λ (p : Read). p.1) (sym same))),
      )
  whole_by (over spoilt is) took clean =
      absurd (let both : true ≡ false = sym (spoilt took.0 took.1) ∙ ap (list_any has_line_feed) (sym took.2) ∙ clean in cc both)

  module _ (found : Bool) (some : line ≡ [] → ⊥) (own : has_return line ≡ false) (row : has_line_feed line ≡ false)
      (took : Took (line ++ line_feed ∷ rest) fields reader found) where
    pub no_record : found ≡ false → fields_in line ≡ None
    no_record is = none_by (some_row line rest some own row) (subst (Took (line ++ line_feed ∷ rest) fields reader) is took)

    pub over_record : found ≡ true → list_any has_line_feed fields ≡ true → fields_in line ≡ None
    over_record is = spoilt_by (some_row line rest some own row) (subst (Took (line ++ line_feed ∷ rest) fields reader) is took)

    pub one_record : found ≡ true → list_any has_line_feed fields ≡ false → (fields_in line ≡ Some fields) × IsAt reader rest
    one_record is = whole_by (some_row line rest some own row) (subst (Took (line ++ line_feed ∷ rest) fields reader) is took)

-- a row with a carriage return has no fields
pub returned : (line : List ℕ) → has_return line ≡ true → fields_in line ≡ None
returned line e = rw e refl

-- a row of no bytes
pub not_blank : (line : List ℕ) → (length line == 0) ≡ false → line ≡ [] → ⊥
not_blank [] e is = cc e
not_blank (c ∷ line) e is = cc is

pub blank_row : (line : List ℕ) → (length line == 0) ≡ true → fields_in line ≡ None
blank_row [] e = blank
blank_row (c ∷ line) e = absurd (let never : true ≡ false = sym e ∙ ne_eqb (length (c ∷ line)) 0 (λ z. cc z) in cc never)

-- ---- a row that was written

-- the bytes that a read leaves
abbrev left_by : Option Read → List ℕ
left_by None = []
left_by (Some p) = p.2

over_end : (s : State) (fields given_fields : List (List ℕ)) (field : List ℕ) → s ≡ st.InQuoted
    → next_record default_config s fields field (line_feed ∷ 65 ∷ []) ≡ Some (given_fields, st.StartRecord, 65 ∷ []) → ⊥
unfolding next_record
over_end s fields given_fields field is e = let left : ◌≡◌ {A = List ℕ} [] (65 ∷ []) = ap left_by (rw is at e) in cc left

written : (line : List ℕ) (fields : List (List ℕ)) → has_return line ≡ false
    → ((rest : List ℕ) → next_record default_config st.StartRecord [] [] (line ++ line_feed ∷ rest) ≡ Some (fields, st.StartRecord, rest))
    → Led st.StartRecord [] [] line → fields_in line ≡ Some fields
written line fields own all l = elim (in_quotes l.state) [
  | inl is ↦ absurd (over_end l.state l.fields2 fields l.field2 is (sym (l.reads (line_feed ∷ 65 ∷ [])) ∙ all (65 ∷ [])))
  | inr out ↦
      let ends = ended l.state l.fields2 l.field2 [] l.inside out in
      let same : (l.fields2 ++ l.field2 ∷ [], st.StartRecord, []) ≡ (fields, st.StartRecord, []) =
      cc (sym (l.reads (line_feed ∷ []) ∙ ends) ∙ all []) in
      row_fields line own l (l.fields2 ++ l.field2 ∷ []) ends
      ∙ rw (clean_pushed l.fields2 l.field2 l.clean) (ap (λ (p : Read). Some p.0) same)
]

pub fields_by : (line : List ℕ) (fields : List (List ℕ)) → has_return line ≡ false → has_line_feed line ≡ false
    → ((rest : List ℕ) → next_record default_config st.StartRecord [] [] (line ++ line_feed ∷ rest) ≡ Some (fields, st.StartRecord, rest))
    → fields_in line ≡ Some fields
unfolding next_record
fields_by [] fields own row all = absurd (let none : None ≡ Some (fields, st.StartRecord, []) = all [] in cc none)
fields_by (c ∷ line) fields own row all = written (c ∷ line) fields own all (led_row c line (own, row))

-- ---- what a reader takes

pub took_of : (old new : Reader (Bor (List ℕ))) (fields : List (List ℕ)) (found : Bool) (bytes : List ℕ) → IsAt old bytes
    → took_first new ≡ true → ReadRecord (λ s. Some s.now) old new found fields → Took bytes fields new found
unfolding Reached
took_of old new fields true bytes at first read =
    let m = rows-more (λ (s : Bor (List ℕ)). Some s.now) old new fields default_config st.StartRecord bytes bytes [] at.config at.source
    (sym at.state, refl) read in (
      m.2.0,
      m.2.1,
      m.2.2,
      λ start. record {
        trims = read.3 ∙ at.trims;
        ready = inl first;
        config = read.2 ∙ at.config;
        state = sym m.2.3.0 ∙ start;
        source = m.1 ∙ ap (λ (l : List ℕ). Some l) (sym m.2.3.1);
      },
    )
took_of old new fields false bytes at first read =
    ap (λ (s : State). next_record default_config s [] [] bytes) (sym at.state)
    ∙ rows-end (λ (s : Bor (List ℕ)). Some s.now) old new fields default_config bytes at.config at.source read
