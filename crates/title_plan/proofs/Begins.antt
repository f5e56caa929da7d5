-- What stands keeps its indices, row by row.
use Rattle.std.proofs.Common.{◌≡◌, ◌≤◌, ◌+◌, ◌∙◌, refl, ap, sym, ℕ, List, [], ◌∷◌, ◌++◌, ◌==◌, ◌&&◌, Bool, true, false, cond, Option, Some}
use Rattle.std.{proofs.Common.{None, Result, Ok, Err, IfOk, subst, append_assoc, length, nat_le, take, ◌||◌, arith}, specs.List.{list_any}}
use Rattle.std.{proofs.lemmas.List.{append-nil, length-append, take-append-le}, specs.Str.{bytes_eq}}
use mathlib.Core.List.{IsPrefix}
use Rattle.title_land.specs.{declared.{survey.Township.{Township}, tract.Land.{Land}}, Survey.{same_township}}
use Rattle.title_land.specs.declared.tract.Land.TheVariants as land
use Rattle.title_aliquot.specs.declared.fault.DescFault.{DescFault}
use Rattle.title_chain.specs.{Alone.{most_parties}, declared.ask.Ask.{Ask}}
use Rattle.title_chain.specs.declared.ask.Ask.TheVariants as ask
use Rattle.title_instrument.specs.declared.instrument.Instrument.{Instrument}
use Rattle.title_trace.specs.Due.{most_townships}
use Rattle.title_plan.specs.declared.{fault.ScriptFault.{ScriptFault}, line.Schedule.{Schedule}, onto.Stood.{Stood}, row.Act.{Act}}
use Rattle.title_plan.specs.{declared.row.Row.{Row}, Asked.{Asked}, Lands.{land_in}}
use Rattle.title_plan.specs.Onto.{Before, ScriptsBegin, after_row_onto, after_rows_onto, after_understood_onto, asked_on, first_of}
use Rattle.title_plan.specs.Onto.{is_party_of, is_township_of, party_onto, township_onto}
use Rattle.title_plan.specs.Plans.{after_act, after_asked, after_post, after_step_row, after_township, asked_of, going_on, numbered, post}
use Rattle.title_plan.specs.Plans.{is_beyond, is_out_of_turn, rows_in, understood, with_party, with_township}
use Rattle.title_plan.specs.declared.fault.ScriptFault.TheVariants as fault
use Rattle.title_plan.specs.declared.line.Schedule.TheVariants as schedule
use Rattle.title_plan.specs.declared.row.Act.TheVariants as act
use Rattle.title_plan.specs.declared.row.Row.TheVariants as row

-- the townships and the names begin with those of before
abbrev pub Grows : Asked → Asked → Type 0
Grows old new = IsPrefix old.townships new.townships × IsPrefix old.names new.names

-- so they do where there is no fault
abbrev Grown : Asked → Result Asked ScriptFault → Type 0
Grown old r = IfOk r (Grows old)

same : {A : Type 0} (xs : List A) → IsPrefix xs xs
same xs = ([], append-nil xs)

stays : (asked : Asked) → Grows asked asked
stays asked = (same asked.townships, same asked.names)

-- a fault or else what holds
fault_or : (asked : Asked) (b : Bool) (e : ScriptFault) (r : Result Asked ScriptFault) → Grown asked r
    → Grown asked (cond b (Err e) r)
fault_or asked true e r h = tt
fault_or asked false e r h = h

or_fault : (asked : Asked) (b : Bool) (e : ScriptFault) (r : Result Asked ScriptFault) → Grown asked r → Grown asked (cond b r (Err e))
or_fault asked true e r h = h
or_fault asked false e r h = tt

-- a row that is passed over, or else what holds
passed_or : (asked : Asked) (b : Bool) (r : Result Asked ScriptFault) → Grown asked r → Grown asked (cond b (Ok asked) r)
passed_or asked true r h = stays asked
passed_or asked false r h = h

further : {A : Type 0} (xs ys zs : List A) → IsPrefix xs ys → IsPrefix ys zs → IsPrefix xs zs
further xs ys zs p q = (p.0 ++ q.0, sym (append_assoc xs p.0 q.0) ∙ (ap (λ w. w ++ q.0) p.1 ∙ q.1))

-- ---- declarations

with_township_grown : (n : ℕ) (asked : Asked) (t : Township) → Grown asked (with_township n asked t)
with_township_grown n asked t =
    let more : Grows asked (record {
      townships = asked.townships ++ t ∷ [];
      names = asked.names;
      lines = asked.lines;
      inside = asked.inside;
    }) = ((t ∷ [], refl), same asked.names) in
    fault_or asked (nat_le most_townships (length asked.townships) || list_any (λ other. same_township other t) asked.townships)
    (fault.Row n) _ (or_fault asked (length asked.lines == 0) (fault.Order n) _ more)

after_township_grown : (n : ℕ) (asked : Asked) (said : Result Land DescFault) → Grown asked (after_township n asked said)
after_township_grown n asked (Ok (land.Township t)) = with_township_grown n asked t
after_township_grown n asked _ = tt

township_grown : (before : Before) (n : ℕ) (asked : Asked) (said : Result Land DescFault) → Grown asked (township_onto before n asked said)
township_grown before n asked said =
    passed_or asked (length asked.lines == 0 && is_township_of before said) _ (after_township_grown n asked said)

with_party_grown : (n : ℕ) (asked : Asked) (name : List ℕ) → Grown asked (with_party n asked name)
with_party_grown n asked name =
    let more : Grows asked (record {
      townships = asked.townships;
      names = asked.names ++ name ∷ [];
      lines = asked.lines;
      inside = asked.inside;
    }) = (same asked.townships, (name ∷ [], refl)) in
    fault_or asked (nat_le most_parties (length asked.names)) (fault.Row n) _ (or_fault asked (length asked.lines == 0)
    (fault.Order n) _ (fault_or asked (list_any (bytes_eq name) asked.names) (fault.Party n) _ more))

party_grown : (before : Before) (n : ℕ) (asked : Asked) (name : List ℕ) → Grown asked (party_onto before n asked name)
party_grown before n asked name =
    passed_or asked (length asked.lines == 0 && is_party_of before name) _ (with_party_grown n asked name)

-- ---- steps

asked_grown : (sched : Schedule) (n : ℕ) (asked : Asked) (e : ℕ) (asks : Result Ask DescFault)
    → Grown asked (after_asked sched n asked e asks)
asked_grown schedule.Interleaved n asked e asks = stays asked
asked_grown schedule.Serial n asked e asks = stays asked
asked_grown (schedule.Office k) n asked e (Ok a) = stays asked
asked_grown (schedule.Office k) n asked e (Err why) = tt

post_grown : (sched : Schedule) (n : ℕ) (asked : Asked) (e doc : ℕ) (instrument : Option (Instrument ℕ)) (text : List ℕ)
    → Grown asked (after_post sched n asked e doc instrument text)
post_grown sched n asked e doc None text = tt
post_grown sched n asked e doc (Some instrument) text = asked_grown sched n asked e (asked_of (post doc instrument) (land_in text))

act_grown : (sched : Schedule) (n : ℕ) (asked : Asked) (e : ℕ) (a : Act (List ℕ)) → Grown asked (after_act sched n asked e a)
act_grown sched n asked e act.Begin = stays asked
act_grown sched n asked e act.Commit = stays asked
act_grown sched n asked e act.Abort = stays asked
act_grown sched n asked e (act.Sheet text) = asked_grown sched n asked e (asked_of ask.Sheet (land_in text))
act_grown sched n asked e (act.Chain text) = asked_grown sched n asked e (asked_of ask.Chain (land_in text))
act_grown sched n asked e (act.Post doc instrument text) = post_grown sched n asked e doc (numbered asked.names instrument) text

step_grown : (sched : Schedule) (n : ℕ) (asked : Asked) (e : ℕ) (a : Act (List ℕ)) → Grown asked (after_step_row sched n asked e a)
step_grown sched n asked e a =
    fault_or asked (is_beyond sched e) (fault.Row n) _
    (fault_or asked (is_out_of_turn sched asked.inside e a) (fault.Order n) _ (act_grown sched n asked e a))

-- ---- rows

understood_grown : (sched : Schedule) (before : Before) (n : ℕ) (asked : Asked) (found : Option (Row (List ℕ)))
    → Grown asked (after_understood_onto sched before n asked found)
understood_grown sched before n asked None = tt
understood_grown sched before n asked (Some (row.Township text)) = township_grown before n asked (land_in text)
understood_grown sched before n asked (Some (row.Party name)) = party_grown before n asked name
understood_grown sched before n asked (Some (row.Step e a)) = step_grown sched n asked e a

pub row_grows : (sched : Schedule) (before : Before) (n : ℕ) (old new : Asked) (fields : List (List ℕ))
    → after_row_onto sched before n old fields ≡ Ok new → Grows old new
row_grows sched before n old new fields e = subst (Grown old) e (understood_grown sched before n old (understood n fields))

onwards : (old new : Asked) (r : Result Asked ScriptFault) → Grows old new → Grown new r → Grown old r
onwards old new (Ok a) p q =
    (further old.townships new.townships a.townships p.0 q.0, further old.names new.names a.names p.1 q.1)
onwards old new (Err e) p q = tt

going_on_grown : (old : Asked) (f : Asked → Result Asked ScriptFault) (r : Result Asked ScriptFault) → Grown old r
    → ((a : Asked) → Grown a (f a)) → Grown old (going_on f r)
going_on_grown old f (Ok a) p more = onwards old a (f a) p (more a)
going_on_grown old f (Err e) p more = tt

rows_grown : (sched : Schedule) (before : Before) (n : ℕ) (asked : Asked) (rows : List (List (List ℕ)))
    → Grown asked (after_rows_onto sched before n asked rows)
rows_grown sched before n asked [] = stays asked
rows_grown sched before n asked (row ∷ rows) =
    going_on_grown asked (λ after. after_rows_onto sched before (n + 1) after rows) (after_row_onto sched before n asked row)
    (understood_grown sched before n asked (understood n row)) (λ after. rows_grown sched before (n + 1) after rows)

pub scripts_begin : ScriptsBegin
scripts_begin sched before bytes asked e =
    subst (Grown (asked_on before)) e (rows_grown sched before 1 (asked_on before) (rows_in bytes))

-- ---- the first townships and parties stay what they are

take_grown : {A : Type 0} (n : ℕ) (xs ys : List A) → IsPrefix xs ys → n ≤ length xs → take n ys ≡ take n xs
take_grown n xs ys p few = rw (← p.1) (take-append-le n xs p.0 few)

pub length_grown : {A : Type 0} (n : ℕ) (xs ys : List A) → IsPrefix xs ys → n ≤ length xs → n ≤ length ys
length_grown n xs ys p few = rw (← p.1, length-append) (omega arith)

pub first_stays : (stood : Stood) (old new : Asked) → Grows old new → stood.townships ≤ length old.townships
    → stood.parties ≤ length old.names → first_of stood new ≡ first_of stood old
first_stays stood old new p t n =
    rw (take_grown stood.townships old.townships new.townships p.0 t, take_grown stood.parties old.names new.names p.1 n) refl
