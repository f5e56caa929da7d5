-- Records are read one by one from a text.
use Rattle.std.proofs.Common.{◌≡◌, ◌<◌, ◌+◌, ◌++◌, ◌∷◌, ◌∙◌, [], refl, inl, inr, ℕ, zero, suc, List, None, Some, Bool, true, false}
use Rattle.std.proofs.{Common.{Bor, length, arith}, lemmas.Bool.{cases_Bool}}
use Rattle.csv.specs.{Machine.{Read, next_record, step, is_end, fields_after, field_after, ends_at_end}, declared.parser.State.{State}}
use Rattle.csv.specs.{Reading.{Reached, ReadRecord, default_config, records_from, took_first}, declared.reader.Reader.{Reader}}
use Rattle.csv.proofs.ReadFacts.{rows-end, rows-more}
use Rattle.csv.specs.declared.parser.State.TheVariants as st
use Rattle.title_lasting.specs.Readers.{IsCounted, RowsLeft, TookRow}

-- a record takes a byte or more, or ends the text
counted_after : (s : State) (fields : List (List ℕ)) (field xs : List ℕ) (count : ℕ) (p : Read)
    → next_record default_config s fields field xs ≡ Some p → length xs < count + 1 → IsCounted count p.1 p.2
unfolding next_record
counted_after s fields field [] count p e few =
    elim (cases_Bool (ends_at_end s)) [
      | inl ends ↦ let h : (fields ++ (field ∷ []), st.StartRecord, []) ≡ p = cc (rw ends at e) in inr (rw (← h) refl)
      | inr goes ↦ absurd (let h : None ≡ Some p = rw goes at e in cc h)
    ]
counted_after s fields field (c ∷ xs) count p e few =
    elim (cases_Bool (is_end (step default_config s c).1)) [
      | inl ends ↦
          let h : (fields_after (step default_config s c).1 fields field, (step default_config s c).0, xs) ≡ p = cc (rw ends at e) in
          inl (rw (← h) (omega arith))
      | inr goes ↦ let h = rw goes at e in counted_after (step default_config s c).0 (fields_after (step default_config s c).1 fields field)
          (field_after (step default_config s c).1 c field) xs count p h (omega arith)
    ]

-- a record is read: what is left from where it ends
record Next (count : ℕ) (row : List (List ℕ)) (s t : State) (xs ys : List ℕ) : Type 0 where
  fewer : ℕ
  counted : IsCounted fewer t ys
  rows_are : records_from default_config count s xs ≡ row ∷ records_from default_config fewer t ys

one_read : (count : ℕ) (row : List (List ℕ)) (s t : State) (xs ys : List ℕ) → IsCounted count s xs
    → Reached default_config s xs (row ∷ []) t ys → Next count row s t xs ys
unfolding Reached records_from
one_read count row s t xs ys (inr none) h = absurd (let no : None ≡ Some h.0 = rw none at h.1 in cc no)
one_read zero row s t xs ys (inl few) h = absurd (omega arith)
one_read (suc count) row s t xs ys (inl few) h = record {
  fewer = count;
  counted = rw (← h.3.0, ← h.3.1) (counted_after s [] [] xs count h.0 h.1 (omega arith));
  rows_are = rw (← h.3.0, ← h.3.1, h.2) (rw h.1 refl);
}

-- where no record is left, none comes
none_read : (count : ℕ) (s : State) (xs : List ℕ) → next_record default_config s [] [] xs ≡ None
    → records_from default_config count s xs ≡ []
unfolding records_from
none_read zero s xs e = refl
none_read (suc count) s xs e = rw e refl

-- a read takes a record of those that are left, or there is none
pub took : (old new : Reader (Bor (List ℕ))) (fields : List (List ℕ)) (found : Bool) (rows : List (List (List ℕ)))
    → RowsLeft old rows → ReadRecord (λ (s : Bor (List ℕ)). Some s.now) old new found fields → took_first new ≡ true
    → TookRow rows fields new found
unfolding Reached
took old new fields true rows left read first =
    let m = rows-more (λ (s : Bor (List ℕ)). Some s.now) old new fields default_config old.state left.rest left.rest []
    left.config left.source (refl, refl) read in
    let on = one_read left.count fields old.state new.state left.rest m.0 left.counted m.2 in (
      records_from default_config on.fewer new.state m.0,
      left.rows_are ∙ on.rows_are,
      record {
        trims = read.3 ∙ left.trims;
        ready = inl first;
        config = read.2 ∙ left.config;
        rest = m.0;
        source = m.1;
        count = on.fewer;
        counted = on.counted;
        rows_are = refl;
      },
    )
took old new fields false rows left read first =
    left.rows_are ∙ none_read left.count old.state left.rest
    (rows-end (λ (s : Bor (List ℕ)). Some s.now) old new fields default_config left.rest left.config left.source read)
