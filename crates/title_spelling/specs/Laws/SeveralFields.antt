-- Each row of a plant has two fields at least, and its text is read as they are.
use Rattle.std.proofs.Common.{◌≡◌, ◌∙◌, ℕ, List, [], ◌∷◌, ◌++◌, refl, sym, ap, subst, Some}
use Rattle.csv.{proofs.RoundTrip.{read-write-many}, specs.{Machine.{next_record}, Reading.{default_config}}}
use Rattle.csv.specs.declared.parser.State.TheVariants as st
use Rattle.title_page.specs.{Rows.{row}, Laws.RowTexts.{row_same}}
use Rattle.title_spelling.specs.Rows.{fields_of, Begin, Commit, End, Party, PlantRow, Post, Township}

pub record Several (fields : List (List ℕ)) : Type 0 where
  pub first : List ℕ
  pub second : List ℕ
  pub rest : List (List ℕ)
  pub fields_are : fields ≡ first ∷ second ∷ rest

unfoldable pub several : (names : List (List ℕ)) (x : PlantRow) → Several (fields_of names x)
several names (Township t) = record { first = _; second = _; rest = _; fields_are = refl }
several names (Party name) = record { first = _; second = _; rest = _; fields_are = refl }
several names (Begin e) = record { first = _; second = _; rest = _; fields_are = refl }
several names (Commit e) = record { first = _; second = _; rest = _; fields_are = refl }
several names (Post e post) = record { first = _; second = _; rest = _; fields_are = refl }
several names (End n) = record { first = _; second = _; rest = _; fields_are = refl }

pub one_read : (fields : List (List ℕ)) (more : List ℕ) → Several fields
    → next_record default_config st.StartRecord [] [] (row fields ++ more) ≡ Some (fields, st.StartRecord, more)
one_read fields more s =
    subst (λ (f : List (List ℕ)). next_record default_config st.StartRecord [] [] (row f ++ more) ≡ Some (f, st.StartRecord, more))
    (sym s.fields_are)
    (ap (λ (t : List ℕ). next_record default_config st.StartRecord [] [] (t ++ more)) (row_same s.first s.second s.rest)
    ∙ read-write-many s.first s.second s.rest more)
