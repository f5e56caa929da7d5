-- The rows of a sheet's parts are those of the sheet.
use Rattle.std.{proofs.{Common.{◌≡◌, ◌∙◌, ◌++◌, ◌∷◌, [], ℕ, List, ap, map, refl, sym}, lemmas.List.{map-append}}, specs.List.{flat_map}}
use Rattle.title_store.specs.declared.sheet_row.SheetRow.{SheetRow}
use Rattle.title_chain.specs.SheetParts.{all_rows}
use Rattle.title_page.specs.Rows.{rows_text}

mapped : (f : SheetRow → List (List ℕ)) (parts : List (List SheetRow)) → flat_map (λ part. map f part) parts ≡ map f (all_rows parts)
mapped f [] = refl
mapped f (x ∷ xs) = ap (λ (ys : List (List (List ℕ))). map f x ++ ys) (mapped f xs) ∙ sym (map-append f x (all_rows xs))

-- the text of a sheet's rows is that of its parts' rows
pub parts_text : (f : SheetRow → List (List ℕ)) (parts : List (List SheetRow)) (sheet : List SheetRow) → all_rows parts ≡ sheet
    → rows_text (map f sheet) ≡ rows_text (flat_map (λ part. map f part) parts)
parts_text f parts sheet is = sym (ap (λ (rows : List (List (List ℕ))). rows_text rows) (mapped f parts ∙ ap (map f) is))
