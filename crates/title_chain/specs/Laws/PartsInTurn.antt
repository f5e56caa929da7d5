-- One part more.
use Rattle.std.{specs.Prelude.{◌≡◌, ◌+◌, List, [], ◌∷◌, ◌++◌, length}, proofs.Common.{ap, sym, ◌∙◌, length-append}}
use Rattle.std.proofs.lemmas.List.{flat_map_more}
use Rattle.title_store.specs.declared.sheet_row.SheetRow.{SheetRow}
use Rattle.title_chain.specs.SheetParts.{all_rows}

-- one part more adds its rows at the end
pub rows_after : (parts : List (List SheetRow)) (part : List SheetRow) → all_rows (parts ++ part ∷ []) ≡ all_rows parts ++ part
rows_after parts part = sym (flat_map_more (λ p. p) [] parts part)

-- as many as it has
pub count_after : (parts : List (List SheetRow)) (part : List SheetRow)
    → length (all_rows (parts ++ part ∷ [])) ≡ length (all_rows parts) + length part
count_after parts part = ap length (rows_after parts part) ∙ length-append (all_rows parts) part
