-- The bytes up to the first quote, that quote twice, and the rest.
use Rattle.std.proofs.Common.{◌≡◌, ◌++◌, ◌∷◌, [], ◌+◌, ◌-◌, ℕ, List, append_assoc, drop, length, refl, take}
use Rattle.std.proofs.lemmas.{List.{take_rest}, Option.{IfSome_then}}
use Rattle.csv.specs.Writing.{escaped}
use Rattle.title_page.specs.Rows.{row_writer}
use Rattle.title_report.proofs.row_text.+add_escaped.Goals as goal

run_added : (old one two new field : List ℕ) (at : ℕ)
    → escaped row_writer field ≡ take at field ++ (34 ∷ 34 ∷ escaped row_writer (drop (at + 1) field)) → one ≡ old ++ take at field
    → two ≡ one ++ 34 ∷ 34 ∷ [] → new ≡ two ++ escaped row_writer (take (length field - (at + 1)) (drop (at + 1) field))
    → new ≡ old ++ escaped row_writer field
run_added old one two new field at quote a b c = rw (c, take_rest field (at + 1), b, a, quote) (simp append_assoc refl)

pub returns : goal.returns
returns t c = record {
  added = IfSome_then c.add_escaped.result c.add_escaped.ensures.added
      (λ _ e. run_added c.args.text.now.items _ _ _ c.args.field.now c.in-Some.at c.in-Some.ensures.some c.in_ok-add.ensures.added
      c.in_ok-add-2.ensures.added e);
}
