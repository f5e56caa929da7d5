-- Plots: who holds an estate in a square, inherited by quarters. Paths have the outermost quarter first.
use Rattle.std.specs.Prelude.{ℕ, zero, suc, Bool, true, false, cond, ◌&&◌, not, ◌==◌, List, [], ◌∷◌, Option, Some, None, Result}
use Rattle.std.specs.Option.{option_or}
use Rattle.title_share.specs.Division.{Division, rows_of}
use Rattle.title_land.specs.declared.rectangle.Quarter.{Quarter, TheVariants.{Northeast, Northwest, Southwest, Southeast}}
use Rattle.title_tree.specs.{Changes.{why_of}, Paths.{rest_in}}

-- one division in all cells, or the plots of the four quarters in their order
pub data Plot : Type 0 where
  Same : Division → Plot
  Four : Plot → Plot → Plot → Plot → Plot

-- the division in the cell at a path; a path that ends above a cell goes on to the northeast
abbrev pub value_at : Plot → List Quarter → Division
value_at (Same held) path = held
value_at (Four a b c d) [] = value_at a []
value_at (Four a b c d) (Northeast ∷ path) = value_at a path
value_at (Four a b c d) (Northwest ∷ path) = value_at b path
value_at (Four a b c d) (Southwest ∷ path) = value_at c path
value_at (Four a b c d) (Southeast ∷ path) = value_at d path

-- the plot has a node of its own at the path
abbrev pub has_path : List Quarter → Plot → Bool
has_path [] t = true
has_path (q ∷ path) (Same held) = false
has_path (Northeast ∷ path) (Four a b c d) = has_path path a
has_path (Northwest ∷ path) (Four a b c d) = has_path path b
has_path (Southwest ∷ path) (Four a b c d) = has_path path c
has_path (Southeast ∷ path) (Four a b c d) = has_path path d

-- the plot at the path; where a node above is not quartered, that node's
abbrev pub plot_at : List Quarter → Plot → Plot
plot_at [] t = t
plot_at (q ∷ path) (Same held) = Same held
plot_at (Northeast ∷ path) (Four a b c d) = plot_at path a
plot_at (Northwest ∷ path) (Four a b c d) = plot_at path b
plot_at (Southwest ∷ path) (Four a b c d) = plot_at path c
plot_at (Southeast ∷ path) (Four a b c d) = plot_at path d

-- the plot with another at the path
abbrev pub graft : List Quarter → Plot → Plot → Plot
graft [] new t = new
graft (q ∷ path) new (Same held) = Same held
graft (Northeast ∷ path) new (Four a b c d) = Four (graft path new a) b c d
graft (Northwest ∷ path) new (Four a b c d) = Four a (graft path new b) c d
graft (Southwest ∷ path) new (Four a b c d) = Four a b (graft path new c) d
graft (Southeast ∷ path) new (Four a b c d) = Four a b c (graft path new d)

-- quartered down to the path: each quarter inherits
abbrev pub split : List Quarter → Plot → Plot
split [] t = t
split (Northeast ∷ path) (Same held) = Four (split path (Same held)) (Same held) (Same held) (Same held)
split (Northwest ∷ path) (Same held) = Four (Same held) (split path (Same held)) (Same held) (Same held)
split (Southwest ∷ path) (Same held) = Four (Same held) (Same held) (split path (Same held)) (Same held)
split (Southeast ∷ path) (Same held) = Four (Same held) (Same held) (Same held) (split path (Same held))
split (Northeast ∷ path) (Four a b c d) = Four (split path a) b c d
split (Northwest ∷ path) (Four a b c d) = Four a (split path b) c d
split (Southwest ∷ path) (Four a b c d) = Four a b (split path c) d
split (Southeast ∷ path) (Four a b c d) = Four a b c (split path d)

-- each division changed
abbrev pub changed : (Division → Division) → Plot → Plot
changed f (Same held) = Same (f held)
changed f (Four a b c d) = Four (changed f a) (changed f b) (changed f c) (changed f d)

-- why the first leaf that refuses a change refuses it, in the order of the quarters
abbrev pub first_refusal : {R : Type 0} → (Division → Result Division R) → Plot → Option R
first_refusal effect (Same held) = why_of (effect held)
first_refusal effect (Four a b c d) =
    option_or (first_refusal effect a) (option_or (first_refusal effect b)
    (option_or (first_refusal effect c) (first_refusal effect d)))

abbrev pub same_entries : List (ℕ × ℕ) → List (ℕ × ℕ) → Bool
same_entries [] [] = true
same_entries [] (y ∷ more) = false
same_entries (x ∷ rows) [] = false
same_entries (x ∷ rows) (y ∷ more) = (x.0 == y.0 && x.1 == y.1) && same_entries rows more

-- two divisions of a whole are one
abbrev pub same_division : Division → Division → Bool
same_division d e = same_entries (rows_of d) (rows_of e)

-- the division of four squares that have one each, where it is the same
abbrev pub agreed : Option Division → Option Division → Option Division → Option Division → Option Division
agreed (Some w) (Some x) (Some y) (Some z) = cond (same_division w x && same_division w y && same_division w z) (Some w) None
agreed (Some w) (Some x) (Some y) None = None
agreed (Some w) (Some x) None z = None
agreed (Some w) None y z = None
agreed None x y z = None

-- the one division of a plot whose leaves all have the same
abbrev pub uniform : Plot → Option Division
uniform (Same held) = Some held
uniform (Four a b c d) = agreed (uniform a) (uniform b) (uniform c) (uniform d)

-- two leaves that have the same division
abbrev pub same_leaf : Plot → Plot → Bool
same_leaf (Same held) (Same other) = same_division held other
same_leaf (Same held) (Four a b c d) = false
same_leaf (Four a b c d) t = false

-- four leaves that have the same division made one
abbrev pub joined : Plot → Plot
joined (Same held) = Same held
joined (Four a b c d) = cond (same_leaf a b && same_leaf a c && same_leaf a d) a (Four a b c d)

-- no four quarters are leaves that have the same division: no plot with fewer nodes has these divisions
abbrev pub is_tidy : Plot → Bool
is_tidy (Same held) = true
is_tidy (Four a b c d) = (is_tidy a && is_tidy b && is_tidy c && is_tidy d) && not (same_leaf a b && same_leaf a c && same_leaf a d)

-- leaves that have the same division made one, from below
abbrev pub tidied : Plot → Plot
tidied (Same held) = Same held
tidied (Four a b c d) = joined (Four (tidied a) (tidied b) (tidied c) (tidied d))

-- what stands at the path tidied, and then each node above it joined, from below
abbrev pub tidied_at : List Quarter → Plot → Plot
tidied_at [] t = tidied t
tidied_at (q ∷ path) (Same held) = Same held
tidied_at (Northeast ∷ path) (Four a b c d) = joined (Four (tidied_at path a) b c d)
tidied_at (Northwest ∷ path) (Four a b c d) = joined (Four a (tidied_at path b) c d)
tidied_at (Southwest ∷ path) (Four a b c d) = joined (Four a b (tidied_at path c) d)
tidied_at (Southeast ∷ path) (Four a b c d) = joined (Four a b c (tidied_at path d))

-- leaves that have the same division made one, unless another path leads through the node
abbrev pub joined_unless : Option (List Quarter) → Plot → Plot
joined_unless None t = joined t
joined_unless (Some p) t = t

-- tidied at a path, but each node that another path leads through stays
abbrev pub tidied_until : Option (List Quarter) → List Quarter → Plot → Plot
tidied_until other [] t = tidied t
tidied_until other (q ∷ path) (Same held) = Same held
tidied_until other (Northeast ∷ path) (Four a b c d) = joined_unless other (Four (tidied_until (rest_in Northeast other) path a) b c d)
tidied_until other (Northwest ∷ path) (Four a b c d) = joined_unless other (Four a (tidied_until (rest_in Northwest other) path b) c d)
tidied_until other (Southwest ∷ path) (Four a b c d) = joined_unless other (Four a b (tidied_until (rest_in Southwest other) path c) d)
tidied_until other (Southeast ∷ path) (Four a b c d) = joined_unless other (Four a b c (tidied_until (rest_in Southeast other) path d))

-- tidied at each path in turn
abbrev pub tidied_all : List (List Quarter) → Plot → Plot
tidied_all [] t = t
tidied_all (p ∷ ps) t = tidied_all ps (tidied_at p t)

-- no node lies deeper than so many levels
abbrev pub fits : ℕ → Plot → Bool
fits n (Same held) = true
fits zero (Four a b c d) = false
fits (suc n) (Four a b c d) = fits n a && fits n b && fits n c && fits n d
