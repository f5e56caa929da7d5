-- What a store of trees keeps.
use Rattle.std.specs.Prelude.{◌≡◌, ◌≢◌, ℕ, ◌+◌, ◌-◌, ◌<◌, Bool, true, false, ◌&&◌, ◌||◌, cond, List, [], ◌∷◌, ◌++◌, length, map}
use Rattle.title_land.specs.{Depth.{depth}, declared.{survey.Township.{Township}, rectangle.Quarter.{Quarter}}, Nodes.{same_path}}
use Rattle.title_land.specs.{Lands.{is_in_plant, is_plant_cell}, Laws.Members.{In}}
use Rattle.title_share.specs.Division.{Division}
use Rattle.title_instrument.specs.{declared.{parts.Estate.{Estate, TheVariants.{S, O, M}}, owners.Owners.{Owners}}, Owners.{opening_owners}}
use Rattle.title_store.specs.{Plants.{Plant, is_cell_of}, Loans.{Loan}}
use Rattle.title_tree.specs.{Plots.{Plot, value_at, fits}, Pieces.{Piece, Apart, paths, has, held}, Lendings.{Lending, Keeps}}
use Rattle.title_tree.specs.{CellWays.{cell_way}, Joining.{ApartFromAll, JoinedBut}}
use Rattle.title_tree_store.specs.{declared.{lent.Lent.{Lent}, forest.Forest.{Forest}}, Spots.{index_of, home_in, ways_in, reaches}}
use Rattle.title_tree_store.specs.Forests.{grounds, plots, parts_of, pieces, written, was_written, owners_at, wants, brings, is_some_part}
use Rattle.title_tree_store.specs.{Forests.{AreAll}, Grounds.{parted_in, closable_in, Everywhere}}

-- what a forest has at each cell of the plant
abbrev pub content_of : List Township → (Estate → ℕ → ℕ → Plot) → Plant
content_of ts ps c = cond (is_plant_cell depth ts c)
    (owners_at ps (index_of ts c.section.township) (c.section.number - 1) (cell_way depth c.row c.column)) opening_owners

-- the pieces of a section that an image has: they lie where its tract does
abbrev pub lent_pieces : List Township → Lent → Estate → ℕ → ℕ → List Piece
lent_pieces ts l = pieces (home_in ts l.land) l.trees

-- a part of the image has the cell at a path of a section
abbrev pub lies_in : List Township → Estate → Lent → ℕ → ℕ → List Quarter → Bool
lies_in ts e l i j p = has (paths (lent_pieces ts l e i j)) p

-- what a cell held of an estate before the first of some images that has it; what it holds now, where none has
abbrev pub held_before : List Township → Estate → List Lent → ℕ → ℕ → List Quarter → Division → Division
held_before ts e [] i j p now = now
held_before ts e (l ∷ later) i j p now = cond (lies_in ts e l i j p) (held (lent_pieces ts l e i j) p) (held_before ts e later i j p now)

-- the owners that a cell had before them
abbrev pub owners_before : List Township → (Estate → ℕ → ℕ → Plot) → List Lent → ℕ → ℕ → List Quarter → Owners
owners_before ts ps lent i j p = record {
  s = held_before ts S lent i j p (value_at (ps S i j) p);
  o = held_before ts O lent i j p (value_at (ps O i j) p);
  m = held_before ts M lent i j p (value_at (ps M i j) p);
}

-- an image that is out, with those that went out after it, as a loan: what an estate held that it has no parts of is read off
-- the later ones and the trees
abbrev pub loan_of : List Township → (Estate → ℕ → ℕ → Plot) → Lent → List Lent → Loan
loan_of ts ps l later = record {
  number = l.number;
  land = l.land;
  held = λ c. cond (is_cell_of depth ts l.land c) (owners_before ts ps (l ∷ later) (index_of ts c.section.township) (c.section.number - 1)
      (cell_way depth c.row c.column)) opening_owners;
}

-- the images that are out, as loans
abbrev pub loans_of : List Township → (Estate → ℕ → ℕ → Plot) → List Lent → List Loan
loans_of ts ps [] = []
loans_of ts ps (l ∷ lent) = loan_of ts ps l lent ∷ loans_of ts ps lent

-- an image that is out, as pieces of a section of an estate
abbrev pub lending : List Township → Estate → ℕ → ℕ → Lent → Lending
lending ts e i j l = record { number = l.number; pieces = lent_pieces ts l e i j }

-- no image of this number is out
abbrev pub IsAbsent : ℕ → List Lent → Type 0
IsAbsent n lent = (l : Lent) → In l lent → l.number ≢ n

-- an image that was out under this number was taken out
pub record IsTakenOut (n : ℕ) (l : Lent) (old new : List Lent) : Type 0 where
  pub number_is : l.number ≡ n
  pub before : List Lent
  pub later : List Lent
  pub old_is : old ≡ before ++ l ∷ later
  pub new_is : new ≡ before ++ later

-- the lists of paths are one
abbrev pub same_ways : List (List Quarter) → List (List Quarter) → Bool
same_ways [] [] = true
same_ways [] (q ∷ qs) = false
same_ways (p ∷ ps) [] = false
same_ways (p ∷ ps) (q ∷ qs) = same_path p q && same_ways ps qs

-- all of the paths, or none
abbrev pub is_whole : List (List Quarter) → List (List Quarter) → Bool
is_whole ps qs = same_ways ps [] || same_ways ps qs

-- each piece goes no deeper than the tree's cells
abbrev pub PiecesFit : ℕ → List Piece → Type 0
PiecesFit levels xs = (x : Piece) → In x xs → (n : ℕ) → levels ≡ length x.path + n → fits n x.plot ≡ true

-- an image has a piece for each square of its tract, or none, of each estate; some where it wants a township's sections to have trees
pub record IsBacked (ts : List Township) (l : Lent) : Type 0 where
  pub within : is_in_plant ts l.land ≡ true
  pub all : (e : Estate) → AreAll (length ts) (parts_of l.trees e)
  pub at : (e : Estate) → Everywhere (length ts) (λ i j. is_whole (paths (lent_pieces ts l e i j)) (ways_in ts l.land i j) ≡ true)
  pub fit : (e : Estate) → Everywhere (length ts) (λ i j. PiecesFit depth (lent_pieces ts l e i j))
  pub some : (e : Estate) (i : ℕ) → wants (home_in ts l.land) (parts_of l.trees e) i ≡ true
      → ((j : ℕ) → j < 36 → lent_pieces ts l e i j ≡ []) → ⊥

-- numbers rise
abbrev pub Rises : List Lent → Type 0
Rises [] = Unit {0}
Rises (l ∷ lent) = ((x : Lent) → In x lent → l.number < x.number) × Rises lent

-- each township has its place, no tree goes deeper than its cells, and each image that is out can go back: its squares lie in
-- sections that have trees of their own, and so they will once a later image has gone back
pub record IsKept (ts : List Township) (f : Forest) (lent : List Lent) (next : ℕ) : Type 0 where
  pub sized : (e : Estate) → length (grounds f e) ≡ length ts
  pub fit : (e : Estate) → Everywhere (length ts) (λ i j. fits depth (plots f e i j) ≡ true)
  pub keeps : (e : Estate) → Everywhere (length ts) (λ i j. Keeps (plots f e i j) (map (lending ts e i j) lent) next)
  pub backed : (l : Lent) → In l lent → IsBacked ts l
  pub rises : Rises lent
  pub wanted : (e : Estate) (i : ℕ) (l : Lent) → In l lent → wants (home_in ts l.land) (parts_of l.trees e) i ≡ true
      → parted_in (grounds f e) i ≡ true
  pub brought : (e : Estate) (i : ℕ) (x y : Lent) → In x lent → In y lent → x.number < y.number
      → wants (home_in ts x.land) (parts_of x.trees e) i ≡ true → brings (home_in ts y.land) (parts_of y.trees e) i ≡ true

-- no four quarters, and no 36 sections, are leaves of one division but where something was written, and each image lies where
-- something was
pub record AreJoined (ts : List Township) (f : Forest) (lent : List Lent) : Type 0 where
  pub joined : (e : Estate) → Everywhere (length (grounds f e)) (λ i j. JoinedBut (written e i j f) (plots f e i j))
  pub closed : (e : Estate) (i : ℕ) → was_written e i f ≡ false → closable_in (grounds f e) i ≡ false
  pub lies : (e : Estate) → Everywhere (length (grounds f e)) (λ i j. (l : Lent) → In l lent → (q : List Quarter)
      → ApartFromAll q (written e i j f) → Apart q (paths (lent_pieces ts l e i j)))
  pub marked : (e : Estate) (i : ℕ) (l : Lent) → In l lent → (is_some_part (parts_of l.trees e) && reaches (home_in ts l.land) i) ≡ true
      → was_written e i f ≡ true
