-- A sheet's row in the parts in which it is written: the text up to the name, the name, and the text behind it.
use Rattle.std.specs.{Prelude.{◌≡◌, ◌≤◌, ℕ, List, [], ◌∷◌, ◌++◌, codes, length, IfSome}, Fmt.{decimal}}
use Rattle.csv.specs.Writing.{field_text}
use Rattle.title_share.specs.Share.{share_text}
use Rattle.title_land.specs.{declared.{node.Node.{Node}, survey.Section.{Section}}, Texts.{node_text, section_text}}
use Rattle.title_instrument.specs.{declared.parts.Estate.{Estate}, Estates.{estate_text}}
use Rattle.title_page.specs.Rows.{row_writer}
use Rattle.title_report.specs.declared.front.{Front.{Front}, Head.{Head}}

-- with which a row begins: `E,WORD,`
abbrev pub start_text : ℕ → List ℕ → List ℕ
start_text e word = decimal e ++ codes "," ++ word ++ codes ","

-- with which the rows of a sheet begin: `E,row,`
abbrev pub row_start : ℕ → List ℕ
row_start e = start_text e (codes "row")

-- with which those of nodes of a section begin: `E,row,SECTION`
abbrev pub head_text : ℕ → Section → List ℕ
head_text e s = row_start e ++ section_text s

-- with which those of a node and an estate begin: `E,row,NODE,ESTATE,`
abbrev pub front_text : ℕ → Node → Estate → List ℕ
front_text e n estate = row_start e ++ node_text n ++ codes "," ++ estate_text estate ++ codes ","

-- the line of a fraction, a power of two below it, and the line's end, by the exponent
abbrev pub bottoms : List (List ℕ)
bottoms = codes "/1\n" ∷ codes "/2\n" ∷ codes "/4\n" ∷ codes "/8\n" ∷ codes "/16\n" ∷ codes "/32\n" ∷ codes "/64\n"
    ∷ codes "/128\n" ∷ codes "/256\n" ∷ codes "/512\n" ∷ codes "/1024\n" ∷ codes "/2048\n" ∷ codes "/4096\n" ∷ codes "/8192\n"
    ∷ codes "/16384\n" ∷ codes "/32768\n" ∷ codes "/65536\n" ∷ codes "/131072\n" ∷ codes "/262144\n" ∷ codes "/524288\n"
    ∷ codes "/1048576\n" ∷ codes "/2097152\n" ∷ codes "/4194304\n" ∷ codes "/8388608\n" ∷ codes "/16777216\n"
    ∷ codes "/33554432\n" ∷ codes "/67108864\n" ∷ codes "/134217728\n" ∷ codes "/268435456\n" ∷ codes "/536870912\n"
    ∷ codes "/1073741824\n" ∷ codes "/2147483648\n" ∷ codes "/4294967296\n" ∷ []

-- what stands behind a row's name: `,SHARE`, and the line's end
abbrev pub tail_text : ℕ → List ℕ
tail_text units = 44 ∷ (field_text row_writer (share_text units) ++ 10 ∷ [])

-- with which the rows of a chain begin: `E,entry,`
abbrev pub entry_start : ℕ → List ℕ
entry_start e = start_text e (codes "entry")

-- what a head remembers is a beginning of the examiner's rows, which leaves room for a square and an estate
pub record IsHead (e : ℕ) (h : Head) : Type 0 where
  pub text : IfSome h.section (λ s. h.text ≡ head_text e s)
  pub long : length h.text ≤ 34

-- what a front remembers are beginnings of the examiner's rows
pub record IsFront (e : ℕ) (f : Front) : Type 0 where
  pub head : IsHead e f.head
  pub text : IfSome f.row (λ r. f.text ≡ front_text e r.node r.estate)
