-- The laws of asks: what an answer and an effect depend on, and what an ask leaves alone.
use Rattle.std.specs.Prelude.{◌≡◌, ℕ, true, false, List, [], Some}
use Rattle.title_land.specs.declared.{survey.{Cell.{Cell}, Township.{Township}}, tract.Land.{Land}}
use Rattle.title_store.specs.Plants.{Plant, Refusal, is_cell_of, refused_in}
use Rattle.title_chain.specs.{declared.ask.{Ask.{Ask}, Answer.{Answer}, Entry.{Entry}, Posting.{Posting}}, StepEntries.{entry_of}}
use Rattle.title_chain.specs.Asks.{tract_of, is_post, effect, answer_to, overlap}
use Rattle.title_chain.specs.declared.ask.Ask.TheVariants as ask

-- two plants have the same owners in every cell of a tract
abbrev pub SameIn : ℕ → List Township → Land → Plant → Plant → Type 0
SameIn depth townships land p q = (c : Cell) → is_cell_of depth townships land c ≡ true → p c ≡ q c

-- an ask's answer depends on the owners of its tract's cells and on its chain alone; a node has a name down to three
-- quarters
abbrev pub AnswerSame : Type 0
AnswerSame = (depth : ℕ) (townships : List Township) (p q : Plant) (listed other : List Entry) (a : Ask) →
    SameIn depth townships (tract_of a) p q → listed ≡ other →
    answer_to depth townships p listed a ≡ answer_to depth townships q other a

-- what an ask makes of a cell depends on the owners of that cell and of its tract's cells alone
abbrev pub EffectSame : Type 0
EffectSame = (depth : ℕ) (townships : List Township) (p q : Plant) (a : Ask) (c : Cell) →
    SameIn depth townships (tract_of a) p q → p c ≡ q c → effect depth townships p a c ≡ effect depth townships q a c

-- an ask changes no cell of the tract of an ask that it doesn't overlap
abbrev pub EffectPast : Type 0
EffectPast = (depth : ℕ) (townships : List Township) (p : Plant) (a b : Ask) (c : Cell) →
    overlap a b ≡ false → is_cell_of depth townships (tract_of a) c ≡ true → effect depth townships p b c ≡ p c

-- an ask changes no cell outside its tract
abbrev pub EffectOutside : Type 0
EffectOutside = (depth : ℕ) (townships : List Township) (p : Plant) (a : Ask) (c : Cell) →
    is_cell_of depth townships (tract_of a) c ≡ false → effect depth townships p a c ≡ p c

-- an ask that is no post changes no cell
abbrev pub EffectRead : Type 0
EffectRead = (depth : ℕ) (townships : List Township) (p : Plant) (a : Ask) (c : Cell) →
    is_post a ≡ false → effect depth townships p a c ≡ p c

-- a post that is refused changes no cell
abbrev pub EffectRefused : Type 0
EffectRefused = (depth : ℕ) (townships : List Township) (plant : Plant) (p : Posting) (r : Refusal) (c : Cell) →
    refused_in depth townships p.instrument plant p.tract ≡ Some r →
    effect depth townships plant (ask.Post p) c ≡ plant c

-- overlap is symmetric
abbrev pub OverlapSymmetric : Type 0
OverlapSymmetric = (a b : Ask) → overlap a b ≡ overlap b a

-- a step gives no entry to the chain of the tract of an ask that it doesn't overlap
abbrev pub EntryPast : Type 0
EntryPast = (place : ℕ) (a b : Ask) (given : Answer) → overlap a b ≡ false → entry_of place (tract_of a) b given ≡ []
