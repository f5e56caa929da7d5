-- What an answer and an effect depend on, and what an ask leaves alone.
use Rattle.std.proofs.Common.{◌≡◌, ℕ, true, false, List, ◌&&◌, ◌||◌, refl, ap, ◌∙◌}
use Rattle.std.proofs.{lemmas.Bool.{and_from, and_parts, or_right, false_from_ne_true, both_ways}, Math.Bool.{or_comm}}
use Rattle.title_land.specs.{declared.{survey.{Cell.{Cell}, Township.{Township}}, tract.Land.{Land}}, Lands.{meets}}
use Rattle.title_land.specs.Laws.TractSharing.{common_meets, meets_either_way}
use Rattle.title_store.specs.{Plants.{Plant, is_cell_of, refused_in, plant_effect}, Sheets.{sheet_of}, Laws.SheetLaws.{sheet_same}}
use Rattle.title_store.specs.Laws.EffectLaws.{refused_same}
use Rattle.title_store.specs.Laws.EffectLaws as store
use Rattle.title_chain.specs.{declared.ask.{Ask.{Ask}, Entry.{Entry}, Posting.{Posting}}, StepEntries.{entry_of}}
use Rattle.title_chain.specs.{Asks.{tract_of, is_post, effect, answer_to, post_answer, overlap}, ChainLaws.{OverlapSymmetric, EntryPast}}
use Rattle.title_chain.specs.ChainLaws.{AnswerSame, EffectSame, EffectPast, EffectOutside, EffectRead, EffectRefused}
use Rattle.title_chain.specs.declared.ask.Ask.TheVariants as ask
use Rattle.title_chain.specs.declared.ask.Answer.TheVariants as answer

-- an answer depends on the tract's cells and on the chain alone
pub answer_same : AnswerSame
unfolding answer_to
answer_same depth townships p q listed other (ask.Sheet t) h e = ap answer.Rows (sheet_same depth townships t p q h)
answer_same depth townships p q listed other (ask.Chain t) h e = ap answer.Entries e
answer_same depth townships p q listed other (ask.Post x) h e = ap post_answer (refused_same depth townships x.instrument x.tract p q h)

-- the answer to a sheet is the sheet of the plant
pub answer_sheet : (depth : ℕ) (townships : List Township) (p : Plant) (listed : List Entry) (t : Land) →
    answer_to depth townships p listed (ask.Sheet t) ≡ answer.Rows (sheet_of depth townships p t)
unfolding answer_to
answer_sheet depth townships p listed t = refl

-- the answer to a chain is the chain
pub answer_chain : (depth : ℕ) (townships : List Township) (p : Plant) (listed : List Entry) (t : Land) →
    answer_to depth townships p listed (ask.Chain t) ≡ answer.Entries listed
unfolding answer_to
answer_chain depth townships p listed t = refl

-- the answer to a post says whether it is refused
pub answer_post : (depth : ℕ) (townships : List Township) (p : Plant) (listed : List Entry) (x : Posting) →
    answer_to depth townships p listed (ask.Post x) ≡ post_answer (refused_in depth townships x.instrument p x.tract)
unfolding answer_to
answer_post depth townships p listed x = refl

-- what an ask makes of a cell depends on that cell and on the tract's
pub effect_same : EffectSame
unfolding effect
effect_same depth townships p q (ask.Post x) c h e = store.effect_same depth townships x.instrument x.tract p q c h e
effect_same depth townships p q a c h e = e

-- the effect of a post
pub effect_post : (depth : ℕ) (townships : List Township) (p : Plant) (x : Posting) →
    effect depth townships p (ask.Post x) ≡ plant_effect depth townships x.instrument p x.tract
unfolding effect
effect_post depth townships p x = refl

-- an ask leaves each cell outside its tract
pub effect_outside : EffectOutside
unfolding effect
effect_outside depth townships p (ask.Post x) c h = store.effect_outside depth townships x.instrument x.tract p c h
effect_outside depth townships p a c h = refl

-- an ask that is no post leaves every cell
pub effect_read : EffectRead
unfolding effect
effect_read depth townships p (ask.Post x) c h = cc
effect_read depth townships p a c h = refl

-- a post that is refused leaves every cell
pub effect_refused : EffectRefused
unfolding effect
effect_refused depth townships plant p r c h = store.effect_refused depth townships p.instrument p.tract plant c r h

-- overlap is symmetric
pub overlap_symmetric : OverlapSymmetric
overlap_symmetric a b = ap (λ m. (is_post a || is_post b) && m) (meets_either_way (tract_of a) (tract_of b))
    ∙ ap (λ o. o && meets (tract_of b) (tract_of a)) (or_comm (is_post a) (is_post b))

-- a post that doesn't overlap an ask shares no cell with its tract
pub post_apart : (a : Ask) (x : Posting) → overlap a (ask.Post x) ≡ false → meets (tract_of a) x.tract ≡ false
post_apart a x n = false_from_ne_true _ (λ k. both_ways _ n (and_from _ _ (or_right (is_post a) true refl) k))

-- tracts that share a cell of the plant meet
pub cell_meets : (depth : ℕ) (townships : List Township) (a b : Land) (c : Cell) →
    is_cell_of depth townships a c ≡ true → is_cell_of depth townships b c ≡ true → meets a b ≡ true
cell_meets depth townships a b c h k = common_meets a b c (and_parts _ _ h).0 (and_parts _ _ k).0

-- an ask leaves each cell of the tract of an ask that it doesn't overlap
pub effect_past : EffectPast
effect_past depth townships p a (ask.Post x) c n h = effect_outside depth townships p (ask.Post x) c
    (false_from_ne_true _ (λ k. both_ways _ (post_apart a x n) (cell_meets depth townships (tract_of a) x.tract c h k)))
effect_past depth townships p a b c n h = effect_read depth townships p b c refl

-- a step gives no entry to the chain of the tract of an ask that it doesn't overlap
pub entry_past : EntryPast
entry_past place a (ask.Post x) answer.Posted n = rw (post_apart a x n, entry_of) refl
entry_past place a b given n = refl
