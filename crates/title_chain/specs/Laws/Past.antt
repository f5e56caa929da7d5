-- Steps past a record that none of them overlaps.
use Rattle.std.proofs.{Common.{◌≡◌, ℕ, suc, false, List, [], ◌∷◌, ◌++◌, refl, ◌∙◌, sym, length}, lemmas.Bool.{or_parts, or_from}}
use Rattle.std.proofs.lemmas.List.{append-nil, reverse-reverse}
use Rattle.title_land.specs.declared.{survey.{Cell.{Cell}, Township.{Township}}, tract.Land.{Land}}
use Rattle.title_store.specs.Plants.{Plant}
use Rattle.title_chain.specs.{declared.{ask.{Ask.{Ask}, Step.{Step}}, record.Record.{Record}}, Asks.{tract_of, overlap}, ChainLaws.{SameIn}}
use Rattle.title_chain.specs.{StepEntries.{step_entries}, Chains.{record_entries, chain_of}, Alone.{after_steps, plant_after, Plays}}
use Rattle.title_chain.specs.Overlaps.{overlaps, Clear, record_of}
use Rattle.title_chain.specs.Laws.AskLaws.{answer_same, effect_same, effect_past, entry_past, overlap_symmetric}

pub clear_nothing : (own : List Step) → Clear own []
clear_nothing [] = tt
clear_nothing (s ∷ earlier) = (clear_nothing earlier, refl)

pub clear_later : (own theirs : List Step) (s : Step) → Clear own theirs → overlaps s.ask own ≡ false → Clear own (s ∷ theirs)
clear_later [] theirs s h n = tt
clear_later (o ∷ earlier) theirs s h n =
    let parts = or_parts (overlap s.ask o.ask) (overlaps s.ask earlier) n in (
      clear_later earlier theirs s h.0 parts.1,
      or_from _ _ (overlap_symmetric o.ask s.ask ∙ parts.0) h.1,
    )

-- the steps leave the tract of an ask that none of them overlaps
pub steps_past : (depth : ℕ) (townships : List Township) (p : Plant) (own : List Step) (a : Ask) →
    overlaps a own ≡ false → SameIn depth townships (tract_of a) (after_steps depth townships p own) p
steps_past depth townships p [] a n c h = refl
steps_past depth townships p (o ∷ earlier) a n c h =
    let parts = or_parts (overlap a o.ask) (overlaps a earlier) n in
    effect_past depth townships (after_steps depth townships p earlier) a o.ask c parts.0 h
    ∙ steps_past depth townships p earlier a parts.1 c h

-- and they give its chain no entry
pub entries_past : (place : ℕ) (own : List Step) (a : Ask) → overlaps a own ≡ false → step_entries place (tract_of a) own ≡ []
entries_past place [] a n = refl
entries_past place (o ∷ earlier) a n =
    let parts = or_parts (overlap a o.ask) (overlaps a earlier) n in
    let here = entry_past place a o.ask o.answer parts.0 in
    let before = entries_past place earlier a parts.1 in
    cc

-- both plants have the same owners in the tracts of all the steps
abbrev pub SameAt : ℕ → List Township → List Step → Plant → Plant → Type 0
SameAt depth townships [] p q = Unit {0}
SameAt depth townships (s ∷ earlier) p q = SameAt depth townships earlier p q × SameIn depth townships (tract_of s.ask) p q

pub clear_same : (depth : ℕ) (townships : List Township) (p : Plant) (own theirs : List Step) →
    Clear theirs own → SameAt depth townships theirs (after_steps depth townships p own) p
clear_same depth townships p own [] h = tt
clear_same depth townships p own (s ∷ earlier) h =
    (clear_same depth townships p own earlier h.0, steps_past depth townships p own s.ask h.1)

pub steps_same : (depth : ℕ) (townships : List Township) (p q : Plant) (own : List Step) →
    SameAt depth townships own p q → (c : Cell) → p c ≡ q c →
    after_steps depth townships p own c ≡ after_steps depth townships q own c
steps_same depth townships p q [] h c e = e
steps_same depth townships p q (s ∷ earlier) h c e =
    effect_same depth townships (after_steps depth townships p earlier) (after_steps depth townships q earlier) s.ask c
    (λ d inside. steps_same depth townships p q earlier h.0 d (h.1 d inside))
    (steps_same depth townships p q earlier h.0 c e)

-- what a transaction's steps are answered is the same after one more record which none of them overlaps
pub plays_past : (depth : ℕ) (townships : List Township) (records : List Record) (e : ℕ) (own theirs : List Step) → Clear theirs own →
    Plays depth townships records theirs → Plays depth townships (record_of e own ∷ records) theirs
plays_past depth townships records e own [] clear plays = tt
plays_past depth townships records e own (s ∷ earlier) clear plays =
    let p : Plant = plant_after depth townships records in
    let t : Land = tract_of s.ask in
    let same : SameIn depth townships t (after_steps depth townships p earlier)
    (after_steps depth townships (after_steps depth townships p own) earlier) =
    λ d inside. sym (steps_same depth townships (after_steps depth townships p own) p earlier
    (clear_same depth townships p own earlier clear.0) d (steps_past depth townships p own s.ask clear.1 d inside)) in
    let listed : chain_of records earlier t ≡ (record_entries t records ++ step_entries (suc (length records)) t own)
    ++ step_entries 0 t earlier =
    rw (entries_past (suc (length records)) own s.ask clear.1, append-nil) refl in (
      plays_past depth townships records e own earlier clear.0 plays.0,
      plays.1,
      plays.2 ∙ (rw reverse-reverse (answer_same depth townships (after_steps depth townships p earlier)
          (after_steps depth townships (after_steps depth townships p own) earlier) _ _ s.ask same listed)),
    )
