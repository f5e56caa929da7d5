-- A plant that is made of records, one after another, and the sheets that it shows.
use Rattle.std.proofs.Common.{◌≡◌, ◌<◌, ◌+◌, ℕ, List, [], length, take, reverse, get_or, ap, ◌∙◌, sym, subst, arith}
use Rattle.std.proofs.Math.Seq.{take-length}
use Rattle.title_land.specs.{Depth.{depth}, declared.{survey.Township.{Township}, tract.Land.{Land}}}
use Rattle.title_store.specs.{declared.sheet_row.SheetRow.{SheetRow}, Plants.{Plant, SameContent}, Loans.{Loan}, Sheets.{sheet_of}}
use Rattle.title_chain.specs.{declared.{record.Record.{Record}, ask.Step.{Step}}, Alone.{after_steps, IsSerial}, Replays.{Replays}}
use Rattle.title_chain.specs.Laws.PostsAgain.{same_plant, can_replay_record, record_content}
use Rattle.title_views.specs.Views.{IsMade, sheet_after}

-- the steps of the next record can be replayed
pub replays_next : (townships : List Township) (records : List Record) (k : ℕ) (x : Record) (l : List Step) (content : Plant)
    (declared : List Township) (out : List Loan) → k < length records → x ≡ get_or records k x → l ≡ (get_or records k x).steps
    → IsMade townships records k content declared out → IsSerial depth townships (reverse records)
    → Replays depth declared content (reverse l)
replays_next townships records k x l content declared out lt is steps m serial =
    subst (λ (own : List Step). Replays depth declared content (reverse own)) (sym (steps ∙ ap (λ (r : Record). r.steps) (sym is)))
    (can_replay_record depth declared townships content records k x lt is m.2 m.1 serial)

-- and the plant is then made of that record too
pub made_next : (townships : List Township) (records : List Record) (k : ℕ) (x : Record) (l : List Step) (p q : Plant)
    (before after : List Township) (out left : List Loan) → k < length records → x ≡ get_or records k x
    → l ≡ (get_or records k x).steps → IsMade townships records k p before out
    → SameContent (after_steps depth before p (reverse l)) q → after ≡ before → left ≡ []
    → IsMade townships records (k + 1) q after left
made_next townships records k x l p q before after out left lt is steps m next same none =
    let own = steps ∙ ap (λ (r : Record). r.steps) (sym is) in (
      omega (arith, lt),
      record_content depth before townships p q records k x lt is m.2 m.1
          (subst (λ (s : List Step). SameContent (after_steps depth before p (reverse s)) q) own next),
      same ∙ m.2,
      none,
    )

-- a plant that was made of all records shows the sheets after them
pub made_sheet : (townships : List Township) (records : List Record) (count : ℕ) (content : Plant) (declared : List Township)
    (out : List Loan) (land : Land) (rows : List SheetRow) → IsMade townships records count content declared out
    → count ≡ length records → rows ≡ sheet_of depth declared content land → rows ≡ sheet_after townships records land
made_sheet townships records count content declared out land rows m n is =
    is ∙ ap (λ (ts : List Township). sheet_of depth ts content land) m.2
    ∙ ap (λ (p : Plant). sheet_of depth townships p land) (same_plant _ content m.1)
    ∙ ap (λ (k : ℕ). sheet_after townships (take k records) land) n
    ∙ ap (λ (l : List Record). sheet_after townships l land) (take-length records)
