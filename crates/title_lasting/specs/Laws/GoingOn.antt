-- Records that come to those that were committed. Lists have the newest first.
use Rattle.std.{proofs.Common.{◌≡◌, ◌∙◌, ℕ, List, [], ◌∷◌, ◌++◌, refl, sym, ap, append_assoc}, specs.List.{AllByRecursion}}
use Rattle.title_land.specs.declared.survey.Township.{Township}
use Rattle.title_chain.specs.{declared.record.Record.{Record}, Alone.{IsSerial}, Overlaps.{record_of}}
use Rattle.title_trace.specs.{declared.call.{Call.{Call}, Reply.{Reply}}, Trace.{committed, committed_by, examiner_of, open_steps}}
use Rattle.title_trace.specs.declared.call.Reply.TheVariants as reply

-- a reply commits a record, or none
by_reply : (r : Reply) (x : Record) (records : List Record) → (news : List Record) × (committed_by r x records ≡ news ++ records)
by_reply (reply.Committed place) x records = (x ∷ [], refl)
by_reply _ x records = ([], refl)

-- calls more commit records more
pub commits_more : (more before : List Call) → (news : List Record) × (committed (more ++ before) ≡ news ++ committed before)
commits_more [] before = ([], refl)
commits_more (call ∷ more) before =
    let rest = commits_more more before in
    let e : ℕ = examiner_of call.request in
    let here = by_reply call.reply (record_of e (open_steps (more ++ before) e)) (committed (more ++ before)) in (
      here.0 ++ rest.0,
      here.1 ∙ ap (λ (records : List Record). here.0 ++ records) rest.1 ∙ sym (append_assoc here.0 rest.0 (committed before)),
    )

-- those before serial records are serial
pub earlier_serial : (depth : ℕ) (townships : List Township) (news older : List Record) → IsSerial depth townships (news ++ older)
    → IsSerial depth townships older
earlier_serial depth townships [] older serial = serial
earlier_serial depth townships (r ∷ news) older serial = earlier_serial depth townships news older serial.0

-- what all of some have, those before them have
pub all_earlier : {A : Type 0} (P : A → Type 0) (news older : List A) → AllByRecursion P (news ++ older) → AllByRecursion P older
all_earlier P [] older all = all
all_earlier P (x ∷ news) older all = all_earlier P news older all.1
