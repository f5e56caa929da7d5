-- The desk's records are serial, and its viewers learn of them.
use Rattle.std.proofs.{Common.{◌≡◌, ◌∙◌, ◌≤◌, List, ap, subst, sym, reverse, replicate}, lemmas.List.{reverse-reverse}}
use Rattle.title_land.specs.Depth.{depth}
use Rattle.title_chain.specs.{declared.record.Record.{Record}, Alone.{IsSerial, most_parties}}
use Rattle.title_trace.specs.{Due.{IsDue, Setting}, Trace.{committed}}
use Rattle.title_store.specs.Plants.{IsEachOnce}
use Rattle.title_office.{specs.Offices.{sight_on}, proofs.Faults.{handed_on}}
use Rattle.title_office.proofs.office.Office.open_on.Goals as goal

pub returns-in_err-seats-clause-why : goal.returns-in_err-seats-clause-why
returns-in_err-seats-clause-why g c =
    handed_on c.args.viewers c.from_residual.result _ c.from_residual.ensures.1 c.in_err-seats.ensures.why

pub seated_on-requires-clause-serial : goal.seated_on-requires-clause-serial
seated_on-requires-clause-serial g c =
    subst (λ (s : Setting). IsSerial depth s.townships (reverse c.records.result.now)) (sym c.requires.setting)
    (subst (IsSerial depth c.args.desk.setting.townships) (sym c.records.ensures.records) c.is_serial.ensures.committed_records)

pub seated_on-requires-clause-townships : goal.seated_on-requires-clause-townships
seated_on-requires-clause-townships g c =
    c.requires.townships ∙ ap (λ (s : Setting). s.townships) (sym c.requires.setting)

pub seated_on-requires-clause-once : goal.seated_on-requires-clause-once
seated_on-requires-clause-once g c =
    subst IsEachOnce (c.requires.townships ∙ ap (λ (s : Setting). s.townships) (sym c.requires.setting)) c.requires.once

-- what is published is what the desk has committed
pub invariant_of-held : goal.invariant_of-held
invariant_of-held g c =
    let told : c.records.result.now ≡ reverse (committed c.args.desk.trace) =
    sym (reverse-reverse c.records.result.now) ∙ ap reverse c.records.ensures.records in (
      sym c.requires.setting,
      subst (λ (s : Setting). IsDue depth s c.args.desk.trace) (sym c.requires.setting) c.is_due.ensures.due,
      subst (λ (s : Setting). s.parties ≤ most_parties) (sym c.requires.setting) c.is_due.ensures.few,
      c.in_ok-seats.ensures.all ∙ told,
    )

pub returns-clause-viewers : goal.returns-clause-viewers
returns-clause-viewers g c =
    let told : c.records.result.now ≡ reverse (committed c.args.desk.trace) =
    sym (reverse-reverse c.records.result.now) ∙ ap reverse c.records.ensures.records in
    c.in_ok-seats.ensures.viewers ∙ ap (λ (records : List Record). replicate c.args.viewers (sight_on c.args.number records)) told
