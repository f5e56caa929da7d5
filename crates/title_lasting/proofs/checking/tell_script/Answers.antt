-- What stands is told as a script, or no script says it, or the file isn't opened, or the sink fails.
use Rattle.std.proofs.{Common.{◌∙◌, ℕ, List, Err, ap, inl, inr, refl, subst, sym}, lemmas.Result.{err_from_is_err_and}}
use Rattle.std.specs.Io.KnownBytes.{Appends}
use Rattle.title_trace.specs.Trace.{committed}
use Rattle.title_daybook.specs.Books.{standing_of}
use Rattle.title_lasting.specs.{Lastings.{Begins}, Opened.{IsUnopened}, Tells.{IsNoScript, IsScript, script_text}}
use Rattle.title_lasting.proofs.Tellings.{all_told, no_memory, no_script, unopened, unwritten}
use Rattle.title_lasting.proofs.checking.tell_script.Goals as goal

pub returns-in_err-found-clause-told : goal.returns-in_err-found-clause-told
returns-in_err-found-clause-told g c =
    let file = g.D.Disk.seen c.args.disk.now in
    let out = err_from_is_err_and c.from_residual.result c.from_residual.ensures.1 in
    unopened file script_text (g.S.Sink.taken c.args.sink.now) (g.D.Disk.has_failed c.find.new.disk)
    (g.S.Sink.has_failed c.args.sink.now) c.from_residual.result c.in_err-found.field-0.0 (out.1 ∙ ap Err out.2)
    c.in_err-found.ensures.why

pub returns-in_err-desk-clause-told : goal.returns-in_err-desk-clause-told
returns-in_err-desk-clause-told g c =
    let file = g.D.Disk.seen c.args.disk.now in
    let out = err_from_is_err_and c.from_residual-in_err-desk.result c.from_residual-in_err-desk.ensures.1 in
    unopened file script_text (g.S.Sink.taken c.args.sink.now) (g.D.Disk.has_failed c.find.new.disk)
    (g.S.Sink.has_failed c.args.sink.now) c.from_residual-in_err-desk.result c.in_err-desk.field-0.0 (out.1 ∙ ap Err out.2)
    (subst (λ b. IsUnopened file b c.in_err-desk.field-0.0) (sym c.in_ok-found.ensures.works)
    (c.in_err-desk.ensures.why file c.in_ok-found.ensures.found))

pub spell_script-requires : goal.spell_script-requires
spell_script-requires g c = record {
  records = (rw c.deref.ensures at c.records.ensures.records) ∙ ap committed c.in_ok-desk.ensures.served.trace
      ∙ (c.replayed_records_are_committed.ensures.law (standing_of c.in_ok-found.found.stands).records).0;
}

pub returns-in_err-text-clause-told : goal.returns-in_err-text-clause-told
returns-in_err-text-clause-told g c =
    let out = err_from_is_err_and c.from_residual-in_err-text.result c.from_residual-in_err-text.ensures.1 in
    no_memory (g.D.Disk.seen c.args.disk.now) script_text (g.S.Sink.taken c.args.sink.now) (g.D.Disk.has_failed c.find.new.disk)
    (g.S.Sink.has_failed c.args.sink.now) c.from_residual-in_err-text.result (out.1 ∙ ap Err out.2)

pub returns-in_err-read_again-clause-told : goal.returns-in_err-read_again-clause-told
returns-in_err-read_again-clause-told g c =
    let file = g.D.Disk.seen c.args.disk.now in
    let found = c.in_ok-found.found in
    let s = standing_of found.stands in
    let taken = g.S.Sink.taken c.args.sink.now in
    let disk_failed = g.D.Disk.has_failed c.find.new.disk in
    let sink_failed = g.S.Sink.has_failed c.args.sink.now in
    let r = c.from_residual-in_err-read_again.result in
    let out = err_from_is_err_and r c.from_residual-in_err-read_again.ensures.1 in
    let text_is = c.deref-2.ensures.value ∙ c.in_ok-text.ensures.text in
    elim c.in_err-read_again.ensures.none [
      | inl memory ↦ no_memory file script_text taken disk_failed sink_failed r (out.1 ∙ ap Err (out.2 ∙ memory))
      | inr none ↦ no_script file script_text taken disk_failed sink_failed r s
          (c.in_ok-found.ensures.found.stands, c.in_ok-desk.ensures.served.serial) none.0 (out.1 ∙ ap Err (out.2 ∙ none.1))
          (subst (λ (t : List ℕ). IsNoScript t none.0) text_is none.2)
    ]

pub returns-in_err-write_all-clause-told : goal.returns-in_err-write_all-clause-told
returns-in_err-write_all-clause-told g c =
    let file = g.D.Disk.seen c.args.disk.now in
    let s = standing_of c.in_ok-found.found.stands in
    let taken = g.S.Sink.taken c.args.sink.now in
    let out = err_from_is_err_and c.from_residual-in_err-write_all.result c.from_residual-in_err-write_all.ensures.1 in
    let text_is = c.deref-3.ensures.value ∙ c.in_ok-text.ensures.text in
    unwritten file script_text taken (g.D.Disk.has_failed c.find.new.disk) (g.S.Sink.has_failed c.write_all.new.sink)
    c.from_residual-in_err-write_all.result s (c.in_ok-found.ensures.found.stands, c.in_ok-desk.ensures.served.serial)
    (out.1 ∙ ap Err out.2)
    (subst (λ (t : List ℕ). Begins taken (g.S.Sink.taken c.write_all.new.sink) t) text_is c.in_err-write_all.ensures.part)
    c.in_err-write_all.ensures.write

pub returns-clause-told : goal.returns-clause-told
returns-clause-told g c =
    let file = g.D.Disk.seen c.args.disk.now in
    let s = standing_of c.in_ok-found.found.stands in
    let taken = g.S.Sink.taken c.args.sink.now in
    let text_is = c.deref-3.ensures.value ∙ c.in_ok-text.ensures.text in
    all_told file script_text taken (g.D.Disk.has_failed c.find.new.disk) (g.S.Sink.has_failed c.write_all.new.sink) _ s
    (c.in_ok-found.ensures.found.stands, c.in_ok-desk.ensures.served.serial) tt refl
    (subst (λ (t : List ℕ). Appends taken (g.S.Sink.taken c.write_all.new.sink) t) text_is c.in_ok-write_all.ensures.bytes)

pub returns-clause-script : goal.returns-clause-script
returns-clause-script g c =
    let s = standing_of c.in_ok-found.found.stands in
    let text_is = c.deref-2.ensures.value ∙ c.in_ok-text.ensures.text in
    (s, (c.in_ok-found.ensures.found.stands, c.in_ok-desk.ensures.served.serial), subst IsScript text_is c.in_ok-read_again.ensures.script)
