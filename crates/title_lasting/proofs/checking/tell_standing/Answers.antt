-- What stands is told, or the file isn't opened, or the sink fails.
use Rattle.std.{proofs.{Common.{◌∙◌, ℕ, Err, ap, refl, subst, sym}, lemmas.Result.{err_from_is_err_and}}, specs.Io.KnownBytes.{Appends}}
use Rattle.title_page.specs.Rows.{rows_text}
use Rattle.title_daybook.specs.Books.{standing_of}
use Rattle.title_lasting.{specs.{Lastings.{Begins}, Opened.{IsUnopened}, Tells.{standing_rows, standing_text}}, proofs.FileOpened.{cut_is}}
use Rattle.title_lasting.proofs.Tellings.{all_told, unopened, unwritten}
use Rattle.title_lasting.proofs.checking.tell_standing.Goals as goal

pub returns-in_err-found-clause-told : goal.returns-in_err-found-clause-told
returns-in_err-found-clause-told g c =
    let file = g.D.Disk.seen c.args.disk.now in
    let out = err_from_is_err_and c.from_residual.result c.from_residual.ensures.1 in
    unopened file (standing_text file) (g.S.Sink.taken c.args.sink.now) (g.D.Disk.has_failed c.find.new.disk)
    (g.S.Sink.has_failed c.args.sink.now) c.from_residual.result c.in_err-found.field-0.0 (out.1 ∙ ap Err out.2)
    c.in_err-found.ensures.why

pub returns-in_err-desk-clause-told : goal.returns-in_err-desk-clause-told
returns-in_err-desk-clause-told g c =
    let file = g.D.Disk.seen c.args.disk.now in
    let out = err_from_is_err_and c.from_residual-in_err-desk.result c.from_residual-in_err-desk.ensures.1 in
    unopened file (standing_text file) (g.S.Sink.taken c.args.sink.now) (g.D.Disk.has_failed c.find.new.disk)
    (g.S.Sink.has_failed c.args.sink.now) c.from_residual-in_err-desk.result c.in_err-desk.field-0.0 (out.1 ∙ ap Err out.2)
    (subst (λ b. IsUnopened file b c.in_err-desk.field-0.0) (sym c.in_ok-found.ensures.works)
    (c.in_err-desk.ensures.why file c.in_ok-found.ensures.found))

pub returns-in_err-write_standing-clause-told : goal.returns-in_err-write_standing-clause-told
returns-in_err-write_standing-clause-told g c =
    let file = g.D.Disk.seen c.args.disk.now in
    let found = c.in_ok-found.found in
    let s = standing_of found.stands in
    let out = err_from_is_err_and c.from_residual-in_err-write_standing.result c.from_residual-in_err-write_standing.ensures.1 in
    let tail = c.tail_len.ensures.bytes ∙ cut_is file found c.in_ok-found.ensures.found in
    unwritten file (standing_text file) (g.S.Sink.taken c.args.sink.now) (g.D.Disk.has_failed c.find.new.disk)
    (g.S.Sink.has_failed c.write_standing.new.sink) c.from_residual-in_err-write_standing.result s
    (c.in_ok-found.ensures.found.stands, c.in_ok-desk.ensures.served.serial) (out.1 ∙ ap Err out.2)
    (subst (λ (n : ℕ). Begins (g.S.Sink.taken c.args.sink.now) (g.S.Sink.taken c.write_standing.new.sink) (rows_text (standing_rows s n)))
    tail c.in_err-write_standing.ensures.begun) c.in_err-write_standing.ensures.failed

pub returns-clause-told : goal.returns-clause-told
returns-clause-told g c =
    let file = g.D.Disk.seen c.args.disk.now in
    let found = c.in_ok-found.found in
    let s = standing_of found.stands in
    let tail = c.tail_len.ensures.bytes ∙ cut_is file found c.in_ok-found.ensures.found in
    all_told file (standing_text file) (g.S.Sink.taken c.args.sink.now) (g.D.Disk.has_failed c.find.new.disk)
    (g.S.Sink.has_failed c.write_standing.new.sink) _ s (c.in_ok-found.ensures.found.stands, c.in_ok-desk.ensures.served.serial) tt refl
    (subst (λ (n : ℕ). Appends (g.S.Sink.taken c.args.sink.now) (g.S.Sink.taken c.write_standing.new.sink) (rows_text (standing_rows s n)))
    tail c.in_ok-write_standing.ensures.written)
