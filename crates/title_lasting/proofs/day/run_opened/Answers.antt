-- No day is made of what stood, the block isn't put into the file, or the report isn't written; or all is done.
use Rattle.std.proofs.{Common.{Err, ap}, lemmas.Result.{err_from_is_err_and}}
use Rattle.title_disk.specs.{Crashes.{LeavesOnly}, Laws.Moments.{weakened}}
use Rattle.title_journal.specs.Rest.{StandsAlike}
use Rattle.title_daybook.specs.Books.{standing_of}
use Rattle.title_lasting.specs.{Openings.{StandsAs}, Laws.Plants.{alike_stands, block_is}}
use Rattle.title_lasting.proofs.{FileOpened.{untouched}, Endings.{ends_told, ends_unmade, ends_unput, ends_untold}}
use Rattle.title_lasting.proofs.day.run_opened.Goals as goal

pub returns-in_err-made : goal.returns-in_err-made
returns-in_err-made g c =
    let disk = c.args.disk.now in
    let file = g.D.Disk.seen disk in
    let alike = untouched g.D.Disk.seen g.D.Disk.may_leave g.D.Disk.moment g.D.Disk.left_since g.met.D.Disk.only_now disk
    c.requires.rest.durable in
    let same = weakened g.D.Disk.moment g.D.Disk.left_since disk disk (StandsAlike file) (StandsAs file) (alike_stands file) alike in
    let out = err_from_is_err_and c.from_residual.result c.from_residual.ensures.1 in
    record {
      day = rw (out.1, out.2) (ends_unmade c.args.schedule file (g.R.Source.left c.args.source.now) (g.R.Source.left c.make.new.source)
          (g.R.Source.turns c.args.source.now) (g.R.Source.turns c.make.new.source) (g.W.Sink.taken c.args.sink.now)
          (g.D.Disk.has_failed disk) (g.R.Source.has_failed c.make.new.source) (g.W.Sink.has_failed c.args.sink.now)
          c.make.ensures.within (standing_of c.args.opened.stands) (c.requires.stands, c.requires.served.serial)
          (LeavesOnly g.D.Disk.moment g.D.Disk.left_since disk disk) (weakened g.D.Disk.moment g.D.Disk.left_since disk disk)
          c.in_err-made.field-0.0 (g.D.Disk.may_leave disk) c.in_err-made.ensures.why c.requires.rest.durable same);
    }

pub put_block-requires-clause-block : goal.put_block-requires-clause-block
put_block-requires-clause-block g c = block_is c.in_ok-made.made.block _ _ c.in_ok-made.ensures.made.is_new.adds

pub returns-in_err-put_block : goal.returns-in_err-put_block
returns-in_err-put_block g c =
    let disk = c.args.disk.now in
    let new = c.put_block.new.disk in
    let file = g.D.Disk.seen disk in
    let out = err_from_is_err_and c.from_residual-in_err-put_block.result c.from_residual-in_err-put_block.ensures.1 in
    record {
      day = rw (out.1, out.2) (ends_unput c.args.schedule file (g.R.Source.left c.args.source.now) (g.R.Source.left c.make.new.source)
          (g.R.Source.turns c.args.source.now) (g.R.Source.turns c.make.new.source) (g.W.Sink.taken c.args.sink.now)
          (g.D.Disk.has_failed new) (g.R.Source.has_failed c.make.new.source) (g.W.Sink.has_failed c.args.sink.now)
          c.make.ensures.within (standing_of c.args.opened.stands) (c.requires.stands, c.requires.served.serial)
          (LeavesOnly g.D.Disk.moment g.D.Disk.left_since disk new) (weakened g.D.Disk.moment g.D.Disk.left_since disk new)
          c.in_ok-made.made c.in_ok-made.ensures.made c.in_err-put_block.field-0.0 (g.D.Disk.seen new) (g.D.Disk.may_leave new)
          c.in_err-put_block.ensures.failed c.in_err-put_block.ensures.any_moment
          (λ same. c.in_err-put_block.ensures.before (ap Err same)));
    }

pub returns-in_err-write_served : goal.returns-in_err-write_served
returns-in_err-write_served g c =
    let disk = c.args.disk.now in
    let new = c.put_block.new.disk in
    let file = g.D.Disk.seen disk in
    let out = err_from_is_err_and c.from_residual-in_err-write_served.result c.from_residual-in_err-write_served.ensures.1 in
    record {
      day = rw (out.1, out.2) (ends_untold c.args.schedule file (g.R.Source.left c.args.source.now) (g.R.Source.left c.make.new.source)
          (g.R.Source.turns c.args.source.now) (g.R.Source.turns c.make.new.source) (g.W.Sink.taken c.args.sink.now)
          (g.D.Disk.has_failed new) (g.R.Source.has_failed c.make.new.source) (g.W.Sink.has_failed c.write_served.new.sink)
          c.make.ensures.within (standing_of c.args.opened.stands) (c.requires.stands, c.requires.served.serial)
          (LeavesOnly g.D.Disk.moment g.D.Disk.left_since disk new) (weakened g.D.Disk.moment g.D.Disk.left_since disk new)
          c.in_ok-made.made c.in_ok-made.ensures.made (g.D.Disk.seen new) (g.D.Disk.may_leave new)
          (λ none. ap g.D.Disk.seen (c.in_ok-put_block.ensures.quiet none)) c.in_ok-put_block.ensures.stands
          c.in_ok-put_block.ensures.rest.durable c.in_ok-put_block.ensures.any_moment (g.W.Sink.taken c.write_served.new.sink)
          c.in_err-write_served.ensures.write c.in_err-write_served.ensures.part);
    }

pub returns : goal.returns
returns g c =
    let disk = c.args.disk.now in
    let new = c.put_block.new.disk in
    let file = g.D.Disk.seen disk in
    record {
      day = ends_told c.args.schedule file (g.R.Source.left c.args.source.now) (g.R.Source.left c.make.new.source)
          (g.R.Source.turns c.args.source.now) (g.R.Source.turns c.make.new.source) (g.W.Sink.taken c.args.sink.now)
          (g.D.Disk.has_failed new) (g.R.Source.has_failed c.make.new.source) (g.W.Sink.has_failed c.write_served.new.sink)
          c.make.ensures.within (standing_of c.args.opened.stands) (c.requires.stands, c.requires.served.serial)
          (LeavesOnly g.D.Disk.moment g.D.Disk.left_since disk new) (weakened g.D.Disk.moment g.D.Disk.left_since disk new)
          c.in_ok-made.made c.in_ok-made.ensures.made (g.D.Disk.seen new) (g.D.Disk.may_leave new)
          (λ none. ap g.D.Disk.seen (c.in_ok-put_block.ensures.quiet none)) c.in_ok-put_block.ensures.stands
          c.in_ok-put_block.ensures.rest.durable c.in_ok-put_block.ensures.any_moment (g.W.Sink.taken c.write_served.new.sink)
          tt c.in_ok-made.ensures.all c.in_ok-write_served.ensures.bytes;
    }
