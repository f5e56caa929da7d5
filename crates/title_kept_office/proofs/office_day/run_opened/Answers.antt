-- No day is made of what stood, the block isn't put into the file, or the report isn't written; or all is done.
use Rattle.std.proofs.{Common.{Err, ap}, lemmas.Result.{err_from_is_err_and}}
use Rattle.title_daybook.specs.Books.{standing_of}
use Rattle.title_lasting.specs.Laws.Plants.{block_is}
use Rattle.title_kept_office.proofs.OfficeEnds.{office_told, office_unmade, office_unput, office_untold}
use Rattle.title_kept_office.proofs.office_day.run_opened.Goals as goal

pub returns-in_err-made : goal.returns-in_err-made
returns-in_err-made g c =
    let out = err_from_is_err_and c.from_residual.result c.from_residual.ensures.1 in
    record {
      day = λ old after rest expected. rw (out.1, out.2) (office_unmade g.D.Disk.seen g.D.Disk.may_leave g.D.Disk.has_failed
          g.D.Disk.moment g.D.Disk.left_since c.args.examiners after old c.args.disk.now rest (standing_of c.args.opened.stands)
          (c.requires.stands, c.requires.served.serial) (g.R.Source.left c.args.source.now) (g.R.Source.left c.make.new.source)
          (g.W.Sink.taken c.args.sink.now) (g.R.Source.turns c.args.source.now) (g.R.Source.turns c.make.new.source)
          (g.R.Source.has_failed c.make.new.source) (g.W.Sink.has_failed c.args.sink.now) expected c.make.ensures.within
          c.in_err-made.field-0.0 c.in_err-made.ensures.why c.requires.rest.durable);
    }

pub put_block-requires-clause-block : goal.put_block-requires-clause-block
put_block-requires-clause-block g c = block_is c.in_ok-made.made.block _ _ c.in_ok-made.ensures.made.is_new.adds

pub returns-in_err-put_block : goal.returns-in_err-put_block
returns-in_err-put_block g c =
    let out = err_from_is_err_and c.from_residual-in_err-put_block.result c.from_residual-in_err-put_block.ensures.1 in
    record {
      day = λ old after rest expected. rw (out.1, out.2) (office_unput g.D.Disk.seen g.D.Disk.may_leave g.D.Disk.has_failed
          g.D.Disk.moment g.D.Disk.left_since c.args.examiners after old c.args.disk.now rest (standing_of c.args.opened.stands)
          (c.requires.stands, c.requires.served.serial) (g.R.Source.left c.args.source.now) (g.R.Source.left c.make.new.source)
          (g.W.Sink.taken c.args.sink.now) (g.R.Source.turns c.args.source.now) (g.R.Source.turns c.make.new.source)
          (g.R.Source.has_failed c.make.new.source) (g.W.Sink.has_failed c.args.sink.now) expected c.make.ensures.within
          c.in_ok-made.made c.in_ok-made.ensures.made c.put_block.new.disk c.in_err-put_block.field-0.0
          c.in_err-put_block.ensures.failed c.in_err-put_block.ensures.any_moment
          (λ same. c.in_err-put_block.ensures.before (ap Err same)));
    }

pub returns-in_err-write_closing : goal.returns-in_err-write_closing
returns-in_err-write_closing g c =
    let out = err_from_is_err_and c.from_residual-in_err-write_closing.result c.from_residual-in_err-write_closing.ensures.1 in
    record {
      day = λ old after rest expected. rw (out.1, out.2) (office_untold g.D.Disk.seen g.D.Disk.may_leave g.D.Disk.has_failed
          g.D.Disk.moment g.D.Disk.left_since c.args.examiners after old c.args.disk.now rest (standing_of c.args.opened.stands)
          (c.requires.stands, c.requires.served.serial) (g.R.Source.left c.args.source.now) (g.R.Source.left c.make.new.source)
          (g.W.Sink.taken c.args.sink.now) (g.R.Source.turns c.args.source.now) (g.R.Source.turns c.make.new.source)
          (g.R.Source.has_failed c.make.new.source) (g.W.Sink.has_failed c.write_closing.new.sink) expected c.make.ensures.within
          c.in_ok-made.made c.in_ok-made.ensures.made c.put_block.new.disk
          (λ none. ap g.D.Disk.seen (c.in_ok-put_block.ensures.quiet none)) c.in_ok-put_block.ensures.stands
          c.in_ok-put_block.ensures.rest.durable c.in_ok-put_block.ensures.any_moment (g.W.Sink.taken c.write_closing.new.sink)
          c.in_err-write_closing.ensures.write c.in_err-write_closing.ensures.part);
    }

pub returns : goal.returns
returns g c = record {
  day = λ old after rest expected. office_told g.D.Disk.seen g.D.Disk.may_leave g.D.Disk.has_failed
      g.D.Disk.moment g.D.Disk.left_since c.args.examiners after old c.args.disk.now rest (standing_of c.args.opened.stands)
      (c.requires.stands, c.requires.served.serial) (g.R.Source.left c.args.source.now) (g.R.Source.left c.make.new.source)
      (g.W.Sink.taken c.args.sink.now) (g.R.Source.turns c.args.source.now) (g.R.Source.turns c.make.new.source)
      (g.R.Source.has_failed c.make.new.source) (g.W.Sink.has_failed c.write_closing.new.sink) expected c.make.ensures.within
      c.in_ok-made.made c.in_ok-made.ensures.made c.put_block.new.disk
      (λ none. ap g.D.Disk.seen (c.in_ok-put_block.ensures.quiet none)) c.in_ok-put_block.ensures.stands
      c.in_ok-put_block.ensures.rest.durable c.in_ok-put_block.ensures.any_moment (g.W.Sink.taken c.write_closing.new.sink) tt
      c.in_ok-made.ensures.all c.in_ok-write_closing.ensures.bytes;
}
