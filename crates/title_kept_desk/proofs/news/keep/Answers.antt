-- What the rows have added isn't put together, or isn't put into the file; or it is there.
use Rattle.std.proofs.{Common.{Err, ◌≤◌, ap, subst, sym}, lemmas.{List.{length-map}, Result.{err_from_is_err_and}}}
use Rattle.std.specs.String.{string_bytes}
use Rattle.title_journal.specs.{Rest.{IsAtRest}, declared.blocks.Gate.{Gate}}
use Rattle.title_chain.specs.Alone.{most_parties}
use Rattle.title_counter.specs.Views.{counter_of}
use Rattle.title_lasting.specs.Kept.{text_in}
use Rattle.title_lasting.specs.Laws.{CellsSaid.{described_have_cells}, Plants.{block_is}}
use Rattle.title_kept_desk.specs.Sittings.{HasAt}
use Rattle.title_kept_desk.proofs.BatchKept.{still_there, unput, can_be_written, either_side, no_less_names, no_less_records}
use Rattle.title_kept_desk.proofs.BatchKept.{no_less_townships, on_to}
use Rattle.title_kept_desk.proofs.BatchMade.{adds_at, has_then, kept_serial}
use Rattle.title_kept_desk.proofs.news.keep.Goals as goal

pub clerk_block-requires : goal.clerk_block-requires
clerk_block-requires g c =
    let cells = c.lands_have_cells.ensures.law in
    let lands = described_have_cells cells c.descriptions_stay.ensures.law in
    let was = c.requires.came.0 in
    let up = c.requires.came.1 in
    let now = counter_of c.args.clerk.now in
    let on = on_to lands cells was now c.requires.came.2 in
    record {
      townships = no_less_townships was now on _ up.so_much.townships;
      parties = subst (λ n. c.args.mark.now.stood.parties ≤ n) (length-map c.args.clerk.now.declared.parties.keys string_bytes)
          (no_less_names was now on _ up.so_much.names);
      records = no_less_records was now on _ up.so_much.records;
    }

pub put_block-requires : goal.put_block-requires
put_block-requires g c =
    let cells = c.lands_have_cells.ensures.law in
    let lands = described_have_cells cells c.descriptions_stay.ensures.law in
    let was = c.requires.came.0 in
    let up = c.requires.came.1 in
    let clerk = c.args.clerk.now in
    let now = counter_of clerk in
    let few = subst (λ n. n ≤ most_parties) (sym (length-map clerk.declared.parties.keys string_bytes)) clerk.declared.few in
    let can = can_be_written lands cells was now c.requires.came.2 c.replayed_records_are_committed.ensures.law
    c.idle_have_no_steps.ensures.none c.is_sound.ensures.sound clerk.declared.once clerk.declared.few_townships few
    c.clerk_block.ensures.few in
    let adds = adds_at c.added_reads_back.ensures.law c.kept_are_written.ensures.law was now
    (on_to lands cells was now c.requires.came.2) can (g.D.Disk.seen c.args.disk.now) up.stands c.args.mark.now.stood up.so_much
    (text_in c.in_ok-block.block) c.in_ok-block.ensures.block in
    record { rest = up.rest; block = block_is c.in_ok-block.block _ _ adds }

pub returns-in_err-block : goal.returns-in_err-block
returns-in_err-block g c =
    let disk = c.args.disk.now in
    let out = err_from_is_err_and c.from_residual.result c.from_residual.ensures.1 in
    rw (out.1, out.2) (record {
      kept = λ was up comes. (
        up,
        still_there g.D.Disk.seen g.D.Disk.may_leave g.D.Disk.has_failed g.D.Disk.moment g.D.Disk.left_since g.met.D.Disk.only_now disk
            (HasAt was) up.rest.durable up.stands,
      );
    })

pub returns-in_err-put_block : goal.returns-in_err-put_block
returns-in_err-put_block g c =
    let cells = c.lands_have_cells.ensures.law in
    let lands = described_have_cells cells c.descriptions_stay.ensures.law in
    let disk = c.args.disk.now in
    let new = c.put_block.new.disk in
    let clerk = c.args.clerk.now in
    let now = counter_of clerk in
    let few = subst (λ n. n ≤ most_parties) (sym (length-map clerk.declared.parties.keys string_bytes)) clerk.declared.few in
    let out = err_from_is_err_and c.from_residual-in_err-put_block.result c.from_residual-in_err-put_block.ensures.1 in
    rw (out.1, out.2) (record {
      kept = λ was up comes.
          let can = can_be_written lands cells was now comes c.replayed_records_are_committed.ensures.law
          c.idle_have_no_steps.ensures.none c.is_sound.ensures.sound clerk.declared.once clerk.declared.few_townships few
          c.clerk_block.ensures.few in
          let adds = adds_at c.added_reads_back.ensures.law c.kept_are_written.ensures.law was now (on_to lands cells was now comes) can
          (g.D.Disk.seen disk) up.stands c.args.mark.now.stood up.so_much (text_in c.in_ok-block.block)
          c.in_ok-block.ensures.block in
          unput g.D.Disk.seen g.D.Disk.may_leave g.D.Disk.has_failed g.D.Disk.moment g.D.Disk.left_since disk new was now
          (text_in c.in_ok-block.block) up.stands adds c.kept_records_are_serial.ensures.law c.is_sound.ensures.sound
          g.met.D.Disk.counts_now c.args.mark.now c.in_err-put_block.field-0.0 c.in_err-put_block.ensures.failed
          c.in_err-put_block.ensures.any_moment
          (λ same. c.in_err-put_block.ensures.before (ap Err same));
    })

pub returns : goal.returns
returns g c =
    let cells = c.lands_have_cells.ensures.law in
    let lands = described_have_cells cells c.descriptions_stay.ensures.law in
    let disk = c.args.disk.now in
    let new = c.put_block.new.disk in
    let clerk = c.args.clerk.now in
    let now = counter_of clerk in
    let few = subst (λ n. n ≤ most_parties) (sym (length-map clerk.declared.parties.keys string_bytes)) clerk.declared.few in
    record {
      kept = λ was up comes.
          let can = can_be_written lands cells was now comes c.replayed_records_are_committed.ensures.law
          c.idle_have_no_steps.ensures.none c.is_sound.ensures.sound clerk.declared.once clerk.declared.few_townships few
          c.clerk_block.ensures.few in
          let adds = adds_at c.added_reads_back.ensures.law c.kept_are_written.ensures.law was now (on_to lands cells was now comes) can
          (g.D.Disk.seen disk) up.stands c.args.mark.now.stood up.so_much (text_in c.in_ok-block.block)
          c.in_ok-block.ensures.block in (
            record {
              rest = subst (λ (gate : Gate). IsAtRest g.D.Disk.seen g.D.Disk.may_leave g.D.Disk.has_failed new gate.offset)
                  (sym c.mark_at.ensures.gate) c.in_ok-put_block.ensures.rest;
              stands = has_then (g.D.Disk.seen disk) (g.D.Disk.seen new) was now (text_in c.in_ok-block.block) up.stands adds
                  (kept_serial c.kept_records_are_serial.ensures.law now c.is_sound.ensures.sound) c.in_ok-put_block.ensures.stands;
              so_much = c.mark_at.ensures.stood;
            },
            either_side g.D.Disk.seen g.D.Disk.may_leave g.D.Disk.has_failed g.D.Disk.moment g.D.Disk.left_since disk new was now
                (text_in c.in_ok-block.block) up.stands adds c.kept_records_are_serial.ensures.law c.is_sound.ensures.sound
                c.in_ok-put_block.ensures.any_moment,
          );
    }
