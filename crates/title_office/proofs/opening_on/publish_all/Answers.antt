-- One record more.
use Rattle.std.proofs.Common.{◌∙◌, ◌++◌, ◌∷◌, [], List, ap, take}
use Rattle.title_chain.specs.declared.record.Record.{Record}
use Rattle.title_office.proofs.Fronts.{next_serial, one_front}
use Rattle.title_office.proofs.opening_on.publish_all.Goals as goal

pub add-requires : goal.add-requires
add-requires g c = record {
  serial = next_serial g.B.Room.setting.townships c.args.records.now c.loop-rec.fronts c.loop-rec.rec-index c.rec-item.result
      c.in_ok-copied.copied c.loop-rec-test.true c.rec-item.is c.in_ok-copied.ensures.copy c.loop-rec.invariant c.requires.serial;
}

pub loop-rec-preserved : goal.loop-rec-preserved
loop-rec-preserved g c =
    c.in_ok-add.ensures.added ∙ ap (λ (f : List Record). f ++ c.in_ok-copied.copied ∷ []) c.loop-rec.invariant
    ∙ ap (λ (r : Record). take c.loop-rec.rec-index c.args.records.now ++ r ∷ []) c.in_ok-copied.ensures.copy
    ∙ one_front c.args.records.now c.loop-rec.rec-index c.rec-item.result c.loop-rec-test.true c.rec-item.is
