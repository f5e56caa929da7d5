-- The block is staged behind its gate, and the gate is opened.
use Rattle.std.proofs.Common.{◌≡◌, ℕ, List, [], ◌∷◌, ◌++◌, inl, ◌∙◌, ap, subst, sym, arith}
use Rattle.title_disk.specs.{Crashes.{Torn, Holds}, Laws.Moments.{joined, weakened}}
use Rattle.title_journal.specs.{Blocks.{blocks_in, open_gate, closed_gate}, Rest.{StandsAlike, IsBeforeOrAfter, at_rest, with_block}}
use Rattle.title_journal.proofs.{Standing.{stands, length-front_more}, Crash.{gated, staged_is, torn_gate, opened}}
use Rattle.title_journal.{proofs.Outcomes.{went_well, no_error}, specs.Laws.Gates.{all_and_one}}
use Rattle.title_journal.proofs.journal.put.Goals as goal

pub returns-in_err-map_err-2-clause-any_moment : goal.returns-in_err-map_err-2-clause-any_moment
returns-in_err-map_err-2-clause-any_moment g c =
    let disk = g.D.Disk in
    let rest = c.requires.rest in
    let block = c.args.block.now in
    let is_block = c.requires.block in
    let old = disk.seen c.args.disk.now in
    let offset = c.args.gate.now.offset in
    let staged : disk.seen c.stage.new.disk ≡ gated rest.blocks rest.whole block is_block closed_gate =
    went_well c.stage.result c.in_ok-map_err.ensures.variant c.stage.ensures.staged
    ∙ staged_is rest.blocks rest.whole block is_block old rest.file in
    let first = weakened disk.moment disk.left_since c.args.disk.now c.stage.new.disk (StandsAlike old) (IsBeforeOrAfter old block)
    (λ f alike. inl alike) c.stage.ensures.any_moment in
    let second = weakened disk.moment disk.left_since c.stage.new.disk c.write_through.new.disk
    (Torn offset 1 (disk.seen c.stage.new.disk)) (IsBeforeOrAfter old block)
    (λ f torn. torn_gate rest.blocks rest.whole block is_block old f rest.stand
    (subst (λ (p : ℕ). Torn p 1 (gated rest.blocks rest.whole block is_block closed_gate) f) rest.offset
    (subst (λ (d : List ℕ). Torn offset 1 d f) staged torn)))
    c.write_through.ensures.any_moment in
    joined disk.moment disk.left_since c.args.disk.now c.stage.new.disk c.write_through.new.disk (IsBeforeOrAfter old block) first second

pub returns-clause-any_moment : goal.returns-clause-any_moment
returns-clause-any_moment g c =
    let disk = g.D.Disk in
    let rest = c.requires.rest in
    let block = c.args.block.now in
    let is_block = c.requires.block in
    let old = disk.seen c.args.disk.now in
    let offset = c.args.gate.now.offset in
    let staged : disk.seen c.stage.new.disk ≡ gated rest.blocks rest.whole block is_block closed_gate =
    went_well c.stage.result c.in_ok-map_err.ensures.variant c.stage.ensures.staged
    ∙ staged_is rest.blocks rest.whole block is_block old rest.file in
    let first = weakened disk.moment disk.left_since c.args.disk.now c.stage.new.disk (StandsAlike old) (IsBeforeOrAfter old block)
    (λ f alike. inl alike) c.stage.ensures.any_moment in
    let second = weakened disk.moment disk.left_since c.stage.new.disk c.write_through.new.disk
    (Torn offset 1 (disk.seen c.stage.new.disk)) (IsBeforeOrAfter old block)
    (λ f torn. torn_gate rest.blocks rest.whole block is_block old f rest.stand
    (subst (λ (p : ℕ). Torn p 1 (gated rest.blocks rest.whole block is_block closed_gate) f) rest.offset
    (subst (λ (d : List ℕ). Torn offset 1 d f) staged torn)))
    c.write_through.ensures.any_moment in
    joined disk.moment disk.left_since c.args.disk.now c.stage.new.disk c.write_through.new.disk (IsBeforeOrAfter old block) first second

pub returns-clause-stands : goal.returns-clause-stands
returns-clause-stands g c =
    let disk = g.D.Disk in
    let rest = c.requires.rest in
    let block = c.args.block.now in
    let is_block = c.requires.block in
    let old = disk.seen c.args.disk.now in
    let offset = c.args.gate.now.offset in
    let staged : disk.seen c.stage.new.disk ≡ gated rest.blocks rest.whole block is_block closed_gate =
    went_well c.stage.result c.in_ok-map_err.ensures.variant c.stage.ensures.staged
    ∙ staged_is rest.blocks rest.whole block is_block old rest.file in
    let holds = went_well c.write_through.result c.in_ok-map_err-2.ensures.variant c.write_through.ensures.written in
    let is : disk.seen c.write_through.new.disk ≡ at_rest (rest.blocks ++ block ∷ []) =
    opened rest.blocks rest.whole block is_block _
    (subst (λ (p : ℕ). Holds (gated rest.blocks rest.whole block is_block closed_gate) p (open_gate ∷ [])
    (disk.seen c.write_through.new.disk)) rest.offset
    (subst (λ (d : List ℕ). Holds d offset (open_gate ∷ []) (disk.seen c.write_through.new.disk)) staged holds)) in
    let whole = all_and_one rest.blocks block rest.whole is_block in
    let stand = ap blocks_in is ∙ stands (rest.blocks ++ block ∷ []) (closed_gate ∷ []) whole tt in
    stand ∙ sym (ap (with_block block) rest.stand)

pub returns-clause-rest : goal.returns-clause-rest
returns-clause-rest g c =
    let disk = g.D.Disk in
    let rest = c.requires.rest in
    let block = c.args.block.now in
    let is_block = c.requires.block in
    let old = disk.seen c.args.disk.now in
    let offset = c.args.gate.now.offset in
    let staged : disk.seen c.stage.new.disk ≡ gated rest.blocks rest.whole block is_block closed_gate =
    went_well c.stage.result c.in_ok-map_err.ensures.variant c.stage.ensures.staged
    ∙ staged_is rest.blocks rest.whole block is_block old rest.file in
    let holds = went_well c.write_through.result c.in_ok-map_err-2.ensures.variant c.write_through.ensures.written in
    let is : disk.seen c.write_through.new.disk ≡ at_rest (rest.blocks ++ block ∷ []) =
    opened rest.blocks rest.whole block is_block _
    (subst (λ (p : ℕ). Holds (gated rest.blocks rest.whole block is_block closed_gate) p (open_gate ∷ [])
    (disk.seen c.write_through.new.disk)) rest.offset
    (subst (λ (d : List ℕ). Holds d offset (open_gate ∷ []) (disk.seen c.write_through.new.disk)) staged holds)) in
    let whole = all_and_one rest.blocks block rest.whole is_block in
    let stand = ap blocks_in is ∙ stands (rest.blocks ++ block ∷ []) (closed_gate ∷ []) whole tt in
    record {
      blocks = rest.blocks ++ block ∷ [];
      stand = stand;
      whole = whole;
      file = is;
      offset = omega (arith, rest.offset, length-front_more rest.blocks block);
      fits = went_well c.write_through.result c.in_ok-map_err-2.ensures.variant c.write_through.ensures.fits;
      durable = went_well c.write_through.result c.in_ok-map_err-2.ensures.variant c.write_through.ensures.durable;
      works = c.write_through.ensures.failed ∙ no_error c.write_through.result c.in_ok-map_err-2.ensures.variant;
    }
