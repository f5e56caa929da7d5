-- Each of the writes stays behind the closed gate.
use Rattle.std.proofs.Common.{ℕ, ◌+◌, ◌≤◌, List, length, ap, subst, sym, arith}
use Rattle.title_disk.specs.Laws.Moments.{started, goes_on, weakened}
use Rattle.title_journal.{specs.Rest.{StandsAlike}, proofs.Crash.{Begins, begins_itself, begins_alike, keeps_beginning, length-at_rest}}
use Rattle.title_journal.proofs.journal.stage.Goals as goal

pub returns-in_err-write_at-clause-any_moment : goal.returns-in_err-write_at-clause-any_moment
returns-in_err-write_at-clause-any_moment g c =
    let disk = g.D.Disk in
    let rest = c.requires.rest in
    let old = disk.seen c.args.disk.now in
    let behind : length old ≤ c.args.offset + 1 = omega (arith, ap length rest.file, length-at_rest rest.blocks rest.whole, rest.offset) in
    let at_first : (f : List ℕ) → disk.may_leave c.args.disk.now f
    → Begins old f = λ f now. subst (Begins old) (sym (rest.durable f now)) (begins_itself old) in
    let begun = started disk.moment disk.left_since c.args.disk.now (Begins old)
    (λ f left. at_first f (g.met.D.Disk.only_now c.args.disk.now f left)) in
    let after_one = keeps_beginning old (c.args.offset + 1) _ _ _ behind at_first c.write_at.ensures.crash in
    let one = goes_on disk.moment disk.left_since c.args.disk.now c.args.disk.now c.write_at.new.self
    (Begins old) _ begun c.write_at.ensures.time after_one in
    weakened disk.moment disk.left_since c.args.disk.now c.write_at.new.self (Begins old) (StandsAlike old)
    (λ f. begins_alike rest.blocks rest.whole old f rest.file) one

pub returns-in_err-write_at-2-clause-any_moment : goal.returns-in_err-write_at-2-clause-any_moment
returns-in_err-write_at-2-clause-any_moment g c =
    let disk = g.D.Disk in
    let rest = c.requires.rest in
    let old = disk.seen c.args.disk.now in
    let behind : length old ≤ c.args.offset + 1 = omega (arith, ap length rest.file, length-at_rest rest.blocks rest.whole, rest.offset) in
    let at_first : (f : List ℕ) → disk.may_leave c.args.disk.now f
    → Begins old f = λ f now. subst (Begins old) (sym (rest.durable f now)) (begins_itself old) in
    let begun = started disk.moment disk.left_since c.args.disk.now (Begins old)
    (λ f left. at_first f (g.met.D.Disk.only_now c.args.disk.now f left)) in
    let after_one = keeps_beginning old (c.args.offset + 1) _ _ _ behind at_first c.write_at.ensures.crash in
    let one = goes_on disk.moment disk.left_since c.args.disk.now c.args.disk.now c.write_at.new.self
    (Begins old) _ begun c.write_at.ensures.time after_one in
    let after_two = keeps_beginning old (c.args.offset + 2) _ _ _ (omega arith) after_one c.write_at-2.ensures.crash in
    let two = goes_on disk.moment disk.left_since c.args.disk.now c.write_at.new.self c.write_at-2.new.self
    (Begins old) _ one c.write_at-2.ensures.time after_two in
    weakened disk.moment disk.left_since c.args.disk.now c.write_at-2.new.self (Begins old) (StandsAlike old)
    (λ f. begins_alike rest.blocks rest.whole old f rest.file) two

pub returns-in_err-write_at-3-clause-any_moment : goal.returns-in_err-write_at-3-clause-any_moment
returns-in_err-write_at-3-clause-any_moment g c =
    let disk = g.D.Disk in
    let rest = c.requires.rest in
    let old = disk.seen c.args.disk.now in
    let behind : length old ≤ c.args.offset + 1 = omega (arith, ap length rest.file, length-at_rest rest.blocks rest.whole, rest.offset) in
    let at_first : (f : List ℕ) → disk.may_leave c.args.disk.now f
    → Begins old f = λ f now. subst (Begins old) (sym (rest.durable f now)) (begins_itself old) in
    let begun = started disk.moment disk.left_since c.args.disk.now (Begins old)
    (λ f left. at_first f (g.met.D.Disk.only_now c.args.disk.now f left)) in
    let after_one = keeps_beginning old (c.args.offset + 1) _ _ _ behind at_first c.write_at.ensures.crash in
    let one = goes_on disk.moment disk.left_since c.args.disk.now c.args.disk.now c.write_at.new.self
    (Begins old) _ begun c.write_at.ensures.time after_one in
    let after_two = keeps_beginning old (c.args.offset + 2) _ _ _ (omega arith) after_one c.write_at-2.ensures.crash in
    let two = goes_on disk.moment disk.left_since c.args.disk.now c.write_at.new.self c.write_at-2.new.self
    (Begins old) _ one c.write_at-2.ensures.time after_two in
    let after_three = keeps_beginning old (c.args.offset + 2 + length c.args.block.now) _ _ _
    (omega arith) after_two c.write_at-3.ensures.crash in
    let three = goes_on disk.moment disk.left_since c.args.disk.now c.write_at-2.new.self c.write_at-3.new.self
    (Begins old) _ two c.write_at-3.ensures.time after_three in
    weakened disk.moment disk.left_since c.args.disk.now c.write_at-3.new.self (Begins old) (StandsAlike old)
    (λ f. begins_alike rest.blocks rest.whole old f rest.file) three

pub returns-clause-any_moment : goal.returns-clause-any_moment
returns-clause-any_moment g c =
    let disk = g.D.Disk in
    let rest = c.requires.rest in
    let old = disk.seen c.args.disk.now in
    let behind : length old ≤ c.args.offset + 1 = omega (arith, ap length rest.file, length-at_rest rest.blocks rest.whole, rest.offset) in
    let at_first : (f : List ℕ) → disk.may_leave c.args.disk.now f
    → Begins old f = λ f now. subst (Begins old) (sym (rest.durable f now)) (begins_itself old) in
    let begun = started disk.moment disk.left_since c.args.disk.now (Begins old)
    (λ f left. at_first f (g.met.D.Disk.only_now c.args.disk.now f left)) in
    let after_one = keeps_beginning old (c.args.offset + 1) _ _ _ behind at_first c.write_at.ensures.crash in
    let one = goes_on disk.moment disk.left_since c.args.disk.now c.args.disk.now c.write_at.new.self
    (Begins old) _ begun c.write_at.ensures.time after_one in
    let after_two = keeps_beginning old (c.args.offset + 2) _ _ _ (omega arith) after_one c.write_at-2.ensures.crash in
    let two = goes_on disk.moment disk.left_since c.args.disk.now c.write_at.new.self c.write_at-2.new.self
    (Begins old) _ one c.write_at-2.ensures.time after_two in
    let after_three = keeps_beginning old (c.args.offset + 2 + length c.args.block.now) _ _ _
    (omega arith) after_two c.write_at-3.ensures.crash in
    let three = goes_on disk.moment disk.left_since c.args.disk.now c.write_at-2.new.self c.write_at-3.new.self
    (Begins old) _ two c.write_at-3.ensures.time after_three in
    let ended = goes_on disk.moment disk.left_since c.args.disk.now c.write_at-3.new.self c.sync.new.self
    (Begins old) _ three c.sync.ensures.time (λ f now. after_three f (c.sync.ensures.crash f now)) in
    weakened disk.moment disk.left_since c.args.disk.now c.sync.new.self (Begins old) (StandsAlike old)
    (λ f. begins_alike rest.blocks rest.whole old f rest.file) ended
