-- The tail is cut off, and a closed gate takes its place.
use Rattle.std.proofs.{Common.{◌≡◌, ℕ, List, [], ◌∷◌, take, ◌∙◌, ap, subst, sym}, lemmas.Result.{on_ok_weaker}}
use Rattle.title_disk.specs.{Crashes.{Cut, Torn, Holds}, Laws.Moments.{joined, weakened}}
use Rattle.title_journal.{specs.{Blocks.{front, blocks_in, closed_gate}, Rest.{StandsAlike, texts_of, at_rest}}, proofs.Standing.{stands}}
use Rattle.title_journal.proofs.{Outcomes.{leaves}, Repairing.{cut_alike, cut_done, torn_alike, written_rest}}
use Rattle.title_journal.proofs.journal.close.Goals as goal

pub returns-in_err-cut_through-clause-any_moment : goal.returns-in_err-cut_through-clause-any_moment
returns-in_err-cut_through-clause-any_moment g c =
    let disk = g.D.Disk in
    let found = c.requires.read in
    let old = disk.seen c.args.disk.now in
    let blocks = texts_of c.args.found.now in
    weakened disk.moment disk.left_since c.args.disk.now c.cut_through.new.disk (Cut c.args.found.now.gate.offset old) (StandsAlike old)
    (λ f cut. cut_alike blocks found.whole old _ found.front_is found.ends f (subst (λ (p : ℕ). Cut p old f) found.offset cut))
    c.cut_through.ensures.any_moment

pub returns-clause-any_moment : goal.returns-clause-any_moment
returns-clause-any_moment g c =
    let disk = g.D.Disk in
    let found = c.requires.read in
    let old = disk.seen c.args.disk.now in
    let offset = c.args.found.now.gate.offset in
    let blocks = texts_of c.args.found.now in
    let is_cut : disk.seen c.cut_through.new.disk ≡ front blocks =
    c.in_ok-cut_through.ensures.cut ∙ ap (λ (p : ℕ). take p old) found.offset
    ∙ cut_done blocks found.whole old _ found.front_is found.ends in
    let first = weakened disk.moment disk.left_since c.args.disk.now c.cut_through.new.disk (Cut offset old) (StandsAlike old)
    (λ f cut. cut_alike blocks found.whole old _ found.front_is found.ends f (subst (λ (p : ℕ). Cut p old f) found.offset cut))
    c.cut_through.ensures.any_moment in
    let second = weakened disk.moment disk.left_since c.cut_through.new.disk c.write_through.new.disk
    (Torn offset 1 (disk.seen c.cut_through.new.disk)) (StandsAlike old)
    (λ f torn. torn_alike blocks found.whole old _ found.front_is found.ends f
    (subst (λ (p : ℕ). Torn p 1 (front blocks) f) found.offset (subst (λ (d : List ℕ). Torn offset 1 d f) is_cut torn)))
    c.write_through.ensures.any_moment in
    joined disk.moment disk.left_since c.args.disk.now c.cut_through.new.disk c.write_through.new.disk (StandsAlike old) first second

pub returns-clause-alike : goal.returns-clause-alike
returns-clause-alike g c =
    let disk = g.D.Disk in
    let found = c.requires.read in
    let old = disk.seen c.args.disk.now in
    let offset = c.args.found.now.gate.offset in
    let blocks = texts_of c.args.found.now in
    let is_cut : disk.seen c.cut_through.new.disk ≡ front blocks =
    c.in_ok-cut_through.ensures.cut ∙ ap (λ (p : ℕ). take p old) found.offset
    ∙ cut_done blocks found.whole old _ found.front_is found.ends in
    on_ok_weaker c.write_through.result (λ holds.
    let is : disk.seen c.write_through.new.disk ≡ at_rest blocks =
    written_rest blocks _ (subst (λ (p : ℕ). Holds (front blocks) p (closed_gate ∷ []) (disk.seen c.write_through.new.disk)) found.offset
    (subst (λ (d : List ℕ). Holds d offset (closed_gate ∷ []) (disk.seen c.write_through.new.disk)) is_cut holds)) in
    ap blocks_in is ∙ stands blocks (closed_gate ∷ []) found.whole tt ∙ sym found.stand) c.write_through.ensures.written

pub returns-clause-rest : goal.returns-clause-rest
returns-clause-rest g c =
    let disk = g.D.Disk in
    let found = c.requires.read in
    let old = disk.seen c.args.disk.now in
    let offset = c.args.found.now.gate.offset in
    let blocks = texts_of c.args.found.now in
    let is_cut : disk.seen c.cut_through.new.disk ≡ front blocks =
    c.in_ok-cut_through.ensures.cut ∙ ap (λ (p : ℕ). take p old) found.offset
    ∙ cut_done blocks found.whole old _ found.front_is found.ends in
    leaves c.write_through.result (disk.has_failed c.write_through.new.disk) c.write_through.ensures.written c.write_through.ensures.fits
    c.write_through.ensures.durable c.write_through.ensures.failed
    (λ holds fits durable works.
    let is : disk.seen c.write_through.new.disk ≡ at_rest blocks =
    written_rest blocks _ (subst (λ (p : ℕ). Holds (front blocks) p (closed_gate ∷ []) (disk.seen c.write_through.new.disk)) found.offset
    (subst (λ (d : List ℕ). Holds d offset (closed_gate ∷ []) (disk.seen c.write_through.new.disk)) is_cut holds)) in
    record {
      blocks = blocks;
      stand = ap blocks_in is ∙ stands blocks (closed_gate ∷ []) found.whole tt;
      whole = found.whole;
      file = is;
      offset = found.offset;
      fits = fits;
      durable = durable;
      works = works;
    })
