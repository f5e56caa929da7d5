use Rattle.std.proofs.{Common.{Bor, List, ℕ, ◌+◌, ◌∙◌, sym, refl, arith, inl, inr, Some, [], length}, lemmas.Result.{err_from_is_err_and}}
use Rattle.csv.{specs.{Reading.{Reached, default_config}, Records.{fields_of}}, proofs.ReadFacts.{rows-end, rows-more}}
use Rattle.title_plan.{specs.{Asked.{asked_in}, Onto.{first_of}, Readers.{left_of}}, proofs.ReadOn.{none_read, one_read}}
use Rattle.title_plan.proofs.script.take_rows.Goals as goal

pub rows-init : goal.rows-init
rows-init c =
    let first = c.requires.first in
    record {
      trims = first.trims;
      ready = first.ready;
      config = first.config;
      flexible = first.flexible;
      few = omega arith;
      rest = left_of c.args.reader.now;
      source = first.source;
      count = length (left_of c.args.reader.now) + 1;
      counted = inl (omega arith);
      before = refl;
      stands = c.requires.stands;
      after = rw first.state refl;
    }

pub rows-preserved : goal.rows-preserved
unfolding Reached
rows-preserved c =
    let inv = c.rows.invariant in
    let read = rw c.if-not-found.false at (c.in-Ok.ensures.reads inv.trims inv.ready) in
    let fields = fields_of c.read_byte_record.new.row in
    let m = rows-more (λ (s : Bor (List ℕ)). Some s.now) c.rows.reader c.read_byte_record.new.self fields
    default_config c.rows.reader.state inv.rest inv.rest [] inv.config inv.source (refl, refl) read in
    let on = one_read c.args.schedule (first_of c.args.taken.now.stood (asked_in c.args.taken.now.plan)) (c.rows.n + 1) inv.count
    (asked_in c.rows.taken.plan) fields _ _ _ _ _ inv.counted m.2 inv.after in
    record {
      trims = read.3 ∙ inv.trims;
      ready = inl (c.in-Ok.ensures.ready inv.trims);
      config = read.2 ∙ inv.config;
      flexible = c.in-Ok.ensures.flexible ∙ inv.flexible;
      few = c.in_ok-row.ensures.within;
      rest = m.0;
      source = m.1;
      count = on.count;
      counted = on.counted;
      before = c.in_ok-row.ensures.before ∙ inv.before;
      stands = c.in_ok-row.ensures.stands;
      after = rw (rw inv.before at c.in_ok-row.ensures.ok) at on.comes_to;
    }

pub returns-then-not-found-clause-script : goal.returns-then-not-found-clause-script
returns-then-not-found-clause-script c =
    let inv = c.rows.invariant in
    let read = rw c.if-not-found.true at (c.in-Ok.ensures.reads inv.trims inv.ready) in
    let none = rows-end (λ (s : Bor (List ℕ)). Some s.now) c.rows.reader c.read_byte_record.new.self
    (fields_of c.read_byte_record.new.row) default_config inv.rest inv.config inv.source read in
    sym (rw (none_read inv.count c.rows.reader.state inv.rest none) at inv.after)

pub returns-in_err-row-clause-why : goal.returns-in_err-row-clause-why
unfolding Reached
returns-in_err-row-clause-why c =
    let inv = c.rows.invariant in
    let read = rw c.if-not-found.false at (c.in-Ok.ensures.reads inv.trims inv.ready) in
    let fields = fields_of c.read_byte_record.new.row in
    let m = rows-more (λ (s : Bor (List ℕ)). Some s.now) c.rows.reader c.read_byte_record.new.self fields
    default_config c.rows.reader.state inv.rest inv.rest [] inv.config inv.source (refl, refl) read in
    let on = one_read c.args.schedule (first_of c.args.taken.now.stood (asked_in c.args.taken.now.plan)) (c.rows.n + 1) inv.count
    (asked_in c.rows.taken.plan) fields _ _ _ _ _ inv.counted m.2 inv.after in
    let out = err_from_is_err_and c.from_residual.result c.from_residual.ensures.1 in
    rw (out.1, out.2) (elim c.in_err-row.ensures.err [
      | inl memory ↦ inl memory
      | inr due ↦ inr (sym (rw (rw inv.before at due) at on.comes_to))
    ])
