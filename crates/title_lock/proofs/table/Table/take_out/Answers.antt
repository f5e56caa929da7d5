-- One node's holders lose an examiner, and are dropped where nobody is left.
use Rattle.std.proofs.Common.{◌∙◌, ap, sym, eqb, Some, None, arith, rules}
use Rattle.title_lock.{specs.Tables.{holders_at}, proofs.{TableLaws.{removed, kept}, IdleLaws.{idles_released}}}
use Rattle.title_lock.proofs.TableLaws.{Writes, stood, stands, taken_at, no_more_at, is_found, left_of, left_modes, left_idle, left_used}
use Rattle.title_lock.proofs.table.Table.take_out.Goals.{then-is_free+in-Some-1, then-is_free+in-None-1, else-is_free}
use Rattle.title_lock.proofs.table.Table.take_out.Goals as goal

pub returns-in_default-clause-modes : goal.returns-in_default-clause-modes
returns-in_default-clause-modes c f n =
    let at = c.args.spot.now in
    let was = stood c.args.self.now.holders at.number at.is.node None at.is.numbered c.in_default.ensures.value in
    grind (arith, was n, ap (λ z. holders_at z n) c.get_mut.follows.holds-at-none)

pub returns-in_default-clause-used : goal.returns-in_default-clause-used
returns-in_default-clause-used c used = record {
  each = λ n. grind (arith, ap (λ z. holders_at z n) c.get_mut.follows.holds-at-none, used.each n);
}

pub returns : goal.returns
returns c =
    let e = c.args.examiner in
    let at = c.args.spot.now in
    let m = c.args.self.now.holders in
    let h = c.in-Some.holders.now in
    let w = c.release-had.new.self in
    let taken = c.release-had.ensures in
    let found = c.in-Some.ensures.value in
    let first = ((c.get_mut.follows.holds w).3 (is_found _ _ found)).0 in
    let n = c.get_mut.follows.lender w in
    let left : Writes m c.if-is_free.self.holders at.number (left_of w) = elim c.if-is_free.branch [
      | then-is_free+in-Some-1 b ↦ rw b.self-is (removed m n b.remove.new.self at.number w
          (sym c.is_free.ensures.free ∙ b.if-is_free.true) first b.remove.ensures.updates.0)
      | then-is_free+in-None-1 b ↦ rw b.self-is (removed m n b.remove.new.self at.number w
          (sym c.is_free.ensures.free ∙ b.if-is_free.true) first b.remove.ensures.updates.0)
      | else-is_free b ↦ rw b.self-is (kept m n at.number w (sym c.is_free.ensures.free ∙ b.if-is_free.false) first)
    ] in
    let was = stood m at.number at.is.node (Some h) at.is.numbered found in
    let now = stands m c.if-is_free.self.holders at.number at.is.node (left_of w) at.is.numbered left in
    record {
      had = search rules;
      modes = λ f n. taken_at f (eqb f e) _ (left_of w) (was n) (now n) (left_modes w f ∙ taken.modes f);
      idle = record {
        same = λ f n. no_more_at f _ (left_of w) (was n) (now n)
            (λ idle. idles_released h w f e (taken.modes f) (taken.rooms f) (sym (left_idle w f) ∙ idle));
      };
      used = λ used. record { each = λ n. grind (arith, now n, left_used w, used.each n) };
    }
