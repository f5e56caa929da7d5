-- One node's holders change, and they keep their room.
use Rattle.std.proofs.Common.{◌∙◌, Some, eqb, arith, rules}
use Rattle.title_lock.proofs.{TableLaws.{stood, stands, raised_at, less_at, is_found}, IdleLaws.{idles_raised, rooms_used}}
use Rattle.title_lock.proofs.table.Table.raise.Goals as goal

pub returns-in-Some : goal.returns-in-Some
returns-in-Some c =
    let m = c.args.self.now.holders in
    let at = c.args.spot.now in
    let h = c.in-Some.holders.now in
    let w = c.raise.new.self in
    let made = c.raise.ensures in
    let found = c.in-Some.ensures.value in
    let was = stood m at.number at.is.node (Some h) at.is.numbered found in
    let now = stands m (c.get_mut.follows.lender w) at.number at.is.node (Some w) at.is.numbered
    ((c.get_mut.follows.holds w).3 (is_found _ _ found)).0 in
    record {
      had = search rules;
      modes = λ f n. raised_at f (eqb f c.args.examiner) c.args.mode _ (Some w) (was n) (now n) (made.modes f);
      stays = λ f n room. grind (arith, was n, now n, made.rooms f);
      idle = record {
        less = λ f n. less_at f (eqb f c.args.examiner) _ (Some w) (was n) (now n)
            (idles_raised h w f c.args.examiner c.args.mode (made.modes f) (made.rooms f));
      };
      used = λ used. record { each = λ n. grind (arith, was n, now n, rooms_used h w (λ f room. made.rooms f ∙ room), used.each n) };
    }
