-- Why parse answers the share of its text, and none where the text names none.
use Rattle.std.proofs.{Common.{ℕ, ◌*◌, List, subst, sym, arith}, lemmas.Str.Pattern.{split_parts}}
use Rattle.title_share.specs.{Share.{IsNumber, IsPart, IsShareText}, Laws.Texts.{no_share, one_share}}
use Rattle.title_share.specs.Laws.ShareLaws.{parts_are, part_fits, same_number, number_some, units_product, units_most, units_some}
use Rattle.title_share.proofs.share.Share.parse.Goals as goal

pub returns-in_default-clause-share : goal.returns-in_default-clause-share
returns-in_default-clause-share c n s =
    rw c.in_default.is at (parts_are c.args.text.now n c.split_once.result c.split_once.ensures.cases s)

pub returns-in_default-clause-named : goal.returns-in_default-clause-named
returns-in_default-clause-named c = no_share c.args.text.now (returns-in_default-clause-share c)

pub returns-in_default-number-clause-share : goal.returns-in_default-number-clause-share
returns-in_default-number-clause-share c n s =
    let parts = rw c.in-Some.is at (parts_are c.args.text.now n c.split_once.result c.split_once.ensures.cases s) in
    let fits = part_fits s.b s.fraction.part in
    let most = s.fraction.most in
    c.in_default-number.ensures.number s.a (omega arith) (subst (λ (t : List ℕ). IsNumber t s.a) (sym parts.0) s.top_is)

pub returns-in_default-number-clause-named : goal.returns-in_default-number-clause-named
returns-in_default-number-clause-named c = no_share c.args.text.now (returns-in_default-number-clause-share c)

pub returns-in_default-number-2-clause-share : goal.returns-in_default-number-2-clause-share
returns-in_default-number-2-clause-share c n s =
    let parts = rw c.in-Some.is at (parts_are c.args.text.now n c.split_once.result c.split_once.ensures.cases s) in
    let fits = part_fits s.b s.fraction.part in
    c.in_default-number-2.ensures.number s.b (omega arith) (subst (λ (t : List ℕ). IsNumber t s.b) (sym parts.1) s.bottom_is)

pub returns-in_default-number-2-clause-named : goal.returns-in_default-number-2-clause-named
returns-in_default-number-2-clause-named c = no_share c.args.text.now (returns-in_default-number-2-clause-share c)

pub returns-in_default-weight-clause-share : goal.returns-in_default-weight-clause-share
returns-in_default-weight-clause-share c n s =
    let parts = rw c.in-Some.is at (parts_are c.args.text.now n c.split_once.result c.split_once.ensures.cases s) in
    let same =
    same_number c.in-Some.bottom.now s.bottom c.in-Some-number-2.bottom s.b parts.1 c.in-Some-number-2.ensures.number s.bottom_is in
    c.in_default-weight.ensures.weight (subst IsPart (sym same) s.fraction.part)

pub returns-in_default-weight-clause-named : goal.returns-in_default-weight-clause-named
returns-in_default-weight-clause-named c = no_share c.args.text.now (returns-in_default-weight-clause-share c)

pub returns-then-top-bottom-clause-share : goal.returns-then-top-bottom-clause-share
returns-then-top-bottom-clause-share c n s =
    let parts = rw c.in-Some.is at (parts_are c.args.text.now n c.split_once.result c.split_once.ensures.cases s) in
    let below =
    same_number c.in-Some.bottom.now s.bottom c.in-Some-number-2.bottom s.b parts.1 c.in-Some-number-2.ensures.number s.bottom_is in
    let above = same_number c.in-Some.top.now s.top c.in-Some-number.top s.a parts.0 c.in-Some-number.ensures.number s.top_is in
    let most = s.fraction.most in
    omega arith

pub returns-then-top-bottom-clause-named : goal.returns-then-top-bottom-clause-named
returns-then-top-bottom-clause-named c = no_share c.args.text.now (returns-then-top-bottom-clause-share c)

pub of-requires-clause-some : goal.of-requires-clause-some
of-requires-clause-some c =
    let weight = c.in-Some-weight.ensures.weight in
    units_some _ _ (number_some c.in-Some.top.now _ c.in-Some-number.ensures.number) weight.2

pub of-requires-clause-most : goal.of-requires-clause-most
of-requires-clause-most c =
    let weight = c.in-Some-weight.ensures.weight in
    units_most c.in-Some-number.top c.in-Some-weight.weight c.in-Some-number-2.bottom weight.1 c.if-top-bottom.false

pub returns : goal.returns
returns c =
    let weight = c.in-Some-weight.ensures.weight in
    let parts = rw c.in-Some.is at (split_parts 47 c.args.text.now c.split_once.result c.split_once.ensures.cases (omega arith)) in
    let share : IsShareText c.args.text.now (c.in-Some-number.top * c.in-Some-weight.weight) = record {
      top = c.in-Some.top.now;
      bottom = c.in-Some.bottom.now;
      a = c.in-Some-number.top;
      b = c.in-Some-number-2.bottom;
      joined = parts.0;
      top_is = c.in-Some-number.ensures.number;
      bottom_is = c.in-Some-number-2.ensures.number;
      fraction = record {
        part = weight.0;
        some = number_some c.in-Some.top.now c.in-Some-number.top c.in-Some-number.ensures.number;
        most = c.if-top-bottom.false;
        product = units_product c.in-Some-number.top c.in-Some-weight.weight c.in-Some-number-2.bottom weight.1;
      };
    } in
    record { share = rw c.of.ensures.of share; named = rw c.of.ensures.of (one_share c.args.text.now _ share) }
