-- Estates that were not reached are as they were.
use Rattle.std.proofs.Common.{◌≡◌, ◌∙◌, sym, Bool, true, false}
use Rattle.std.proofs.lemmas.{Bool.{false_from_ne_true}, Result.{err_from_is_err_and}}
use Rattle.title_instrument.specs.declared.parts.Estate.TheVariants.{O, M}
use Rattle.title_tree_store.proofs.GroundLawsPlaces.{not_split, not_touched}
use Rattle.title_tree_store.proofs.forest.Forest.made.Goals as goal

pub returns-in_err-s-clause-split : goal.returns-in_err-s-clause-split
returns-in_err-s-clause-split c = record {
  split = record {
    s = c.changed.ensures.split;
    o = not_split _ _ _ _;
    m = not_split _ _ _ _;
  };
}

pub returns-in_err-o-clause-split : goal.returns-in_err-o-clause-split
returns-in_err-o-clause-split c = record {
  split = record {
    s = c.changed.ensures.split;
    o = c.changed-2.ensures.split;
    m = not_split _ _ _ _;
  };
}

pub returns-in_err-o-clause-why : goal.returns-in_err-o-clause-why
returns-in_err-o-clause-why c =
    let out = err_from_is_err_and c.from_residual-in_err-o.result c.from_residual-in_err-o.ensures.1 in
    rw (out.1, out.2) (O, c.in_err-o.ensures.why)

pub returns-in_err-m-clause-why : goal.returns-in_err-m-clause-why
returns-in_err-m-clause-why c =
    let out = err_from_is_err_and c.from_residual-in_err-m.result c.from_residual-in_err-m.ensures.1 in
    rw (out.1, out.2) (M, c.in_err-m.ensures.why)

-- nothing was quartered for an estate where nothing is after the next one
still : (a b : Bool) → (a ≡ true → b ≡ true) → b ≡ false → a ≡ false
still a b kept none = false_from_ne_true a (λ h. let clash : false ≡ true = sym none ∙ kept h in absurd cc)

pub returns-in_err-o-clause-left : goal.returns-in_err-o-clause-left
returns-in_err-o-clause-left c none = record {
  s = c.changed.ensures.left (still _ _ c.changed-2.ensures.quartered none);
  o = c.changed-2.ensures.left none;
  m = not_touched _;
}

pub returns-in_err-m-clause-left : goal.returns-in_err-m-clause-left
returns-in_err-m-clause-left c none =
    let second = still _ _ c.changed-3.ensures.quartered none in
    record {
      s = c.changed.ensures.left (still _ _ c.changed-2.ensures.quartered second);
      o = c.changed-2.ensures.left second;
      m = c.changed-3.ensures.left none;
    }
