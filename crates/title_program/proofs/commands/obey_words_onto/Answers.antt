-- Where the words can't be held, memory ran out; the texts of the words that are held are the words.
use Rattle.std.proofs.Common.{◌∙◌, Err, List, ap, map, refl, subst, ℕ}
use Rattle.title_command.specs.declared.choice.LineFault.TheVariants.{Memory}
use Rattle.title_program.{specs.Obeying.{IsAsked}, proofs.Unread.{none_within}}
use Rattle.title_program.proofs.commands.obey_words_onto.Goals as goal

pub returns-in_default-clause-answered : goal.returns-in_default-clause-answered
returns-in_default-clause-answered g c = (
  Err Memory,
  (tt, λ taken. refl),
  (c.refuse.ensures.refused, refl, c.refuse.ensures.uncut),
  none_within (g.R.Source.turns c.args.source.now),
  c.refuse.ensures.told,
  refl,
)

pub returns-clause-answered : goal.returns-clause-answered
returns-clause-answered g c =
    let words_are = ap (map (λ w. w.now)) c.as_slice.ensures.value ∙ c.in-Ok.ensures.texts in (
      Err c.in-Err.why,
      subst (λ (ws : List (List ℕ)). IsAsked ws (Err c.in-Err.why)) words_are (c.in-Err.ensures.why, c.in-Err.ensures.taken),
      (c.refuse-in-Err.ensures.refused, refl, c.refuse-in-Err.ensures.uncut),
      none_within (g.R.Source.turns c.args.source.now),
      c.refuse-in-Err.ensures.told,
      refl,
    )
