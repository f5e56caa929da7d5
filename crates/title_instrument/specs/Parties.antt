-- Who passes units to whom by an instrument, in which estates, and what it reserves.
use Rattle.std.specs.Prelude.{ℕ, Option, None, slice_index_or}
use Rattle.title_instrument.specs.declared.{parts.{Estate.{Estate}, Estates.{Estates}}, instrument.{Instrument.{Instrument}, Deed.{Deed}}}
use Rattle.title_instrument.specs.Estates.{estate_index}
use Rattle.title_instrument.specs.declared.instrument.Instrument.TheVariants as i

-- the party that passes units: a deed's grantor, or the releasor
abbrev pub grantor_of : {P : Type 0} → Instrument P → P
grantor_of (i.Deed d) = d.grantor
grantor_of (i.Release r) = r.«from»

-- the party to which they pass
abbrev pub grantee_of : {P : Type 0} → Instrument P → P
grantee_of (i.Deed d) = d.grantee
grantee_of (i.Release r) = r.to

-- the estates that are named
abbrev pub estates_of : {P : Type 0} → Instrument P → Estates
estates_of (i.Deed d) = d.estates
estates_of (i.Release r) = r.estates

-- the same deed between other parties
abbrev pub deed_between : {P Q : Type 0} → Deed P → Q → Q → Deed Q
deed_between d giver taker =
    record { grantor = giver; grantee = taker; estates = d.estates; warranty = d.warranty; quantum = d.quantum; reserve = d.reserve }

-- the same instrument between other parties
abbrev pub between : {P Q : Type 0} → Instrument P → Q → Q → Instrument Q
between (i.Deed d) giver taker = i.Deed (deed_between d giver taker)
between (i.Release r) giver taker = i.Release (record { «from» = giver; to = taker; estates = r.estates })

-- what a deed reserves in an estate, if anything
abbrev pub reservation_of : Deed ℕ → Estate → Option ℕ
reservation_of d e = slice_index_or d.reserve (estate_index e) None
