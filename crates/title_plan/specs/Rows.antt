-- What a row of a script says, by its fields.
use Rattle.std.specs.{Prelude.{ℕ, ◌==◌, ◌&&◌, cond, Bool, true, false, List, Option, Some, None, codes, length, option_map}, Borrow.{Bor}}
use Rattle.std.specs.Str.{bytes_eq}
use Rattle.title_instrument.specs.{declared.{instrument.Instrument.{Instrument}, kind.Kind.{Kind}}, Kinds.{kind_in}}
use Rattle.title_instrument.specs.Parties.{between, grantor_of, grantee_of}
use Rattle.title_instrument.specs.declared.instrument.Instrument.TheVariants as i
use Rattle.title_instrument.specs.declared.kind.Kind.TheVariants as kind
use Rattle.title_plan.specs.declared.row.{Act.{Act}, Row.{Row}}
use Rattle.title_plan.specs.Fields.{given, field, examiner_in, document_in, name_in, estates_in, quantum_in, reserve_in}
use Rattle.title_plan.specs.declared.row.Act.TheVariants as act
use Rattle.title_plan.specs.declared.row.Row.TheVariants as row

-- what an examiner does by a word alone
abbrev pub word_in : List ℕ → Option (Act (List ℕ))
word_in word =
    cond (bytes_eq word (codes "begin")) (Some act.Begin)
    (cond (bytes_eq word (codes "commit")) (Some act.Commit)
    (cond (bytes_eq word (codes "abort")) (Some act.Abort) None))

-- what an examiner reads by a word and the text of a tract
abbrev pub reading_in : List ℕ → List ℕ → Option (Act (List ℕ))
reading_in word text =
    cond (bytes_eq word (codes "sheet")) (Some (act.Sheet text)) (cond (bytes_eq word (codes "chain")) (Some (act.Chain text)) None)

-- whether a deed of this kind is with warranty; a release is no deed
abbrev pub warranty_of : Kind → Option Bool
warranty_of kind.Deed = Some false
warranty_of kind.Warranty = Some true
warranty_of kind.Release = None

-- a release is of no other kind
abbrev pub if_release : Kind → Option (Unit {0})
if_release kind.Release = Some tt
if_release _ = None

-- a row `E,release,DOC,FROM,TO,ESTATES,TEXT`
abbrev pub release_in : List (List ℕ) → Option (Act (List ℕ))
release_in fields =
    given (kind_in (field fields 1)) (λ k.
    given (if_release k) (λ _.
    given (document_in (field fields 2)) (λ doc.
    given (name_in (field fields 3)) (λ giver.
    given (name_in (field fields 4)) (λ taker.
    given (estates_in (field fields 5)) (λ estates.
    let release = i.Release (record { «from» = giver; to = taker; estates = estates }) in
    Some (act.Post doc release (field fields 6))))))))

-- a row `E,deed,DOC,GRANTOR,GRANTEE,ESTATES,QUANTUM,RESERVE,TEXT`, or the same with `warranty`
abbrev pub deed_in : List (List ℕ) → Option (Act (List ℕ))
deed_in fields =
    given (kind_in (field fields 1)) (λ k.
    given (warranty_of k) (λ warranty.
    given (document_in (field fields 2)) (λ doc.
    given (name_in (field fields 3)) (λ giver.
    given (name_in (field fields 4)) (λ taker.
    given (estates_in (field fields 5)) (λ estates.
    given (quantum_in (field fields 6)) (λ quantum.
    given (reserve_in (field fields 7)) (λ reserve.
    let deed = i.Deed (record {
      grantor = giver;
      grantee = taker;
      estates = estates;
      warranty = warranty;
      quantum = quantum;
      reserve = reserve;
    }) in
    Some (act.Post doc deed (field fields 8))))))))))

-- what an examiner does, by the number of a row's fields
abbrev pub act_in : List (List ℕ) → Option (Act (List ℕ))
act_in fields =
    cond (length fields == 2) (word_in (field fields 1))
    (cond (length fields == 3) (reading_in (field fields 1) (field fields 2))
    (cond (length fields == 7) (release_in fields)
    (cond (length fields == 9) (deed_in fields) None)))

-- what a row says: it declares, `township,TEXT` or `party,NAME`, or it is a step of the examiner that stands first
abbrev pub row_in : List (List ℕ) → Option (Row (List ℕ))
row_in fields =
    cond (length fields == 2 && bytes_eq (field fields 0) (codes "township")) (Some (row.Township (field fields 1)))
    (cond (length fields == 2 && bytes_eq (field fields 0) (codes "party")) (option_map row.Party (name_in (field fields 1)))
    (given (examiner_in (field fields 0)) (λ e. option_map (row.Step e) (act_in fields))))

-- ---- rows as the code has them, with references to texts in place of the texts

-- an instrument between parties by their names
abbrev pub named : Instrument (Bor (List ℕ)) → Instrument (List ℕ)
named instrument = between instrument (grantor_of instrument).now (grantee_of instrument).now

-- what an examiner does
abbrev pub done : Act (Bor (List ℕ)) → Act (List ℕ)
done act.Begin = act.Begin
done act.Commit = act.Commit
done act.Abort = act.Abort
done (act.Sheet text) = act.Sheet text.now
done (act.Chain text) = act.Chain text.now
done (act.Post doc instrument text) = act.Post doc (named instrument) text.now

-- what a row says
abbrev pub said : Row (Bor (List ℕ)) → Row (List ℕ)
said (row.Township text) = row.Township text.now
said (row.Party name) = row.Party name.now
said (row.Step e a) = row.Step e (done a)
