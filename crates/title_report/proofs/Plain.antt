-- Texts that stand in a row without quotes.
use Rattle.std.proofs.Common.{◌≡◌, ◌∙◌, ◌++◌, ◌∷◌, [], ◌<◌, ◌≤◌, ◌^◌, ℕ, List, Bool, true, false, cond, refl, sym, codes, arith}
use Rattle.std.proofs.lemmas.{Bool.{ne_eqb, or_from}, Fmt.{decimal_is_IsNumeral}, List.Folds.{list_any-append}}
use Rattle.std.{proofs.lemmas.Str.Parse.{digit_from_value}, specs.{Fmt.{decimal}, Str.Parse.{AllDigits}}}
use Rattle.csv.specs.{Writing.{field_text, needs_quotes}, Quoting.{needs_byte}}
use Rattle.title_land.specs.declared.{survey.{Township.{Township}, Section.{Section}}, rectangle.Quarter.{Quarter}, node.Node.{Node}}
use Rattle.title_land.specs.declared.rectangle.Quarter.TheVariants.{Northeast}
use Rattle.title_land.specs.Texts.{node_text, path_text, quarter_text, quarters_text, section_text, township_text}
use Rattle.title_land.specs.declared.node.Node.TheVariants as node
use Rattle.title_page.specs.Rows.{row_writer}

-- no byte of the text calls for quotes
pub record IsPlain (text : List ℕ) : Type 0 where
  pub plain : needs_quotes row_writer text ≡ false

-- such a text is its own field
pub plain_field : {text : List ℕ} → IsPlain text → field_text row_writer text ≡ text
plain_field h = rw h.plain refl

-- a text of which that computes
pub plain_word : (text : List ℕ) → needs_quotes row_writer text ≡ false → IsPlain text
plain_word text h = record { plain = h }

-- two such texts make one
pub both_plain : {a b : List ℕ} → IsPlain a → IsPlain b → IsPlain (a ++ b)
both_plain {a} {b} p q = record {
  plain = list_any-append (needs_byte row_writer) a b ∙ or_from (needs_quotes row_writer a) (needs_quotes row_writer b) p.plain q.plain;
}

-- a digit calls for no quotes
plain_digit : (c : ℕ) → 48 ≤ c → c < 58 → needs_byte row_writer c ≡ false
plain_digit c low high =
    rw (
      ne_eqb c 44 (λ e. omega (arith, e)),
      ne_eqb c 34 (λ e. omega (arith, e)),
      ne_eqb c 13 (λ e. omega (arith, e)),
      ne_eqb c 10 (λ e. omega (arith, e)),
    ) refl

plain_digits : (ds : List ℕ) → AllDigits 10 ds → IsPlain ds
plain_digits [] all = plain_word [] refl
plain_digits (c ∷ cs) all =
    let d = digit_from_value c all.0 in
    let one = plain_digit c (omega (arith, d)) (omega (arith, d)) in
    plain_word (c ∷ cs) (or_from (needs_byte row_writer c) (needs_quotes row_writer cs) one (plain_digits cs all.1).plain)

-- a number
pub plain_number : (n : ℕ) → n < 2 ^ 64 → IsPlain (decimal n)
plain_number n small = plain_digits (decimal n) (decimal_is_IsNumeral n small).0.1

-- one of two texts
pub plain_either : (yes : Bool) {a b : List ℕ} → IsPlain a → IsPlain b → IsPlain (cond yes a b)
plain_either true p q = p
plain_either false p q = q

plain_township : (t : Township) → IsPlain (township_text t)
plain_township t =
    let number = both_plain (plain_word (codes "T") refl) (plain_number t.number (omega (arith, t.numbered.1))) in
    let side = plain_either t.north (plain_word (codes "N") refl) (plain_word (codes "S") refl) in
    let range = plain_number t.range (omega (arith, t.ranged.1)) in
    let meridian = plain_either t.east (plain_word (codes "E") refl) (plain_word (codes "W") refl) in
    both_plain (both_plain (both_plain (both_plain number side) (plain_word (codes " R") refl)) range) meridian

plain_section : (s : Section) → IsPlain (section_text s)
plain_section s = both_plain (both_plain (plain_township s.township) (plain_word (codes " sec ") refl))
    (plain_number s.number (omega (arith, s.numbered.1)))

plain_quarter : (q : Quarter) → IsPlain (quarter_text q)
plain_quarter Northeast = plain_word (quarter_text Northeast) refl
plain_quarter q = plain_word (quarter_text q) refl

plain_quarters : (qs : List Quarter) → IsPlain (quarters_text qs)
plain_quarters [] = plain_word [] refl
plain_quarters (q ∷ qs) = both_plain (plain_quarter q) (plain_quarters qs)

plain_path : (qs : List Quarter) → IsPlain (path_text qs)
plain_path [] = plain_word [] refl
plain_path (q ∷ qs) = both_plain (plain_word (codes " ") refl) (plain_quarters (q ∷ qs))

-- a node
plain_node : (n : Node) → IsPlain (node_text n)
plain_node node.Everything = plain_word (codes "everything") refl
plain_node (node.Township t) = plain_township t
plain_node (node.Part s w) = both_plain (plain_section s) (plain_path w)

-- a node's text is its own field
pub node_field : (n : Node) → field_text row_writer (node_text n) ≡ node_text n
node_field n = plain_field (plain_node n)

-- a number is its own field
pub number_field : (n : ℕ) (text : List ℕ) → n < 2 ^ 64 → text ≡ decimal n → field_text row_writer (decimal n) ≡ text
number_field n text small e = plain_field (plain_number n small) ∙ sym e
