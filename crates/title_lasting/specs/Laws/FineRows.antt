-- What the rows of a script post: documents, shares and estates are within their limits.
use Rattle.std.proofs.Common.{◌≡◌, ◌∙◌, ◌⊎◌, ◌≤◌, ◌<◌, ℕ, zero, suc, Bool, true, false, cond, List, [], ◌∷◌, refl, sym, ap, subst}
use Rattle.std.proofs.{Common.{Option, Some, None, arith, inl, inr, ⊎_elim, not, ◌&&◌, ◌||◌, ◌++◌, Result, Ok}, lemmas.Nat.{mul-le}}
use Rattle.std.proofs.lemmas.{Bool.{and_from, and_parts, cases_Bool, cases_lt, leb-true, ltb-true, or_parts}, Slice.Eq.{bytes_eq-Decides}}
use Rattle.std.proofs.lemmas.List.{Folds.{list_all-append, list_any-append}, Quantifiers.{position-Some}}
use Rattle.std.{proofs.lemmas.Str.{IsUtf8-from_ascii, IsUtf8-nil, is_utf8-from_IsUtf8}, specs.Str.{IsAscii, bytes_eq, is_utf8}}
use Rattle.std.specs.List.{AllByRecursion, find, list_all, list_any, slice_split}
use Rattle.std.specs.Prelude.{◌==◌, codes, length, nat_le, nat_lt, option_map, slice_set}
use Rattle.title_land.specs.{Depth.{depth}, declared.tract.Land.{Land}, Lands.{IsLand}}
use Rattle.title_aliquot.specs.declared.fault.DescFault.{DescFault}
use Rattle.title_share.specs.{Rows.{whole_units}, Share.{IsFraction}, Texts.{number_in, share_in}, Laws.ShareLaws.{number_some}}
use Rattle.title_share.specs.Laws.Texts.{numbers_read, shares_read}
use Rattle.title_instrument.specs.declared.{instrument.Instrument.{Instrument}, parts.Estate.{Estate, TheVariants.{S, O, M}}}
use Rattle.title_instrument.specs.{declared.parts.{Estates.{Estates}, Quantum.{Quantum}}, Estates.{estates_text, names_none, estate_index}}
use Rattle.title_instrument.specs.{Kinds.{kind_in}, Parties.{between, estates_of, grantee_of, grantor_of}}
use Rattle.title_instrument.specs.declared.instrument.Instrument.TheVariants as i
use Rattle.title_instrument.specs.declared.parts.Quantum.TheVariants as quantum
use Rattle.title_plan.specs.{declared.row.{Act.{Act}, Row.{Row}}, Fields.{is_name, is_semicolon}, Limits.{last_document, last_examiner}}
use Rattle.title_plan.specs.Fields.{given, field, number_up_to, examiner_in, document_in, name_in, estates_in, named_sets, quantum_in}
use Rattle.title_plan.specs.Fields.{estate_of, nothing_reserved, reserve_in, reserving, with_item, with_items}
use Rattle.title_plan.specs.Plans.{number_of, numbered}
use Rattle.title_plan.specs.Rows.{act_in, deed_in, if_release, reading_in, release_in, row_in, warranty_of, word_in}
use Rattle.title_plan.specs.declared.row.Act.TheVariants as act
use Rattle.title_plan.specs.declared.row.Row.TheVariants as row
use Rattle.title_spelling.specs.{Lands.{has_a_cell}, Rows.{are_names, each_once}}
use Rattle.title_spelling.specs.Posts.{HasShares, IsExaminer, IsQuantum, IsReserve, IsShare}

-- ---- values that are there

pub some_inj : {A : Type 0} (x y : A) → Some x ≡ Some y → x ≡ y
some_inj x y h = cc

pub given_some : {A B : Type 0} (o : Option A) (f : A → Option B) (y : B) → given o f ≡ Some y
    → (x : A) × (o ≡ Some x) × (f x ≡ Some y)
given_some None f y h = absurd cc
given_some (Some x) f y h = (x, refl, h)

pub mapped_some : {A B : Type 0} (f : A → B) (o : Option A) (y : B) → option_map f o ≡ Some y → (x : A) × (o ≡ Some x) × (f x ≡ y)
mapped_some f None y h = absurd cc
mapped_some f (Some x) y h = (x, refl, some_inj (f x) y h)

pub where_true : {A : Type 0} (b : Bool) (o : Option A) (y : A) → cond b o None ≡ Some y → (b ≡ true) × (o ≡ Some y)
where_true true o y h = (refl, h)
where_true false o y h = absurd cc

pub one_of : {A : Type 0} (b : Bool) (o p : Option A) (y : A) → cond b o p ≡ Some y → (o ≡ Some y) ⊎ (p ≡ Some y)
one_of true o p y h = inl h
one_of false o p y h = inr h

-- ---- numbers and shares

pub up_to : (greatest : ℕ) (text : List ℕ) (n : ℕ) → number_up_to greatest text ≡ Some n → (0 < n) × (n ≤ greatest)
up_to greatest text n h =
    let o = given_some (number_in text) (λ m. cond (nat_le m greatest) (Some m) None) n h in
    let c = where_true (nat_le o.0 greatest) (Some o.0) n o.2 in
    let same : o.0 ≡ n = some_inj o.0 n c.1 in (
      subst (λ (m : ℕ). 0 < m) same (number_some text o.0 ((numbers_read text o.0).0 o.1)),
      subst (λ (m : ℕ). m ≤ greatest) same (leb-true o.0 greatest c.0),
    )

pub examiner_is : (text : List ℕ) (e : ℕ) → examiner_in text ≡ Some e → IsExaminer e
examiner_is text e h = up_to last_examiner text e h

some_units : (a b units : ℕ) → IsFraction a b units → 0 < units
some_units a b zero f = absurd (omega (arith, f.some, f.product))
some_units a b (suc n) f = omega arith

most_units : (a b units : ℕ) → IsFraction a b units → units ≤ whole_units
most_units a b units f =
    ⊎_elim (λ (more : whole_units < units). absurd (omega (
      arith,
      f.some,
      f.most,
      f.product,
      mul-le (suc whole_units) b units b (omega arith) (omega arith),
      mul-le a whole_units b whole_units f.most (omega arith),
    )))
    (λ few. few) (cases_lt whole_units units)

pub share_is : (text : List ℕ) (units : ℕ) → share_in text ≡ Some units → IsShare units
share_is text units h =
    let s = (shares_read text units).0 h in (some_units s.a s.b units s.fraction, most_units s.a s.b units s.fraction)

-- ---- terms

found_all : {A : Type 0} (p : A → Bool) (P : A → Type 0) (xs : List A) (y : A) → AllByRecursion P xs → find p xs ≡ Some y → P y
found_all p P [] y all h = absurd cc
found_all p P (x ∷ xs) y all h =
    ⊎_elim (λ first. subst P (some_inj x y first) all.0) (λ later. found_all p P xs y all.1 later)
    (one_of (p x) (Some x) (find p xs) y h)

pub estates_is : (text : List ℕ) (estates : Estates) → estates_in text ≡ Some estates → names_none estates ≡ false
estates_is text estates h =
    found_all (λ (e : Estates). bytes_eq text (estates_text e)) (λ (e : Estates). names_none e ≡ false) named_sets estates
    (refl, (refl, (refl, (refl, (refl, (refl, (refl, tt))))))) h

by_share : (f : ℕ → Quantum) (text : List ℕ) (q : Quantum) → ((u : ℕ) → IsShare u → IsQuantum (f u))
    → option_map f (share_in text) ≡ Some q → IsQuantum q
by_share f text q has h = let m = mapped_some f (share_in text) q h in subst IsQuantum m.2 (has m.0 (share_is text m.0 m.1))

pub quantum_is : (text : List ℕ) (q : Quantum) → quantum_in text ≡ Some q → IsQuantum q
quantum_is [] q h = absurd cc
quantum_is (letter ∷ share) q h =
    let interest : Option Quantum = option_map quantum.Interest (share_in share) in
    let is_interest : Bool = bytes_eq (letter ∷ []) (codes "I") in
    ⊎_elim (λ w. by_share quantum.Whole share q (λ u is. is) w)
    (λ other. by_share quantum.Interest share q (λ u is. is) (where_true is_interest interest q other).1)
    (one_of (bytes_eq (letter ∷ []) (codes "W")) (option_map quantum.Whole (share_in share)) (cond is_interest interest None) q h)

set_is : (r : List (Option ℕ)) (e : Estate) (u : ℕ) → IsReserve r → IsShare u → IsReserve (slice_set r (estate_index e) (Some u))
set_is [] e u h k = absurd h
set_is (s ∷ []) e u h k = absurd h
set_is (s ∷ o ∷ []) e u h k = absurd h
set_is (s ∷ o ∷ m ∷ []) S u h k = (k, h.1, h.2)
set_is (s ∷ o ∷ m ∷ []) O u h k = (h.0, k, h.2)
set_is (s ∷ o ∷ m ∷ []) M u h k = (h.0, h.1, k)
set_is (s ∷ o ∷ m ∷ x ∷ more) e u h k = absurd h

item_is : (r : List (Option ℕ)) (item : List ℕ) (next : List (Option ℕ)) → IsReserve r → with_item r item ≡ Some next → IsReserve next
item_is r [] next is h = absurd cc
item_is r (letter ∷ share) next is h =
    let e = given_some (estate_of letter) (λ e. given (share_in share) (reserving r e)) next h in
    let u = given_some (share_in share) (reserving r e.0) next e.2 in
    let c = where_true _ (Some (slice_set r (estate_index e.0) (Some u.0))) next u.2 in
    subst IsReserve (some_inj (slice_set r (estate_index e.0) (Some u.0)) next c.1) (set_is r e.0 u.0 is (share_is share u.0 u.1))

items_is : (r : List (Option ℕ)) (items : List (List ℕ)) (last : List (Option ℕ)) → IsReserve r → with_items r items ≡ Some last
    → IsReserve last
items_is r [] last is h = subst IsReserve (some_inj r last h) is
items_is r (item ∷ items) last is h =
    let next = given_some (with_item r item) (λ next. with_items next items) last h in
    items_is next.0 items last (item_is r item next.0 is next.1) next.2

pub reserve_is : (text : List ℕ) (r : List (Option ℕ)) → reserve_in text ≡ Some r → IsReserve r
reserve_is text r h =
    let items : List (List ℕ) = slice_split is_semicolon text in
    ⊎_elim (λ none. subst IsReserve (some_inj nothing_reserved r none) (tt, tt, tt))
    (λ some. items_is nothing_reserved items r (tt, tt, tt) some)
    (one_of (length text == 0) (Some nothing_reserved) (with_items nothing_reserved items) r h)

-- ---- acts

-- a post between parties of any kind
pub record IsFinePost {P : Type 0} (doc : ℕ) (instrument : Instrument P) : Type 0 where
  pub some_document : 0 < doc
  pub last_document : doc ≤ last_document
  pub estates : names_none (estates_of instrument) ≡ false
  pub shares : HasShares instrument

abbrev pub IsFineAct : Act (List ℕ) → Type 0
IsFineAct (act.Post doc instrument text) = IsFinePost doc instrument
IsFineAct _ = Unit {0}

word_is : (word : List ℕ) (a : Act (List ℕ)) → word_in word ≡ Some a → IsFineAct a
word_is word a h =
    let is_abort : Bool = bytes_eq word (codes "abort") in
    let is_commit : Bool = bytes_eq word (codes "commit") in
    let last : Option (Act (List ℕ)) = cond is_abort (Some act.Abort) None in
    ⊎_elim (λ first. subst IsFineAct (some_inj act.Begin a first) tt)
    (λ others. ⊎_elim (λ second. subst IsFineAct (some_inj act.Commit a second) tt)
    (λ third. subst IsFineAct (some_inj act.Abort a (where_true is_abort (Some act.Abort) a third).1) tt)
    (one_of is_commit (Some act.Commit) last a others))
    (one_of (bytes_eq word (codes "begin")) (Some act.Begin) (cond is_commit (Some act.Commit) last) a h)

reading_is : (word text : List ℕ) (a : Act (List ℕ)) → reading_in word text ≡ Some a → IsFineAct a
reading_is word text a h =
    let is_chain : Bool = bytes_eq word (codes "chain") in
    ⊎_elim (λ first. subst IsFineAct (some_inj (act.Sheet text) a first) tt)
    (λ second. subst IsFineAct (some_inj (act.Chain text) a (where_true is_chain (Some (act.Chain text)) a second).1) tt)
    (one_of (bytes_eq word (codes "sheet")) (Some (act.Sheet text)) (cond is_chain (Some (act.Chain text)) None) a h)

release_is : (fields : List (List ℕ)) (a : Act (List ℕ)) → release_in fields ≡ Some a → IsFineAct a
release_is fields a h =
    let k = given_some (kind_in (field fields 1)) _ a h in
    let r = given_some (if_release k.0) _ a k.2 in
    let doc = given_some (document_in (field fields 2)) _ a r.2 in
    let giver = given_some (name_in (field fields 3)) _ a doc.2 in
    let taker = given_some (name_in (field fields 4)) _ a giver.2 in
    let estates = given_some (estates_in (field fields 5)) _ a taker.2 in
    let number = up_to last_document (field fields 2) doc.0 doc.1 in
    subst IsFineAct (some_inj _ a estates.2) (record {
      some_document = number.0;
      last_document = number.1;
      estates = estates_is (field fields 5) estates.0 estates.1;
      shares = tt;
    })

deed_is : (fields : List (List ℕ)) (a : Act (List ℕ)) → deed_in fields ≡ Some a → IsFineAct a
deed_is fields a h =
    let k = given_some (kind_in (field fields 1)) _ a h in
    let w = given_some (warranty_of k.0) _ a k.2 in
    let doc = given_some (document_in (field fields 2)) _ a w.2 in
    let giver = given_some (name_in (field fields 3)) _ a doc.2 in
    let taker = given_some (name_in (field fields 4)) _ a giver.2 in
    let estates = given_some (estates_in (field fields 5)) _ a taker.2 in
    let q = given_some (quantum_in (field fields 6)) _ a estates.2 in
    let reserve = given_some (reserve_in (field fields 7)) _ a q.2 in
    let number = up_to last_document (field fields 2) doc.0 doc.1 in
    subst IsFineAct (some_inj _ a reserve.2) (record {
      some_document = number.0;
      last_document = number.1;
      estates = estates_is (field fields 5) estates.0 estates.1;
      shares = (quantum_is (field fields 6) q.0 q.1, reserve_is (field fields 7) reserve.0 reserve.1);
    })

pub act_is : (fields : List (List ℕ)) (a : Act (List ℕ)) → act_in fields ≡ Some a → IsFineAct a
act_is fields a h =
    let has_nine : Bool = length fields == 9 in
    let of_nine : Option (Act (List ℕ)) = cond has_nine (deed_in fields) None in
    let has_seven : Bool = length fields == 7 in
    let of_seven : Option (Act (List ℕ)) = cond has_seven (release_in fields) of_nine in
    let reading : Option (Act (List ℕ)) = reading_in (field fields 1) (field fields 2) in
    let has_three : Bool = length fields == 3 in
    ⊎_elim (λ two. word_is (field fields 1) a two)
    (λ not_two. ⊎_elim (λ three. reading_is (field fields 1) (field fields 2) a three)
    (λ not_three. ⊎_elim (λ seven. release_is fields a seven)
    (λ not_seven. deed_is fields a (where_true has_nine (deed_in fields) a not_seven).1)
    (one_of has_seven (release_in fields) of_nine a not_three))
    (one_of has_three reading of_seven a not_two))
    (one_of (length fields == 2) (word_in (field fields 1)) (cond has_three reading of_seven) a h)

-- ---- parties

-- an instrument between declared parties
pub record IsNumbered (names : List (List ℕ)) (instrument : Instrument ℕ) : Type 0 where
  pub grantor : grantor_of instrument < length names
  pub grantee : grantee_of instrument < length names

number_within : (names : List (List ℕ)) (name : List ℕ) (n : ℕ) → number_of names name ≡ Some n → n < length names
number_within names name n h = (position-Some (bytes_eq name) names n [] h).0

between_numbered : (names : List (List ℕ)) (instrument : Instrument (List ℕ)) (giver taker : ℕ) → giver < length names
    → taker < length names → IsNumbered names (between instrument giver taker)
between_numbered names (i.Deed d) giver taker h k = record { grantor = h; grantee = k }
between_numbered names (i.Release r) giver taker h k = record { grantor = h; grantee = k }

between_fine : (doc : ℕ) (instrument : Instrument (List ℕ)) (giver taker : ℕ) → IsFinePost doc instrument
    → IsFinePost doc (between instrument giver taker)
between_fine doc (i.Deed d) giver taker fine = record {
  some_document = fine.some_document;
  last_document = fine.last_document;
  estates = fine.estates;
  shares = fine.shares;
}
between_fine doc (i.Release r) giver taker fine = record {
  some_document = fine.some_document;
  last_document = fine.last_document;
  estates = fine.estates;
  shares = fine.shares;
}

pub numbered_is : (names : List (List ℕ)) (doc : ℕ) (instrument : Instrument (List ℕ)) (found : Instrument ℕ)
    → IsFinePost doc instrument → numbered names instrument ≡ Some found → IsNumbered names found × IsFinePost doc found
numbered_is names doc instrument found fine h =
    let giver = given_some (number_of names (grantor_of instrument)) _ found h in
    let taker = given_some (number_of names (grantee_of instrument)) _ found giver.2 in
    let same : between instrument giver.0 taker.0 ≡ found = some_inj _ found taker.2 in (
      subst (IsNumbered names) same (between_numbered names instrument giver.0 taker.0
          (number_within names (grantor_of instrument) giver.0 giver.1) (number_within names (grantee_of instrument) taker.0 taker.1)),
      subst (IsFinePost doc) same (between_fine doc instrument giver.0 taker.0 fine),
    )

-- ---- names

turned : (x n : List ℕ) → bytes_eq n x ≡ false → bytes_eq x n ≡ false
turned x n h =
    ⊎_elim (λ same. absurd (cc (sym h ∙ (bytes_eq-Decides n x).1 (sym ((bytes_eq-Decides x n).0 same))))) (λ other. other)
    (cases_Bool (bytes_eq x n))

not_one : (b : Bool) → not b ≡ true → b ≡ false
not_one true h = cc h
not_one false h = refl

-- a name more, which is another than each of them
each_pushed : (names : List (List ℕ)) (n : List ℕ) → each_once names ≡ true → list_any (bytes_eq n) names ≡ false
    → each_once (names ++ n ∷ []) ≡ true
each_pushed [] n each none = refl
each_pushed (x ∷ names) n each none =
    let old = and_parts (not (list_any (bytes_eq x) names)) (each_once names) each in
    let other = or_parts (bytes_eq n x) (list_any (bytes_eq n) names) none in
    let alone : list_any (bytes_eq x) (names ++ n ∷ []) ≡ false =
    list_any-append (bytes_eq x) names (n ∷ [])
    ∙ ap (λ (b : Bool). b || (bytes_eq x n || false)) (not_one (list_any (bytes_eq x) names) old.0)
    ∙ ap (λ (b : Bool). b || false) (turned x n other.0) in
    and_from (not (list_any (bytes_eq x) (names ++ n ∷ []))) (each_once (names ++ n ∷ [])) (ap not alone)
    (each_pushed names n old.1 other.1)

pub names_pushed : (names : List (List ℕ)) (n : List ℕ) → are_names names ≡ true → is_name n ≡ true → list_any (bytes_eq n) names ≡ false
    → are_names (names ++ n ∷ []) ≡ true
names_pushed names n are is none =
    let old = and_parts (list_all is_name names) (each_once names) are in
    and_from (list_all is_name (names ++ n ∷ [])) (each_once (names ++ n ∷ []))
    (list_all-append is_name names (n ∷ []) ∙ and_from (list_all is_name names) (is_name n && true) old.0 (ap (λ (b : Bool). b && true) is))
    (each_pushed names n old.1 none)

-- bytes below 128
below_128 : (text : List ℕ) → list_all (λ b. nat_lt b 128) text ≡ true → IsAscii text
below_128 [] h zero = omega arith
below_128 [] h (suc i) = omega arith
below_128 (b ∷ text) h zero =
    let first = (and_parts (nat_lt b 128) (list_all (λ b. nat_lt b 128) text) h).0 in omega (arith, ltb-true b 128 first)
below_128 (b ∷ text) h (suc i) = below_128 text (and_parts (nat_lt b 128) (list_all (λ b. nat_lt b 128) text) h).1 i

-- the name of the first party is text
pub first_is_text : list_all is_utf8 (codes "UNITED STATES" ∷ []) ≡ true
first_is_text =
    let name : List ℕ = codes "UNITED STATES" in
    ap (λ (b : Bool). b && true) (is_utf8-from_IsUtf8 name (IsUtf8-from_ascii name (below_128 name refl)))

-- text more
pub texts_pushed : (names : List (List ℕ)) (n : List ℕ) → list_all is_utf8 names ≡ true → is_utf8 n ≡ true
    → list_all is_utf8 (names ++ n ∷ []) ≡ true
texts_pushed names n old new =
    list_all-append is_utf8 names (n ∷ []) ∙ and_from (list_all is_utf8 names) (is_utf8 n && true) old (ap (λ (b : Bool). b && true) new)

-- ---- rows

-- a land that a text says has a cell, and a set as large as the grid
abbrev pub LandsHaveCells : (List ℕ → Result Land DescFault) → Type 0
LandsHaveCells said = (text : List ℕ) (l : Land) → said text ≡ Ok l → IsLand depth l × (has_a_cell l ≡ true)

-- what a row may say
abbrev pub IsSaid : Row (List ℕ) → Type 0
IsSaid (row.Township text) = Unit {0}
IsSaid (row.Party name) = (is_name name ≡ true) × (is_utf8 name ≡ true)
IsSaid (row.Step e a) = IsExaminer e × IsFineAct a

-- one of some texts is text
field_utf8 : (fields : List (List ℕ)) (k : ℕ) → list_all is_utf8 fields ≡ true → is_utf8 (field fields k) ≡ true
field_utf8 [] zero h = is_utf8-from_IsUtf8 [] IsUtf8-nil
field_utf8 [] (suc k) h = is_utf8-from_IsUtf8 [] IsUtf8-nil
field_utf8 (f ∷ fields) zero h = (and_parts (is_utf8 f) (list_all is_utf8 fields) h).0
field_utf8 (f ∷ fields) (suc k) h = field_utf8 fields k (and_parts (is_utf8 f) (list_all is_utf8 fields) h).1

pub row_said : (fields : List (List ℕ)) (said : Row (List ℕ)) → list_all is_utf8 fields ≡ true → row_in fields ≡ Some said → IsSaid said
row_said fields said texts h =
    let party_row : Option (Row (List ℕ)) = option_map row.Party (name_in (field fields 1)) in
    let step : Option (Row (List ℕ)) = given (examiner_in (field fields 0)) (λ e. option_map (row.Step e) (act_in fields)) in
    let is_party : Bool = length fields == 2 && bytes_eq (field fields 0) (codes "party") in
    ⊎_elim (λ township. subst IsSaid (some_inj (row.Township (field fields 1)) said township) tt)
    (λ others. ⊎_elim (λ party.
    let m = mapped_some row.Party (name_in (field fields 1)) said party in
    let c = where_true (is_name (field fields 1)) (Some (field fields 1)) m.0 m.1 in
    subst IsSaid m.2 (subst (λ (name : List ℕ). (is_name name ≡ true) × (is_utf8 name ≡ true)) (some_inj (field fields 1) m.0 c.1)
    (c.0, field_utf8 fields 1 texts)))
    (λ stepped.
    let e = given_some (examiner_in (field fields 0)) (λ e. option_map (row.Step e) (act_in fields)) said stepped in
    let m = mapped_some (row.Step e.0) (act_in fields) said e.2 in
    subst IsSaid m.2 (examiner_is (field fields 0) e.0 e.1, act_is fields m.0 m.1))
    (one_of is_party party_row step said others))
    (one_of (length fields == 2 && bytes_eq (field fields 0) (codes "township")) (Some (row.Township (field fields 1)))
    (cond is_party party_row step) said h)
