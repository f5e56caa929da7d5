-- Examiners are numbered from 1.
use Rattle.std.proofs.Common.{◌≡◌, ◌≤◌, ◌+◌, ◌*◌, ◌&&◌, ℕ, List, [], ◌∷◌, Bool, true, false, Option, None, Some, cond, IfSome, option_map}
use Rattle.std.{proofs.Common.{codes, refl, arith, leb, length, ◌==◌}, specs.{Char.{digit_value}, Str.{all_ascii_digits, bytes_eq}}}
use Rattle.std.{specs.Str.Parse.{digits_value, digits_value_after}, proofs.lemmas.Bool.{and_parts, leb-true, Decides.{nat_tests}}}
use Rattle.title_share.specs.Texts.{is_number, number_in}
use Rattle.title_plan.specs.{declared.row.Row.{Row}, Fields.{examiner_in, field, given, name_in}, Rows.{act_in, row_in}}
use Rattle.title_plan.specs.declared.row.Row.TheVariants as row

-- a step is one of an examiner from 1
abbrev pub FromOne : Row (List ℕ) → Type 0
FromOne (row.Step e a) = 1 ≤ e
FromOne _ = Unit {0}

-- ---- numbers

-- digits make a number no less
more_digits : (cs : List ℕ) (n : ℕ) → n ≤ digits_value_after 10 n cs
more_digits [] n = omega arith
more_digits (c ∷ cs) n = let more = more_digits cs (n * 10 + digit_value c) in omega arith

first_digit : (c : ℕ) → 49 ≤ c → 1 ≤ digit_value c
first_digit c h = grind (arith, nat_tests)

number_low : (text : List ℕ) → is_number text ≡ true → 1 ≤ digits_value 10 text
number_low [] h = absurd (cc h)
number_low (c ∷ cs) h =
    let low = leb-true 49 c (and_parts (leb 49 c) (all_ascii_digits (c ∷ cs)) h).0 in
    let first = first_digit c low in
    let more = more_digits cs (0 * 10 + digit_value c) in
    omega arith

same_some : (m n : ℕ) → Some m ≡ Some n → m ≡ n
same_some m n e = cc e

-- a value that is given under a test
under : (b : Bool) (m n : ℕ) → cond b (Some m) None ≡ Some n → (b ≡ true) × (m ≡ n)
under true m n e = (refl, same_some m n e)
under false m n e = absurd (cc e)

given_under : (found : Option ℕ) (test : ℕ → Bool) (n : ℕ) → given found (λ m. cond (test m) (Some m) None) ≡ Some n → found ≡ Some n
given_under None test n e = absurd (cc e)
given_under (Some m) test n e = let same : m ≡ n = (under (test m) m n e).1 in rw same refl

examiner_low : (text : List ℕ) (e : ℕ) → examiner_in text ≡ Some e → 1 ≤ e
examiner_low text e is =
    let number : number_in text ≡ Some e = given_under (number_in text) _ e is in
    let parts = under (is_number text) (digits_value 10 text) e number in
    rw parts.1 at (number_low text parts.0)

-- ---- rows

-- a value, where there is one, has a property
pub record Has {B : Type 0} (P : B → Type 0) (found : Option B) : Type 0 where
  pub has : IfSome found P

given_has : {A B : Type 0} (P : B → Type 0) (found : Option A) (next : A → Option B) → ((x : A) → found ≡ Some x → Has P (next x))
    → Has P (given found next)
given_has P None next h = record { has = tt }
given_has P (Some x) next h = h x refl

map_has : {A B : Type 0} (P : B → Type 0) (f : A → B) (found : Option A) → ((x : A) → P (f x)) → Has P (option_map f found)
map_has P f None h = record { has = tt }
map_has P f (Some x) h = record { has = h x }

cond_has : {B : Type 0} (P : B → Type 0) (b : Bool) (one other : Option B) → Has P one → Has P other → Has P (cond b one other)
cond_has P true one other h k = h
cond_has P false one other h k = k

none_has : {B : Type 0} (P : B → Type 0) → Has P None
none_has P = record { has = tt }

some_has : {B : Type 0} (P : B → Type 0) (x : B) → P x → Has P (Some x)
some_has P x h = record { has = h }

row_low : (fields : List (List ℕ)) → Has FromOne (row_in fields)
row_low fields =
    cond_has FromOne (length fields == 2 && bytes_eq (field fields 0) (codes "township")) _ _ (some_has FromOne _ tt)
    (cond_has FromOne (length fields == 2 && bytes_eq (field fields 0) (codes "party")) _ _
    (map_has FromOne row.Party (name_in (field fields 1)) (λ _. tt))
    (given_has FromOne (examiner_in (field fields 0)) _
    (λ e is. map_has FromOne (row.Step e) (act_in fields) (λ _. examiner_low (field fields 0) e is))))

pub found_low : (test : Bool) (fields : List (List ℕ)) → Has FromOne (cond test (row_in fields) None)
found_low test fields = cond_has FromOne test (row_in fields) None (row_low fields) (none_has FromOne)
