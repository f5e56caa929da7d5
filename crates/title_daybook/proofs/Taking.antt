-- The rows of a block, taken one after another, make what they were written from.
use Rattle.std.{proofs.Common.{◌≡◌, ◌∙◌, ◌≤◌, ◌<◌, ◌+◌, ℕ, suc, Bool, true, false, not, List, [], ◌∷◌, ◌++◌}, specs.Str.{bytes_eq, is_utf8}}
use Rattle.std.proofs.Common.{length, length-append, map, reverse, Some, refl, sym, ap, subst, arith, inl, inr, append_assoc}
use Rattle.std.specs.{Prelude.{◌==◌, nat_le, nat_lt}, List.{flat_map, list_all, list_any, AllByRecursion}}
use Rattle.std.proofs.lemmas.{Bool.{and_parts, cases_Bool, ne_eqb, not-true, or_parts, Decides.{nat_tests}}, List.Folds.{list_any-append}}
use Rattle.std.proofs.lemmas.{List.{append-nil, reverse-append}, Slice.Eq.{bytes_eq-Decides}}
use Rattle.title_land.specs.{declared.survey.Township.{Township as SurveyTownship}, Survey.{same_township}, Texts.{township_text}}
use Rattle.title_chain.specs.{declared.{ask.{Terms.{Terms}, Step.{Step}}, record.Record.{Record}}, Alone.{most_parties}}
use Rattle.title_trace.specs.Due.{most_steps, most_townships}
use Rattle.title_plan.specs.declared.row.Act.TheVariants as act
use Rattle.title_plan.specs.{declared.row.Row.{Row}, Fields.{given, is_name}, Rows.{row_in}, Townships.{each_once}}
use Rattle.title_plan.specs.declared.row.Row.TheVariants as said
use Rattle.title_spelling.specs.{Laws.{among, MarksReadBack, PostsReadBack}, Lands.{spelling}, Posts.{IsExaminer, IsPost}}
use Rattle.title_spelling.specs.Rows.{are_names, fields_of, Begin, Commit, End, IsPlantRow, Party, PlantRow, Post, Township}
use Rattle.title_spelling.specs.Rows as plant
use Rattle.title_standing.specs.Records.{posted_step}
use Rattle.title_daybook.specs.{Added.{posts_of, post_rows, record_rows, transaction_rows}, AddedLaws.{IsKept}, Lines.{said_by}}
use Rattle.title_daybook.specs.{KeptRows.{after_said, between, posts, with_record, Progress}, Standing.{Standing}}
use Rattle.title_daybook.proofs.Utf8Fields.{fields_text}

-- ---- nothing is declared twice

once_apart : (xs : List SurveyTownship) (t : SurveyTownship) (ys : List SurveyTownship) → each_once (xs ++ t ∷ ys) ≡ true
    → list_any (λ other. same_township other t) xs ≡ false
once_apart [] t ys h = refl
once_apart (x ∷ xs) t ys h =
    let parts = and_parts (not (list_any (same_township x) (xs ++ t ∷ ys))) (each_once (xs ++ t ∷ ys)) h in
    let none = sym (list_any-append (same_township x) xs (t ∷ ys)) ∙ not-true _ parts.0 in
    let apart = or_parts (list_any (same_township x) xs) (list_any (same_township x) (t ∷ ys)) none in
    let first = or_parts (same_township x t) (list_any (same_township x) ys) apart.1 in
    rw (first.0, once_apart xs t ys parts.1) refl

bytes_turned : (x y : List ℕ) → bytes_eq x y ≡ false → bytes_eq y x ≡ false
bytes_turned x y h = elim (cases_Bool (bytes_eq y x)) [
  | inr isnt ↦ isnt
  | inl is ↦ absurd (let both : true ≡ false = sym ((bytes_eq-Decides x y).1 (sym ((bytes_eq-Decides y x).0 is))) ∙ h in cc both)
]

names_apart : (xs : List (List ℕ)) (name : List ℕ) (ys : List (List ℕ)) → plant.each_once (xs ++ name ∷ ys) ≡ true
    → list_any (bytes_eq name) xs ≡ false
names_apart [] name ys h = refl
names_apart (x ∷ xs) name ys h =
    let parts = and_parts (not (list_any (bytes_eq x) (xs ++ name ∷ ys))) (plant.each_once (xs ++ name ∷ ys)) h in
    let none = sym (list_any-append (bytes_eq x) xs (name ∷ ys)) ∙ not-true _ parts.0 in
    let apart = or_parts (list_any (bytes_eq x) xs) (list_any (bytes_eq x) (name ∷ ys)) none in
    let first = or_parts (bytes_eq x name) (list_any (bytes_eq x) ys) apart.1 in
    rw (bytes_turned x name first.0, names_apart xs name ys parts.1) refl

all_of : {X : Type 0} (test : X → Bool) (xs : List X) (y : X) (ys : List X) → list_all test (xs ++ y ∷ ys) ≡ true → test y ≡ true
all_of test [] y ys h = (and_parts (test y) (list_all test ys) h).0
all_of test (x ∷ xs) y ys h = all_of test xs y ys (and_parts (test x) (list_all test (xs ++ y ∷ ys)) h).1

-- ---- what steps have posted

posts_back : (posts : List Terms) → posts_of (map posted_step posts) ≡ posts
posts_back [] = refl
posts_back (post ∷ posts) = ap (λ (more : List Terms). post ∷ more) (posts_back posts)

same_number : (e : ℕ) → (e == e) ≡ true
same_number e = grind (arith, nat_tests)

less : (a b : ℕ) → a < b → nat_lt a b ≡ true
less a b h = grind (arith, nat_tests)

not_full : (a b : ℕ) → a < b → nat_le b a ≡ false
not_full a b h = grind (arith, nat_tests)

-- inside a transaction of this examiner, which has posted these steps
abbrev pub inside_of : Standing → ℕ → List Step → Progress
inside_of s e steps = record { stands = s; begun = Some (record { examiner = e; steps = steps }) }

-- a row in front of the end of its block
abbrev pub IsInner : PlantRow → Type 0
IsInner (End n) = ⊥
IsInner _ = Unit {0}

module _ (marks : MarksReadBack) (posts_read : PostsReadBack) (names : List (List ℕ)) (are : are_names names ≡ true)
    (texts : list_all is_utf8 names ≡ true) where
  -- rows that may be written lead a reader from here to there
  unfoldable pub Takes : List PlantRow → Progress → Progress → Type 0
  Takes [] p q = p ≡ q
  Takes (x ∷ xs) p q =
      (after : Progress) × IsPlantRow names x × IsInner x × (given (said_by (fields_of names x)) (after_said p) ≡ Some after)
      × Takes xs after q

  pub takes_both : (xs ys : List PlantRow) (p q r : Progress) → Takes xs p q → Takes ys q r → Takes (xs ++ ys) p r
  unfolding Takes
  takes_both [] ys p q r h k = subst (λ (a : Progress). Takes ys a r) (sym h) k
  takes_both (x ∷ xs) ys p q r h k = (h.0, h.1, h.2, h.3, takes_both xs ys h.0 q r h.4 k)

  says : (x : PlantRow) (row : Row (List ℕ)) (p : Progress) → list_all is_utf8 (fields_of names x) ≡ true
      → row_in (fields_of names x) ≡ Some row → given (said_by (fields_of names x)) (after_said p) ≡ after_said p row
  says x row p text e = rw (text, e) refl

  -- ---- townships

  one_township : (s : Standing) (t : SurveyTownship) → length s.townships < most_townships
      → list_any (λ other. same_township other t) s.townships ≡ false
      → given (said_by (fields_of names (Township t))) (after_said (between s))
      ≡ Some (between (record { townships = s.townships ++ t ∷ []; names = s.names; records = s.records }))
  one_township s t few apart =
      let back = marks.township t in
      says (Township t) (said.Township (township_text t)) (between s) (fields_text names (Township t) texts tt tt) back.0
      ∙ rw (back.1, not_full (length s.townships) most_townships few, apart) refl

  pub townships : (ts : List SurveyTownship) (s : Standing) → length (s.townships ++ ts) ≤ most_townships
      → each_once (s.townships ++ ts) ≡ true
      → Takes (map Township ts) (between s) (between (record { townships = s.townships ++ ts; names = s.names; records = s.records }))
  unfolding Takes
  townships [] s few once =
      ap (λ (ts : List SurveyTownship). between (record { townships = ts; names = s.names; records = s.records })) (sym (append-nil
      s.townships))
  townships (t ∷ ts) s few once =
      let next : Standing = record { townships = s.townships ++ t ∷ []; names = s.names; records = s.records } in
      let same = append_assoc s.townships (t ∷ []) ts in
      let short : length s.townships < most_townships = omega (arith, length-append s.townships (t ∷ ts)) in
      let more = townships ts next (subst (λ (l : List SurveyTownship). length l ≤ most_townships) (sym same) few)
      (subst (λ (l : List SurveyTownship). each_once l ≡ true) (sym same) once) in (
        between next,
        tt,
        tt,
        one_township s t short (once_apart s.townships t ts once),
        subst (λ (l : List SurveyTownship). Takes (map Township ts) (between next)
            (between (record { townships = l; names = s.names; records = s.records }))) same more,
      )

  -- ---- parties

  one_party : (s : Standing) (name : List ℕ) → length s.names < most_parties → list_any (bytes_eq name) s.names ≡ false
      → is_name name ≡ true
      → is_utf8 name ≡ true
      → given (said_by (fields_of names (Party name))) (after_said (between s))
      ≡ Some (between (record { townships = s.townships; names = s.names ++ name ∷ []; records = s.records }))
  one_party s name few apart is text =
      says (Party name) (said.Party name) (between s) (fields_text names (Party name) texts text is) (marks.party name is)
      ∙ rw (not_full (length s.names) most_parties few, apart) refl

  pub parties : (more : List (List ℕ)) (s : Standing) → s.names ++ more ≡ names → length names ≤ most_parties
      → Takes (map Party more) (between s) (between (record { townships = s.townships; names = names; records = s.records }))
  unfolding Takes
  parties [] s whole few =
      ap (λ (ns : List (List ℕ)). between (record { townships = s.townships; names = ns; records = s.records })) (sym (append-nil
      s.names) ∙ whole)
  parties (name ∷ more) s whole few =
      let next : Standing = record { townships = s.townships; names = s.names ++ name ∷ []; records = s.records } in
      let sized = sym (length-append s.names (name ∷ more)) ∙ ap length whole in
      let short : length s.names < most_parties = omega (arith, sized) in
      let of_names = and_parts (list_all is_name names) (plant.each_once names) are in
      let is = all_of is_name s.names name more (subst (λ (l : List (List ℕ)). list_all is_name l ≡ true) (sym whole) of_names.0) in
      let text = all_of is_utf8 s.names name more (subst (λ (l : List (List ℕ)). list_all is_utf8 l ≡ true) (sym whole) texts) in
      let apart = names_apart s.names name more (subst (λ (l : List (List ℕ)). plant.each_once l ≡ true) (sym whole) of_names.1) in (
        between next,
        is,
        tt,
        one_party s name short apart is text,
        parties more next (append_assoc s.names (name ∷ []) more ∙ whole) few,
      )

  -- ---- transactions

  module _ (s : Standing) (all : s.names ≡ names) where
    says_post : (p : Progress) (e : ℕ) (post : Terms) → p.stands.names ≡ names → IsPost names e post
        → given (said_by (fields_of names (Post e post))) (after_said p) ≡ posts p.stands p.begun e (posted_step post)
    says_post p e post same h =
        let back = posts_read names e post are h in
        says (Post e post) (said.Step e (act.Post post.doc (among names post.instrument) (spelling post.tract))) p
        (fields_text names (Post e post) texts tt h) back.said
        ∙ rw (same, back.numbers, back.land) refl

    one_inside : (e : ℕ) (done : List Step) (post : Terms) → length done < most_steps → IsPost names e post
        → given (said_by (fields_of names (Post e post))) (after_said (inside_of s e done))
        ≡ Some (inside_of s e (done ++ posted_step post ∷ []))
    one_inside e done post few h =
        says_post (inside_of s e done) e post all h ∙ rw (same_number e, less (length done) most_steps few) refl

    posts_inside : (e : ℕ) (done : List Step) (more : List Terms) → length done + length more ≤ most_steps
        → AllByRecursion (IsPost names e) more
        → Takes (post_rows e more) (inside_of s e done) (inside_of s e (done ++ map posted_step more))
    unfolding Takes
    posts_inside e done [] few h = ap (inside_of s e) (sym (append-nil done))
    posts_inside e done (post ∷ more) few h =
        let next = done ++ posted_step post ∷ [] in
        let size = length-append done (posted_step post ∷ []) in
        let rest = posts_inside e next more (omega (arith, size, few)) h.1 in (
          inside_of s e next,
          h.0,
          tt,
          one_inside e done post (omega (arith, few)) h.0,
          subst (λ (l : List Step). Takes (post_rows e more) (inside_of s e next) (inside_of s e l))
              (append_assoc done (posted_step post ∷ []) (map posted_step more)) rest,
        )

    whole : (e : ℕ) (posts : List Terms) → IsExaminer e → length posts ≤ most_steps → AllByRecursion (IsPost names e) posts
        → Takes (Begin e ∷ (post_rows e posts ++ Commit e ∷ [])) (between s)
        (with_record s (record { examiner = e; steps = map posted_step posts }))
    unfolding Takes
    whole e posts examiner few h =
        let begins = says (Begin e) (said.Step e act.Begin) (between s) (fields_text names (Begin e) texts tt examiner)
        (marks.begin e examiner) in
        let ends = says (Commit e) (said.Step e act.Commit) (inside_of s e (map posted_step posts))
        (fields_text names (Commit e) texts tt examiner) (marks.commit e examiner) ∙ rw (same_number e) refl in
        let closes : Takes (Commit e ∷ []) (inside_of s e (map posted_step posts))
        (with_record s (record { examiner = e; steps = map posted_step posts })) =
        (with_record s (record { examiner = e; steps = map posted_step posts }), examiner, tt, ends, refl) in (
          inside_of s e [],
          examiner,
          tt,
          begins,
          takes_both (post_rows e posts) (Commit e ∷ []) _ _ _ (posts_inside e [] posts (omega arith) h) closes,
        )

    transaction : (e : ℕ) (posts : List Terms) → IsExaminer e → length posts ≤ most_steps → AllByRecursion (IsPost names e) posts
        → Takes (transaction_rows e posts) (between s) (with_record s (record { examiner = e; steps = map posted_step posts }))
    unfolding Takes
    transaction e [] examiner few h = whole e [] examiner few h
    transaction e (post ∷ []) examiner few h =
        (with_record s (record { examiner = e; steps = posted_step post ∷ [] }), h.0, tt, says_post (between s) e post all h.0, refl)
    transaction e (post ∷ next ∷ more) examiner few h =
        rw (ne_eqb (length (post ∷ next ∷ more)) 1 (λ same. let size : suc (suc (length more)) ≡ 1 = same in omega arith))
        (whole e (post ∷ next ∷ more) examiner few h)

    one_record : (r : Record) → IsKept names r → Takes (record_rows r) (between s) (with_record s r)
    one_record r kept =
        let posts_are : posts_of r.steps ≡ kept.posts = ap posts_of kept.steps ∙ posts_back kept.posts in
        let taken = transaction r.examiner kept.posts kept.examiner kept.few kept.each in
        let record_is : with_record s (record { examiner = r.examiner; steps = map posted_step kept.posts }) ≡ with_record s r =
        ap (λ (steps : List Step). with_record s (record { examiner = r.examiner; steps = steps })) (sym kept.steps) in
        subst (λ (ps : List Terms). Takes (transaction_rows r.examiner ps) (between s) (with_record s r)) (sym posts_are)
        (subst (λ (p : Progress). Takes (transaction_rows r.examiner kept.posts) (between s) p) record_is taken)

  pub records : (rs : List Record) (s : Standing) → s.names ≡ names → AllByRecursion (IsKept names) rs
      → Takes (flat_map record_rows rs) (between s)
      (between (record { townships = s.townships; names = s.names; records = reverse rs ++ s.records }))
  unfolding Takes
  records [] s all h = refl
  records (r ∷ rs) s all h =
      let next : Standing = record { townships = s.townships; names = s.names; records = r ∷ s.records } in
      let turned : reverse rs ++ r ∷ s.records ≡ reverse (r ∷ rs) ++ s.records =
      sym (append_assoc (reverse rs) (r ∷ []) s.records) ∙ ap (λ (l : List Record). l ++ s.records) (sym (reverse-append (r ∷ []) rs)) in
      let rest = subst (λ (l : List Record). Takes (flat_map record_rows rs) (between next)
      (between (record { townships = s.townships; names = s.names; records = l }))) turned (records rs next all h.1) in
      takes_both (record_rows r) (flat_map record_rows rs) _ _ _ (one_record s all r h.0) rest
