-- Texts that are written one after another through a page, and the whole at its end.
use Rattle.std.proofs.Common.{◌≡◌, ◌∙◌, ◌++◌, [], ℕ, List, Option, Result, Ok, Err, OnErr, take, drop, length, subst, sym, ap, append_assoc}
use Rattle.std.{specs.Io.KnownBytes.{Appends}, proofs.{lemmas.List.{append-nil, take-append-drop}, Math.Seq.{take-append_seam}}}
use Rattle.csv.proofs.WriteFacts.{appends-more, appends-none}
use Rattle.title_page.specs.Pages.{Stopped, Written}

-- two texts in turn make one
joined : (page s given rest t more last : List ℕ) → page ++ s ≡ given ++ rest → rest ++ t ≡ more ++ last
    → page ++ (s ++ t) ≡ (given ++ more) ++ last
joined page s given rest t more last e f =
    sym (append_assoc page s t) ∙ ap (λ (x : List ℕ). x ++ t) e ∙ append_assoc given rest t
    ∙ ap (λ (x : List ℕ). given ++ x) f ∙ sym (append_assoc given more last)

-- nothing written
pub written_none : (taken : Option (List ℕ)) (page : List ℕ) → Written taken page taken page []
written_none taken page = record { parts = ([], appends-none taken, append-nil page) }

-- a text written behind another
pub written_then : {a b c : Option (List ℕ)} {p q r : List ℕ} (s t : List ℕ)
    → Written a p b q s → Written b q c r t → Written a p c r (s ++ t)
written_then {a} {b} {c} {p} {q} {r} s t w v =
    let (given, x, e) = w.parts in
    let (more, y, f) = v.parts in
    record { parts = (given ++ more, appends-more a b c given more x y, joined p s given q t more r e f) }

-- the sink failed while a text was written behind another
pub stopped_then : {a b c : Option (List ℕ)} {p q : List ℕ} (s t : List ℕ)
    → Written a p b q s → Stopped b q c t → Stopped a p c (s ++ t)
stopped_then {a} {b} {c} {p} {q} s t w v =
    let (given, x, e) = w.parts in
    let (more, rest, y, f) = v.parts in
    record { parts = (given ++ more, rest, appends-more a b c given more x y, joined p s given q t more rest e f) }

-- the sink failed before a further text
pub stopped_before : {a b : Option (List ℕ)} {p : List ℕ} (s t : List ℕ) → Stopped a p b s → Stopped a p b (s ++ t)
stopped_before {a} {b} {p} s t v =
    let (given, rest, x, e) = v.parts in
    record { parts = (given, rest ++ t, x, sym (append_assoc p s t) ∙ ap (λ (y : List ℕ). y ++ t) e ∙ append_assoc given rest t) }

-- a whole page, or a beginning of it, given to the sink
pub stopped_page : {a b : Option (List ℕ)} (page : List ℕ) (n : ℕ) → Appends a b (take n page) → Stopped a page b []
stopped_page page n x = record { parts = (take n page, drop n page, x, append-nil page ∙ sym (take-append-drop n page)) }

-- a text given to the sink at once, where nothing stood on the page
pub written_at_once : {a b : Option (List ℕ)} (text : List ℕ) → Appends a b text → Written a [] b [] text
written_at_once text x = record { parts = (text, x, sym (append-nil text)) }

-- a beginning of a text given to the sink, where nothing stood on the page
pub stopped_at_once : {a b : Option (List ℕ)} (text : List ℕ) (n : ℕ) → Appends a b (take n text) → Stopped a [] b text
stopped_at_once text n x = record { parts = (take n text, drop n text, x, sym (take-append-drop n text)) }

-- what holds anyway holds on an error
pub on_err : {T E : Type 0} (r : Result T E) {P : Type 0} → P → OnErr r P
on_err (Ok _) p = tt
on_err (Err _) p = p

-- a text that was written from an empty page and all given to the sink
pub all_given : {a b : Option (List ℕ)} (text : List ℕ) → Written a [] b [] text → Appends a b text
all_given {a} {b} text w =
    let (given, x, e) = w.parts in
    subst (λ (t : List ℕ). Appends a b t) (sym (e ∙ append-nil given)) x

-- a text that was written from an empty page until the sink failed: a beginning of it was given to the sink
pub part_given : {a b : Option (List ℕ)} (text : List ℕ) → Stopped a [] b text → (n : ℕ) × Appends a b (take n text)
part_given {a} {b} text v =
    let (given, rest, x, e) = v.parts in (
      length given,
      subst (λ (t : List ℕ). Appends a b t) (sym (ap (λ (t : List ℕ). take (length given) t) e
          ∙ take-append_seam given rest)) x,
    )

-- a text by another name
pub written_as : {a b : Option (List ℕ)} {p q s t : List ℕ} → t ≡ s → Written a p b q s → Written a p b q t
written_as {a} {b} {p} {q} e w = subst (λ (x : List ℕ). Written a p b q x) (sym e) w

pub stopped_as : {a b : Option (List ℕ)} {p s t : List ℕ} → t ≡ s → Stopped a p b s → Stopped a p b t
stopped_as {a} {b} {p} e v = subst (λ (x : List ℕ). Stopped a p b x) (sym e) v
