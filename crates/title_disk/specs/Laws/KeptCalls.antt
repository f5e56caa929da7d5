-- How what a crash may leave goes on with each call that is kept.
use Rattle.std.specs.Prelude.{◌≡◌, ◌⊎◌, ℕ, ◌+◌, ◌-◌, ◌<◌, ◌≤◌, List, [], ◌∷◌, ◌++◌, length, get_or, take, drop, reverse}
use Rattle.std.proofs.Common.{inl, inr, ⊎_elim, refl, sym, ◌∙◌, ap, subst, arith, get_or, take-append-drop, length-append, length-take}
use Rattle.std.proofs.{Common.{length-drop}, lemmas.List.{append_assoc, length-take-le}}
use Rattle.std.proofs.lemmas.List.{reverse-append, length-reverse, take_at, drop_at, take_all, take_min, take_more, drop_more, drop-drop}
use Rattle.title_disk.specs.{Crashes.{Holds, Torn, Cut, Follows, Only, Elapses}, Kept.{Leaves, MayLeave, LeftSince, Notes, content_between}}
use Rattle.title_disk.specs.declared.call.{DiskCall.{DiskCall}, KeptCall.{KeptCall}}
use Rattle.title_disk.specs.declared.call.DiskCall.TheVariants as call

-- a crash may leave what is there
pub stays : (now : List ℕ) (calls : List KeptCall) → MayLeave now calls now
stays now [] = refl
stays now (kept ∷ earlier) = inl refl

pub counts_now : (now : List ℕ) (calls : List KeptCall) (number : ℕ) (content : List ℕ) → MayLeave now calls content
    → LeftSince now calls number content
counts_now now [] number content may = may
counts_now now (kept ∷ earlier) number content may = inl may

pub only_now : (now : List ℕ) (calls : List KeptCall) (content : List ℕ) → LeftSince now calls (length calls) content
    → MayLeave now calls content
only_now now [] content left = left
only_now now (kept ∷ earlier) content (inl may) = may
only_now now (kept ∷ earlier) content (inr past) = absurd (omega arith)

-- ---- what a call does, done or torn

pub torn_by_itself : (at n : ℕ) (file : List ℕ) → Torn at n file file
torn_by_itself at n file = record { before = refl; after = refl; no_shorter = omega arith; no_longer = omega arith }

pub torn_from_Holds : (old : List ℕ) (at : ℕ) (bytes new : List ℕ) → at ≤ length old → Holds old at bytes new
    → Torn at (length bytes) old new
torn_from_Holds old at bytes new within holds =
    let n = length bytes in
    let first = take at old in
    let rest = drop (at + n) old in
    let first_len : length first ≡ at = length-take-le at old within in
    let both_len : length (first ++ bytes) ≡ at + n = omega (arith, length-append first bytes, first_len) in
    let new_len : length new ≡ at + n + (length old - (at + n)) =
    omega (arith, ap length holds, length-append (first ++ bytes) rest, both_len, length-drop (at + n) old) in
    record {
      before = ap (λ (l : List ℕ). take at l) (holds ∙ append_assoc first bytes rest) ∙ take_at first (bytes ++ rest) at first_len;
      after = ap (λ (l : List ℕ). drop (at + n) l) holds ∙ drop_at (first ++ bytes) rest (at + n) both_len;
      no_shorter = omega (arith, new_len);
      no_longer = omega (arith, new_len);
    }

-- a write of which less is done
pub torn_from_part : (old : List ℕ) (at n : ℕ) (bytes new : List ℕ) → at ≤ length old → length bytes ≤ n → Holds old at bytes new
    → Torn at n old new
torn_from_part old at n bytes new within less holds =
    let torn = torn_from_Holds old at bytes new within holds in
    let m = n - length bytes in
    let far : at + length bytes + m ≡ at + n = omega arith in
    record {
      before = torn.before;
      after = ap (λ (k : ℕ). drop k new) (sym far) ∙ sym (drop-drop m (at + length bytes) new) ∙ ap (λ (l : List ℕ). drop m l) torn.after
          ∙ drop-drop m (at + length bytes) old ∙ ap (λ (k : ℕ). drop k old) far;
      no_shorter = torn.no_shorter;
      no_longer = omega (arith, torn.no_longer);
    }

pub cut_by_itself : (len : ℕ) (file : List ℕ) → Cut len file file
cut_by_itself len file = record { no_shorter = omega arith; front = take_all (length file) file (omega arith) }

pub cut_done : (len : ℕ) (file : List ℕ) → Cut len file (take len file)
cut_done len file = record {
  no_shorter = omega (arith, length-take len file);
  front = ap (λ (n : ℕ). take n file) (length-take len file) ∙ take_min len file;
}

-- ---- one call more

newest_first : {A : Type 0} (old new : List A) (x : A) → new ≡ old ++ x ∷ [] → reverse new ≡ x ∷ reverse old
newest_first old new x is = ap reverse is ∙ reverse-append old (x ∷ [])

pub crash_goes_on : (step : List ℕ → List ℕ → Type 0) (asked : DiskCall) (was now : List ℕ) (old new : List KeptCall)
    → Notes asked was old new → step was now
    → ((d c : List ℕ) → Leaves asked d c → step d c) → Follows step (MayLeave was (reverse old)) (MayLeave now (reverse new))
crash_goes_on step asked was now old new notes done torn c left =
    elim (subst (λ (k : List KeptCall). MayLeave now k c) (newest_first old new notes.kept notes.calls_are) left) [
      | inl here ↦ (was, stays was (reverse old), subst (step was) (sym here) done)
      | inr from ↦ (
        from.0,
        subst (λ (b : List ℕ). MayLeave b (reverse old) from.0) notes.before_is from.1,
        torn from.0 c (subst (λ (k : DiskCall). Leaves k from.0 c) notes.call_is from.2),
      )
    ]

-- a call that changes nothing leaves nothing else
pub crash_stays : (asked : DiskCall) (was : List ℕ) (old new : List KeptCall) → Notes asked was old new
    → ((d c : List ℕ) → Leaves asked d c → c ≡ d)
    → (c : List ℕ) → MayLeave was (reverse new) c → MayLeave was (reverse old) c
crash_stays asked was old new notes same c left =
    let from = crash_goes_on (λ (d e : List ℕ). e ≡ d) asked was was old new notes refl same c left in
    subst (MayLeave was (reverse old)) (sym from.2) from.1

-- a sync lets nothing through but what is there
pub synced : (was : List ℕ) (old new : List KeptCall) → Notes call.Sync was old new → Only was (MayLeave was (reverse new))
synced was old new notes c left = elim (subst (λ (k : List KeptCall). MayLeave was k c)
    (newest_first old new notes.kept notes.calls_are) left) [
      | inl here ↦ here
      | inr from ↦ absurd (subst (λ (k : DiskCall). Leaves k from.0 c) notes.call_is from.2)
    ]

pub time_goes_on : (asked : DiskCall) (was now : List ℕ) (old new : List KeptCall) → Notes asked was old new
    → Elapses (length (reverse old)) (length (reverse new)) (LeftSince was (reverse old)) (LeftSince now (reverse new))
    (MayLeave now (reverse new))
time_goes_on asked was now old new notes =
    let P : List KeptCall → Type 0 = λ calls. Elapses (length (reverse old)) (length calls) (LeftSince was (reverse old))
    (LeftSince now calls) (MayLeave now calls) in
    let earlier = reverse old in
    let R : List ℕ → Type 0 = λ b. Elapses (length earlier) (length (notes.kept ∷ earlier)) (LeftSince b earlier)
    (LeftSince now (notes.kept ∷ earlier)) (MayLeave now (notes.kept ∷ earlier)) in
    subst P (sym (newest_first old new notes.kept notes.calls_are)) (subst R notes.before_is record {
      later = omega arith;
      nothing_else = λ t c le left. ⊎_elim (λ may. inr may) (λ past. inl past.1) left;
      keeps = λ t c le past. inr (le, past);
    })

pub time_stays : (now : List ℕ) (calls : List KeptCall)
    → Elapses (length calls) (length calls) (LeftSince now calls) (LeftSince now calls) (MayLeave now calls)
time_stays now calls = record { later = omega arith; nothing_else = λ t c le left. inl left; keeps = λ t c le left. left }

-- ---- what a crash after some of the calls might have left

abbrev content_before : List ℕ → List KeptCall → List ℕ
content_before now [] = now
content_before now (kept ∷ newer) = content_before kept.before.items newer

left_then : (now : List ℕ) (newer earlier : List KeptCall) (c : List ℕ) → MayLeave (content_before now newer) earlier c
    → LeftSince now (newer ++ earlier) (length earlier) c
left_then now [] earlier c may = counts_now now earlier (length earlier) c may
left_then now (kept ∷ newer) earlier c may =
    inr (omega (arith, length-append newer earlier), left_then kept.before.items newer earlier c may)

before_the_oldest : (now : List ℕ) (newer : List KeptCall) (kept : KeptCall) → content_before now (newer ++ kept ∷ []) ≡ kept.before.items
before_the_oldest now [] kept = refl
before_the_oldest now (first ∷ newer) kept = before_the_oldest first.before.items newer kept

same_content : (now : List ℕ) (later : List KeptCall) → content_between now later ≡ content_before now (reverse later)
same_content now [] = refl
same_content now (kept ∷ later) = sym (ap (content_before now) (reverse-append (kept ∷ []) later)
    ∙ before_the_oldest now (reverse later) kept)

pub left_after : (now : List ℕ) (calls : List KeptCall) (number : ℕ) (c : List ℕ) → number ≤ length calls
    → MayLeave (content_between now (drop number calls)) (reverse (take number calls)) c → LeftSince now (reverse calls) number c
left_after now calls number c within may =
    let earlier = reverse (take number calls) in
    let newer = reverse (drop number calls) in
    let all : newer ++ earlier ≡ reverse calls = sym (reverse-append (take number calls) (drop number calls))
    ∙ ap reverse (take-append-drop number calls) in
    let long : length earlier ≡ number = length-reverse (take number calls) ∙ length-take-le number calls within in
    subst (λ (n : ℕ). LeftSince now (reverse calls) n c) long (subst (λ (k : List KeptCall). LeftSince now k (length earlier) c) all
    (left_then now newer earlier c (subst (λ (b : List ℕ). MayLeave b earlier c) (same_content now (drop number calls)) may)))

-- a call more: what is there after it, or what it makes of what might have been left
pub one_call_more : (now : List ℕ) (calls : List KeptCall) (number : ℕ) (kept : KeptCall) (old new : List ℕ) → number < length calls
    → kept ≡ get_or calls number kept
    → MayLeave (content_between now (drop number calls)) (reverse (take number calls)) old
    → (new ≡ content_between now (drop (number + 1) calls)) ⊎ Leaves kept.call old new
    → MayLeave (content_between now (drop (number + 1) calls)) (reverse (take (number + 1) calls)) new
one_call_more now calls number kept old new within is may next =
    let after = content_between now (drop (number + 1) calls) in
    let earlier = reverse (take number calls) in
    let calls_are : kept ∷ earlier ≡ reverse (take (number + 1) calls) =
    sym (ap reverse (take_more calls number kept within ∙ ap (λ (k : KeptCall). take number calls ++ k ∷ []) (sym is))
    ∙ reverse-append (take number calls) (kept ∷ [])) in
    let before_is : content_between now (drop number calls) ≡ kept.before.items =
    ap (content_between now) (drop_more calls number kept within) ∙ ap (λ (k : KeptCall). k.before.items) (sym is) in
    subst (λ (k : List KeptCall). MayLeave after k new) calls_are
    (⊎_elim (λ here. inl here) (λ leaves. inr (old, subst (λ (b : List ℕ). MayLeave b earlier old) before_is may, leaves)) next)
