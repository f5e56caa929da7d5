-- Each row comes to what it does by its fields, and the last one by its text.
use Rattle.std.proofs.Common.{◌≡◌, ◌≤◌, ◌<◌, ◌+◌, ◌-◌, ◌++◌, ◌∷◌, ℕ, List, None, Some, length, length-drop, take, drop, refl, sym}
use Rattle.std.proofs.{Common.{ap, ◌∙◌, subst, inl, inr, arith}, lemmas.{List.{drop-drop, take_rest}, Result.{err_from_is_err_and}}}
use Rattle.csv.specs.Records.{fields_of}
use Rattle.title_journal.specs.Blocks.{line_feed}
use Rattle.title_daybook.specs.{Books.{progress_of}, KeptRows.{after_last_row}, Lines.{fields_in, IsFirstLine}, Readers.{IsAt}}
use Rattle.title_daybook.proofs.{Blocks.{a_row, counts_last, last_row, no_fields, one_more, row_is}, Marks.{marked_block}}
use Rattle.title_daybook.proofs.book.Book.take_block.Goals as goal

same_length : (at len : ℕ) → at + len - at ≡ len
same_length at len = omega arith

same_line : (text : List ℕ) (at len : ℕ) → take (at + len - at) (drop at text) ≡ take len (drop at text)
same_line text at len = ap (λ (n : ℕ). take n (drop at text)) (same_length at len)

pub returns-then-is_marked-clause-err : goal.returns-then-is_marked-clause-err
returns-then-is_marked-clause-err c = inr (
  c.args.first,
  refl,
  marked_block c.args.first (progress_of c.args.self.now) c.args.text.now
      (sym c.is_marked.ensures.marked ∙ c.if-is_marked.true),
)

pub returns-in_err-take_last-clause-err : goal.returns-in_err-take_last-clause-err
returns-in_err-take_last-clause-err c =
    let text = c.args.text.now in
    let at = c.rows.at in
    let len = c.line_len-len.result in
    let p = progress_of c.rows.self in
    let first = subst (λ (l : List ℕ). IsFirstLine l len) (take_rest text at) c.line_len-len.ensures.first in
    let past : length text ≤ at + len + 1 = omega arith in
    let out = err_from_is_err_and c.from_residual.result c.from_residual.ensures.1 in
    rw (out.1, out.2) (elim c.in_err-take_last.ensures.err [
      | inl memory ↦ inl memory
      | inr due ↦
          let refused = subst (λ (l : List ℕ). after_last_row p l ≡ None) (same_line text at len) due.1 in
          inr (
            c.rows.n,
            due.0,
            last_row c.args.first text (progress_of c.args.self.now) c.rows.n at p c.rows.invariant.read len
                first past None refused,
          )
    ])

pub returns-then-at-len-clause-ok : goal.returns-then-at-len-clause-ok
returns-then-at-len-clause-ok c =
    let text = c.args.text.now in
    let at = c.rows.at in
    let len = c.line_len-len.result in
    let p = progress_of c.rows.self in
    let first = subst (λ (l : List ℕ). IsFirstLine l len) (take_rest text at) c.line_len-len.ensures.first in
    let past : length text ≤ at + len + 1 = omega arith in
    let taken = subst (λ (l : List ℕ). after_last_row p l ≡ Some p) (same_line text at len) c.in_ok-take_last.ensures.ok in (
      last_row c.args.first text (progress_of c.args.self.now) c.rows.n at p c.rows.invariant.read len first past (Some p) taken,
      counts_last c.args.first text (progress_of c.args.self.now) c.rows.n at p c.rows.invariant.read len first past,
      omega (arith, c.rows.invariant.read.few),
    )

pub returns-in_err-read_line-clause-err : goal.returns-in_err-read_line-clause-err
returns-in_err-read_line-clause-err c =
    let text = c.args.text.now in
    let at = c.rows.at in
    let len = c.line_len-len.result in
    let p = progress_of c.rows.self in
    let rest = drop (len + 1) (drop at text) in
    let first = subst (λ (l : List ℕ). IsFirstLine l len) (take_rest text at) c.line_len-len.ensures.first in
    let more : at + len + 1 < length text = omega arith in
    let stands = first.feed (omega (arith, length-drop at text))
    ∙ ap (λ (l : List ℕ). l ++ line_feed ∷ rest) (sym (same_line text at len)) in
    let front = subst (IsAt c.rows.reader) stands c.rows.invariant.front in
    let out = err_from_is_err_and c.from_residual-in_err-read_line.result c.from_residual-in_err-read_line.ensures.1 in
    rw (out.1, out.2) (elim (c.in_err-read_line.ensures.err rest front) [
      | inl memory ↦ inl memory
      | inr due ↦
          let none = subst (λ (l : List ℕ). fields_in l ≡ None) (same_line text at len) due.1 in
          inr (
            c.rows.n,
            due.0,
            a_row c.args.first text (progress_of c.args.self.now) c.rows.n at p c.rows.invariant.read len first more None
                (no_fields p (take len (drop at text)) none),
          )
    ])

pub returns-in_err-raw-clause-err : goal.returns-in_err-raw-clause-err
returns-in_err-raw-clause-err c =
    let text = c.args.text.now in
    let at = c.rows.at in
    let len = c.line_len-len.result in
    let p = progress_of c.rows.self in
    let rest = drop (len + 1) (drop at text) in
    let first = subst (λ (l : List ℕ). IsFirstLine l len) (take_rest text at) c.line_len-len.ensures.first in
    let more : at + len + 1 < length text = omega arith in
    let stands = first.feed (omega (arith, length-drop at text))
    ∙ ap (λ (l : List ℕ). l ++ line_feed ∷ rest) (sym (same_line text at len)) in
    let front = subst (IsAt c.rows.reader) stands c.rows.invariant.front in
    let fields = fields_of c.read_line.new.raw in
    let read = subst (λ (l : List ℕ). fields_in l ≡ Some fields) (same_line text at len) (c.in_ok-read_line.ensures.fields rest front).0 in
    let out = err_from_is_err_and c.from_residual-in_err-raw.result c.from_residual-in_err-raw.ensures.1 in
    rw (out.1, out.2) (elim c.in_err-raw.ensures.err [
      | inl memory ↦ inl memory
      | inr due ↦ inr (
        c.rows.n,
        due.0,
        a_row c.args.first text (progress_of c.args.self.now) c.rows.n at p c.rows.invariant.read len first more
            None (row_is p (take len (drop at text)) fields read ∙ due.1),
      )
    ])

pub rows-preserved : goal.rows-preserved
rows-preserved c =
    let text = c.args.text.now in
    let at = c.rows.at in
    let len = c.line_len-len.result in
    let p = progress_of c.rows.self in
    let rest = drop (len + 1) (drop at text) in
    let first = subst (λ (l : List ℕ). IsFirstLine l len) (take_rest text at) c.line_len-len.ensures.first in
    let more : at + len + 1 < length text = omega arith in
    let stands = first.feed (omega (arith, length-drop at text))
    ∙ ap (λ (l : List ℕ). l ++ line_feed ∷ rest) (sym (same_line text at len)) in
    let front = subst (IsAt c.rows.reader) stands c.rows.invariant.front in
    let fields = fields_of c.read_line.new.raw in
    let got = c.in_ok-read_line.ensures.fields rest front in
    let read = subst (λ (l : List ℕ). fields_in l ≡ Some fields) (same_line text at len) got.0 in
    record {
      read = one_more c.args.first text (progress_of c.args.self.now) c.rows.n at p c.rows.invariant.read len first more
          (progress_of c.take_record.new.self) (row_is p (take len (drop at text)) fields read ∙ c.in_ok-raw.ensures.ok);
      front = subst (IsAt c.read_line.new.reader) (drop-drop (len + 1) at text) got.1;
    }
