-- The text up to the first name, the names with a comma between them, and the end.
use Rattle.std.proofs.{Common.{append_assoc, refl}, lemmas.Option.{IfSome_then}}
use Rattle.title_report.proofs.entry_line.make_text.Goals as goal

pub returns : goal.returns
returns c = record {
  made = IfSome_then c.add-3.result c.add-3.ensures.added
      (λ _ e. rw (
        e,
        c.in_ok-add_to-2.ensures.added,
        c.in_ok-add-2.ensures.added,
        c.in_ok-add_to.ensures.added,
        c.in_ok-add.ensures.added,
        c.clear.ensures,
        c.as_bytes.ensures.bytes,
        c.make_front-front.ensures.made,
        c.estates_end.ensures.letters,
      ) (simp append_assoc refl));
}
