-- One line more, with no text made.
use Rattle.std.{proofs.{Common.{List, [], ◌∷◌, subst, sym}, lemmas.List.Elements.{All-append, All-cons, All-nil}}, specs.List.{All}}
use Rattle.title_report.specs.{EntryTexts.{IsMade}, declared.entry_line.EntryLine.{EntryLine}}
use Rattle.title_report.proofs.entry_lines.add_line.Goals as goal

pub returns-then-has_room : goal.returns-then-has_room
returns-then-has_room c = record {
  lines = λ names made. subst (λ (xs : List EntryLine). All (IsMade names) xs) (sym c.push_reserved.ensures.items)
      (All-append (IsMade names) c.args.lines.now.items (c.new.result ∷ []) made
      (All-cons (IsMade names) c.new.result [] (c.new.ensures.line names) (All-nil (IsMade names))));
}
