-- The record comes behind those that are published.
use Rattle.std.proofs.Common.{◌≡◌, ◌++◌, ◌∷◌, [], List, sym, ap, ◌∙◌, drop, fold}
use Rattle.title_chain.specs.declared.record.Record.{Record}
use Rattle.title_views.proofs.Additions.{added, published_next, left_over}
use Rattle.title_views.proofs.publishing.publish_one.Goals as goal

pub publish_in-requires : goal.publish_in-requires
publish_in-requires g c =
    let w = c.args.writer.now in
    let d = c.in-Ok.ensures.desk in
    let x = c.append.new.self.desk.shown.value in
    let was = w.desk.shown.value.records in
    let recs : x.records ≡ was = ap (λ k. k.shown.value.records) d in
    let next = published_next g.B.Room.setting.townships g.B.Room.book was x (drop w.behind w.log.items)
    (drop c.append.new.self.behind c.append.new.self.log.items) c.args.addition recs c.requires.places c.in-Ok.ensures.pending
    c.requires.place c.requires.page.0 c.requires.page.1 c.requires.serial in
    record { next = (next.1, (c.args.addition.rec ∷ [], ap (λ (l : List Record). l ++ c.args.addition.rec ∷ []) recs ∙ sym next.0)) }

pub returns-clause-shown : goal.returns-clause-shown
returns-clause-shown g c =
    let w = c.args.writer.now in
    let d = c.in-Ok.ensures.desk in
    let x = c.append.new.self.desk.shown.value in
    let was = w.desk.shown.value.records in
    let all = drop c.append.new.self.behind c.append.new.self.log.items in
    let recs : x.records ≡ was = ap (λ k. k.shown.value.records) d in
    let next = published_next g.B.Room.setting.townships g.B.Room.book was x (drop w.behind w.log.items) all c.args.addition recs
    c.requires.places c.in-Ok.ensures.pending c.requires.place c.requires.page.0 c.requires.page.1 c.requires.serial in
    (left_over was x (fold added x all) c.publish_in.new.writer.desk.shown.value (drop w.behind w.log.items) all
    (drop c.publish_in.new.writer.behind c.publish_in.new.writer.log.items) c.args.addition c.publish_in.result recs next.0
    c.requires.places c.in-Ok.ensures.pending c.requires.place c.publish_in.ensures.published).0

pub returns-clause-places : goal.returns-clause-places
returns-clause-places g c =
    let w = c.args.writer.now in
    let d = c.in-Ok.ensures.desk in
    let x = c.append.new.self.desk.shown.value in
    let was = w.desk.shown.value.records in
    let all = drop c.append.new.self.behind c.append.new.self.log.items in
    let recs : x.records ≡ was = ap (λ k. k.shown.value.records) d in
    let next = published_next g.B.Room.setting.townships g.B.Room.book was x (drop w.behind w.log.items) all c.args.addition recs
    c.requires.places c.in-Ok.ensures.pending c.requires.place c.requires.page.0 c.requires.page.1 c.requires.serial in
    (left_over was x (fold added x all) c.publish_in.new.writer.desk.shown.value (drop w.behind w.log.items) all
    (drop c.publish_in.new.writer.behind c.publish_in.new.writer.log.items) c.args.addition c.publish_in.result recs next.0
    c.requires.places c.in-Ok.ensures.pending c.requires.place c.publish_in.ensures.published).1
