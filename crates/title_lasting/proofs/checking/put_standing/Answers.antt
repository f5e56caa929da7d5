use Rattle.std.{proofs.Common.{◌≡◌, ◌∙◌, List, ap, arith, codes, length, map, reverse}, specs.String.{string_bytes}}
use Rattle.std.proofs.lemmas.Result.{on_err_weaker, on_ok_weaker}
use Rattle.title_page.specs.Laws.InTurn.{on_err}
use Rattle.title_standing.specs.{declared.deeds.Deeds.{Deeds}, Records.{record_of}}
use Rattle.title_lasting.{specs.Tells.{count_row, posts_in, told_number}, proofs.Told.{stopped_at}}
use Rattle.title_lasting.proofs.Told.{all_five, at_first, at_fourth, at_last, at_second, at_third, counted_as, number_mapped, number_turned}
use Rattle.title_lasting.proofs.checking.put_standing.Goals as goal

pub returns-in_err-put_count-clause-stopped : goal.returns-in_err-put_count-clause-stopped
returns-in_err-put_count-clause-stopped g c =
    let stands = c.args.stands.now in
    let townships : c.len.result ≡ length stands.townships.items = omega arith in
    let records = reverse (map record_of stands.deeds.items) in
    let r = count_row (codes "townships") (length stands.townships.items) in
    let s = count_row (codes "parties") (length (map string_bytes stands.parties.keys)) in
    let t = count_row (codes "transactions") (length records) in
    let u = count_row (codes "posts") (told_number (posts_in records)) in
    let v = count_row (codes "tail") c.args.tail in
    on_err c.from_residual.result (at_first r s t u v
    (stopped_at (codes "townships") c.len.result (length stands.townships.items) townships c.in_err-put_count.ensures.stopped))

pub returns-in_err-put_count-2-clause-stopped : goal.returns-in_err-put_count-2-clause-stopped
returns-in_err-put_count-2-clause-stopped g c =
    let stands = c.args.stands.now in
    let townships : c.len.result ≡ length stands.townships.items = omega arith in
    let records = reverse (map record_of stands.deeds.items) in
    let r = count_row (codes "townships") (length stands.townships.items) in
    let s = count_row (codes "parties") (length (map string_bytes stands.parties.keys)) in
    let t = count_row (codes "transactions") (length records) in
    let u = count_row (codes "posts") (told_number (posts_in records)) in
    let v = count_row (codes "tail") c.args.tail in
    let one = counted_as (codes "townships") c.len.result (length stands.townships.items) townships c.in_ok-put_count.ensures.written in
    let parties = number_mapped string_bytes stands.parties.keys c.len-2.result c.len-2.ensures.len in
    on_err c.from_residual-in_err-put_count-2.result (at_second r s t u v one
    (stopped_at (codes "parties") c.len-2.result (length (map string_bytes stands.parties.keys)) parties
    c.in_err-put_count-2.ensures.stopped))

pub returns-in_err-put_count-3-clause-stopped : goal.returns-in_err-put_count-3-clause-stopped
returns-in_err-put_count-3-clause-stopped g c =
    let stands = c.args.stands.now in
    let townships : c.len.result ≡ length stands.townships.items = omega arith in
    let records = reverse (map record_of stands.deeds.items) in
    let r = count_row (codes "townships") (length stands.townships.items) in
    let s = count_row (codes "parties") (length (map string_bytes stands.parties.keys)) in
    let t = count_row (codes "transactions") (length records) in
    let u = count_row (codes "posts") (told_number (posts_in records)) in
    let v = count_row (codes "tail") c.args.tail in
    let one = counted_as (codes "townships") c.len.result (length stands.townships.items) townships c.in_ok-put_count.ensures.written in
    let parties = number_mapped string_bytes stands.parties.keys c.len-2.result c.len-2.ensures.len in
    let two = counted_as (codes "parties") c.len-2.result (length (map string_bytes stands.parties.keys)) parties
    c.in_ok-put_count-2.ensures.written in
    let transactions : c.len-3.result ≡ length stands.deeds.items = omega arith in
    let number = number_turned record_of stands.deeds.items c.len-3.result transactions in
    on_err c.from_residual-in_err-put_count-3.result (at_third r s t u v one two
    (stopped_at (codes "transactions") c.len-3.result (length records) number c.in_err-put_count-3.ensures.stopped))

pub returns-in_err-put_count-4-clause-stopped : goal.returns-in_err-put_count-4-clause-stopped
returns-in_err-put_count-4-clause-stopped g c =
    let stands = c.args.stands.now in
    let townships : c.len.result ≡ length stands.townships.items = omega arith in
    let records = reverse (map record_of stands.deeds.items) in
    let r = count_row (codes "townships") (length stands.townships.items) in
    let s = count_row (codes "parties") (length (map string_bytes stands.parties.keys)) in
    let t = count_row (codes "transactions") (length records) in
    let u = count_row (codes "posts") (told_number (posts_in records)) in
    let v = count_row (codes "tail") c.args.tail in
    let one = counted_as (codes "townships") c.len.result (length stands.townships.items) townships c.in_ok-put_count.ensures.written in
    let parties = number_mapped string_bytes stands.parties.keys c.len-2.result c.len-2.ensures.len in
    let two = counted_as (codes "parties") c.len-2.result (length (map string_bytes stands.parties.keys)) parties
    c.in_ok-put_count-2.ensures.written in
    let transactions : c.len-3.result ≡ length stands.deeds.items = omega arith in
    let number = number_turned record_of stands.deeds.items c.len-3.result transactions in
    let three = counted_as (codes "transactions") c.len-3.result (length records) number c.in_ok-put_count-3.ensures.written in
    let posts = c.count_posts.ensures.posts
    ∙ ap (λ (deeds : List Deeds). told_number (posts_in (reverse (map record_of deeds)))) c.deref.ensures.value in
    on_err c.from_residual-in_err-put_count-4.result (at_fourth r s t u v one two three
    (stopped_at (codes "posts") c.count_posts.result (told_number (posts_in records)) posts c.in_err-put_count-4.ensures.stopped))

pub returns-clause-written : goal.returns-clause-written
returns-clause-written g c =
    let stands = c.args.stands.now in
    let townships : c.len.result ≡ length stands.townships.items = omega arith in
    let records = reverse (map record_of stands.deeds.items) in
    let r = count_row (codes "townships") (length stands.townships.items) in
    let s = count_row (codes "parties") (length (map string_bytes stands.parties.keys)) in
    let t = count_row (codes "transactions") (length records) in
    let u = count_row (codes "posts") (told_number (posts_in records)) in
    let v = count_row (codes "tail") c.args.tail in
    let one = counted_as (codes "townships") c.len.result (length stands.townships.items) townships c.in_ok-put_count.ensures.written in
    let parties = number_mapped string_bytes stands.parties.keys c.len-2.result c.len-2.ensures.len in
    let two = counted_as (codes "parties") c.len-2.result (length (map string_bytes stands.parties.keys)) parties
    c.in_ok-put_count-2.ensures.written in
    let transactions : c.len-3.result ≡ length stands.deeds.items = omega arith in
    let number = number_turned record_of stands.deeds.items c.len-3.result transactions in
    let three = counted_as (codes "transactions") c.len-3.result (length records) number c.in_ok-put_count-3.ensures.written in
    let posts = c.count_posts.ensures.posts
    ∙ ap (λ (deeds : List Deeds). told_number (posts_in (reverse (map record_of deeds)))) c.deref.ensures.value in
    let four = counted_as (codes "posts") c.count_posts.result (told_number (posts_in records)) posts c.in_ok-put_count-4.ensures.written in
    on_ok_weaker c.put_count-5.result (λ w. all_five r s t u v one two three four w) c.put_count-5.ensures.written

pub returns-clause-stopped : goal.returns-clause-stopped
returns-clause-stopped g c =
    let stands = c.args.stands.now in
    let townships : c.len.result ≡ length stands.townships.items = omega arith in
    let records = reverse (map record_of stands.deeds.items) in
    let r = count_row (codes "townships") (length stands.townships.items) in
    let s = count_row (codes "parties") (length (map string_bytes stands.parties.keys)) in
    let t = count_row (codes "transactions") (length records) in
    let u = count_row (codes "posts") (told_number (posts_in records)) in
    let v = count_row (codes "tail") c.args.tail in
    let one = counted_as (codes "townships") c.len.result (length stands.townships.items) townships c.in_ok-put_count.ensures.written in
    let parties = number_mapped string_bytes stands.parties.keys c.len-2.result c.len-2.ensures.len in
    let two = counted_as (codes "parties") c.len-2.result (length (map string_bytes stands.parties.keys)) parties
    c.in_ok-put_count-2.ensures.written in
    let transactions : c.len-3.result ≡ length stands.deeds.items = omega arith in
    let number = number_turned record_of stands.deeds.items c.len-3.result transactions in
    let three = counted_as (codes "transactions") c.len-3.result (length records) number c.in_ok-put_count-3.ensures.written in
    let posts = c.count_posts.ensures.posts
    ∙ ap (λ (deeds : List Deeds). told_number (posts_in (reverse (map record_of deeds)))) c.deref.ensures.value in
    let four = counted_as (codes "posts") c.count_posts.result (told_number (posts_in records)) posts c.in_ok-put_count-4.ensures.written in
    on_err_weaker c.put_count-5.result (λ x. at_last r s t u v one two three four x) c.put_count-5.ensures.stopped
