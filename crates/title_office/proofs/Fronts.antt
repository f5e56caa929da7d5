-- Records that are published one after another.
use Rattle.std.proofs.Common.{◌≡◌, ◌∙◌, ◌<◌, ◌+◌, ℕ, List, [], ◌∷◌, ◌++◌, sym, ap, subst, get_or, length, reverse, take, drop}
use Rattle.std.proofs.lemmas.List.{reverse-append, take-append-drop, take_more}
use Rattle.title_land.specs.{Depth.{depth}, declared.survey.Township.{Township}}
use Rattle.title_chain.specs.{declared.record.Record.{Record}, Alone.{IsSerial}}
use Rattle.title_ledger.specs.Ledgers.{AreSerial}

-- those before serial records are serial
earlier : (townships : List Township) (news older : List Record) → IsSerial depth townships (news ++ older)
    → IsSerial depth townships older
earlier townships [] older serial = serial
earlier townships (r ∷ news) older serial = earlier townships news older serial.0

-- the first so many of serial records are
pub first_serial : (townships : List Township) (records : List Record) (n : ℕ) → AreSerial townships records
    → AreSerial townships (take n records)
first_serial townships records n serial =
    earlier townships (reverse (drop n records)) (reverse (take n records))
    (subst (IsSerial depth townships)
    (ap reverse (sym (take-append-drop n records)) ∙ reverse-append (take n records) (drop n records)) serial)

-- one record more
pub one_front : (records : List Record) (i : ℕ) (x : Record) → i < length records → x ≡ get_or records i x
    → take i records ++ x ∷ [] ≡ take (i + 1) records
one_front records i x lt is =
    ap (λ (y : Record). take i records ++ y ∷ []) is ∙ sym (take_more records i x lt)

pub next_serial : (townships : List Township) (records front : List Record) (i : ℕ) (x y : Record) → i < length records
    → x ≡ get_or records i x → y ≡ x → front ≡ take i records → AreSerial townships records → AreSerial townships (front ++ y ∷ [])
next_serial townships records front i x y lt is same so_far serial =
    subst (AreSerial townships)
    (sym (ap (λ (f : List Record). f ++ y ∷ []) so_far ∙ ap (λ (z : Record). take i records ++ z ∷ []) same
    ∙ one_front records i x lt is))
    (first_serial townships records (i + 1) serial)
