-- How the logic stores a list of calls.
use Rattle.std.specs.Prelude.{◌≡◌, ℕ, Bool, true, List, [], cond, ◌==◌, refl}
use Rattle.std.specs.Coded.{Coded, code_by, coded×, coded_ℕ, coded_bool, coded_list}
use Rattle.title_file.specs.Calls.{Call, asked, opened, written, cut, synced, kept, unread}

abbrev Parts : Type 0
Parts = ℕ × (ℕ × (List ℕ × (List ℕ × Bool)))

abbrev to_parts : Call → Parts
to_parts (opened path bytes) = (0, (0, (path, (bytes, true))))
to_parts (written at bytes done) = (1, (at, ([], (bytes, done))))
to_parts (cut len done) = (2, (len, ([], ([], done))))
to_parts (synced done) = (3, (0, ([], ([], done))))
to_parts (kept bytes done) = (4, (0, ([], (bytes, done))))
to_parts unread = (5, (0, ([], ([], true))))
to_parts (asked path) = (6, (0, (path, ([], true))))

abbrev from_parts : Parts → Call
from_parts p =
    cond (p.0 == 0) (opened p.1.1.0 p.1.1.1.0) (cond (p.0 == 1) (written p.1.0 p.1.1.1.0 p.1.1.1.1)
    (cond (p.0 == 2) (cut p.1.0 p.1.1.1.1) (cond (p.0 == 3) (synced p.1.1.1.1)
    (cond (p.0 == 4) (kept p.1.1.1.0 p.1.1.1.1) (cond (p.0 == 5) unread (asked p.1.1.0))))))

pub from_parts-to_parts : (call : Call) → from_parts (to_parts call) ≡ call
from_parts-to_parts (opened path bytes) = refl
from_parts-to_parts (written at bytes done) = refl
from_parts-to_parts (cut len done) = refl
from_parts-to_parts (synced done) = refl
from_parts-to_parts (kept bytes done) = refl
from_parts-to_parts unread = refl
from_parts-to_parts (asked path) = refl

abbrev pub calls_code : Coded (List Call)
calls_code = coded_list (code_by Parts
    (coded× coded_ℕ (coded× coded_ℕ (coded× (coded_list coded_ℕ) (coded× (coded_list coded_ℕ) coded_bool))))
    to_parts from_parts from_parts-to_parts)
