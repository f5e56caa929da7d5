-- What is said of a call that ends well.
use Rattle.std.proofs.Common.{Result, Ok, Err, OnOk}

-- what holds in any case holds where a call ends well
pub anyway : {T E P : Type 0} (r : Result T E) → P → OnOk r P
anyway (Ok x) p = p
anyway (Err e) p = tt
