-- What a call does that writes a text through a page.
use Rattle.std.specs.Prelude.{◌≡◌, ℕ, Bool, true, false, List, Option, Result, OnOk, OnErr}
use Rattle.title_page.specs.Pages.{Stopped, Written}

-- the text was written, and the sink works on; or the sink failed while it was written
pub record IsPut {T E : Type 0} (result : Result T E) (taken : Option (List ℕ)) (page : List ℕ) (taken_after : Option (List ℕ))
    (page_after : List ℕ) (has_failed : Bool) (text : List ℕ) : Type 0 where
  pub written : OnOk result (Written taken page taken_after page_after text)
  pub well : OnOk result (has_failed ≡ false)
  pub stopped : OnErr result (Stopped taken page taken_after text)
  pub failed : OnErr result (has_failed ≡ true)
