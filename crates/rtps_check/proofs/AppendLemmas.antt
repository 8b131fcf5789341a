-- What is appended last.
use Rattle.std.proofs.Common.{◌≡◌, ◌++◌, List, OnOk, Result, Ok, Err, cond, is_ok, ℕ}

pub appended : {T E : Type 0} (result : Result T E) (old more new : List ℕ) → new ≡ cond (is_ok result) (old ++ more) old → OnOk result (new ≡ old ++ more)
appended (Ok done) old more new is = is
appended (Err failed) old more new is = tt
