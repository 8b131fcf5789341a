-- What stands in octets that were added to, and when they had no room.
use Rattle.std.proofs.Common.{◌≡◌, ◌≤◌, ◌<◌, ◌+◌, ◌++◌, ℕ, List, take, length, Result, Ok, Err, OnErr, sym, ap, ◌∙◌, arith}
use Rattle.std.proofs.lemmas.List.{length-append, take-take, take_at}

pub on_err : {T E : Type 0} {P : Type 0} (r : Result T E) → P → OnErr r P
on_err (Ok x) p = tt
on_err (Err y) p = p

-- how long a list is that was added to
pub grown : (old more now : List ℕ) (size count : ℕ) → size ≡ length old → count ≡ length now → now ≡ old ++ more → count ≡ size + length more
grown old more now size count sized counted is = let e = ap length is in omega (arith, length-append old more, e)

-- what stood there stays, whatever is added behind it
pub stays : (old more now items : List ℕ) (size count : ℕ) → size ≡ length old → count ≡ length now → now ≡ old ++ more → take count items ≡ now → take size items ≡ old
stays old more now items size count sized counted is front =
    let longer : size ≤ count = let e = grown old more now size count sized counted is in omega arith in
    sym (take-take size count items longer) ∙ ap (take size) (front ∙ is) ∙ take_at old more size (sym sized)

-- a list that lacked room for more lacked it for all
pub lacks : (room less size count more total : ℕ) → room ≤ less → less < count + more → count + more ≤ size + total → room < size + total
lacks room less size count more total a b d = omega arith
