-- What an item of `Params` stands for. own: a list of octets in place of a borrowed slice, so that two items are equal
-- if their octets are.
use Rattle.std.specs.Prelude.{ℕ, List}
use Rattle.std.specs.Borrow.{Bor}

-- its id and the octets of its value
abbrev pub pair_of : ℕ × Bor (List ℕ) → ℕ × List ℕ
pair_of item = (item.0, item.1.now)
