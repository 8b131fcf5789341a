-- The ranges of numbers in a set. own: numbers are taken range by range, so that many numbers in few ranges take few
-- steps.
use Rattle.std.specs.Prelude.{ℕ, Bool, true, false, ◌≤◌, ◌<◌, pos}
use Rattle.rtps_ids.specs.NumberSet as number_set

-- the value of a bit that is set, or of one that is clear
abbrev pub wanted_bit : Bool → ℕ
wanted_bit true = 1
wanted_bit false = 0

-- The first range of members from the number `from` on: each number from lo to hi - 1 is a member, hi is not, and no
-- number from `from` to lo - 1 is.
pub record IsRangeFrom (set : number_set.NumberSetValue) (from lo hi : ℕ) : Type 0 where
  pub onward : from ≤ lo
  pub some : lo < hi
  pub before : (n : ℕ) → from ≤ n → n < lo → number_set.IsMember set (pos n) → ⊥
  pub members : (n : ℕ) → lo ≤ n → n < hi → number_set.IsMember set (pos n)
  pub past : number_set.IsMember set (pos hi) → ⊥

-- the set has no member from a number on
abbrev pub HasNoneFrom : number_set.NumberSetValue → ℕ → Type 0
HasNoneFrom set from = (n : ℕ) → from ≤ n → number_set.IsMember set (pos n) → ⊥
