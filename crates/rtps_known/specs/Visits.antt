-- Up to when it counts that one participant tells another. own: who is told just before somebody is gone has no time to acknowledge it; of healthy
-- systems a second leaves out all of that.
use Rattle.std.specs.Prelude.{ℕ, ◌≡◌, ◌+◌, ◌≤◌, ◌↔◌, Option, Some, None, min}
use Rattle.rtps_known.specs.declared.layout.TheConstants as layout
use Rattle.rtps_known.specs.declared.visit.Visit.{Visit}

-- a time lies a second before another one, where there is that
abbrev pub IsBefore : ℕ → Option ℕ → Type 0
IsBefore time (Some other) = time + layout.GRACE ≤ other
IsBefore time None = Unit {0}

-- a time lies a second before either leaves, and before the last datagram of the other, which is known
pub record IsInTime (one other : Visit) (time : ℕ) : Type 0 where
  pub last : ℕ
  pub is_last : other.last ≡ Some last
  pub before_last : time + layout.GRACE ≤ last
  pub before_one : IsBefore time one.left
  pub before_other : IsBefore time other.left

-- the times that count are those up to this one, and both are announced by then
pub record IsEndBetween (one other : Visit) (end : ℕ) : Type 0 where
  pub times : (time : ℕ) → (time ≤ end) ↔ IsInTime one other time
  pub one_is_there : one.since ≤ end
  pub other_is_there : other.since ≤ end

-- no time is both in time and not before the two are announced
abbrev pub IsNeverInTime : Visit → Visit → Type 0
IsNeverInTime one other = (time : ℕ) → one.since ≤ time → other.since ≤ time → ¬ IsInTime one other time

-- ---- the same of the code

-- the earlier of two times, where there is another
abbrev pub min_known : ℕ → Option ℕ → ℕ
min_known time (Some other) = min time other
min_known time None = time
