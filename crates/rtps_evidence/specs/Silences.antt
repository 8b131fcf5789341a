-- How far a walk over what a pair said came, for all numbers at once. own: of a number that was not told gone, each HEARTBEAT that its reader
-- heard began up to it, so that which numbers were asked about is told by how far the HEARTBEATs went; and what was answered matters no more.
use Rattle.std.specs.Prelude.{ℕ, Bool, true, false, ◌≡◌, ◌≤◌, ◌<◌, ◌⊎◌, ◌||◌, max}
use Rattle.std.specs.BTreeMap.{BTreeMap}
use Rattle.rtps_evidence.specs.GoneRanges as gone_ranges
use Rattle.rtps_evidence.specs.Outcomes as outcomes
use Rattle.rtps_evidence.specs.Times as times
use Rattle.rtps_evidence.specs.declared.questioned.Moment.{Moment}
use Rattle.rtps_evidence.specs.declared.questioned.Questioned.{Questioned}

-- the number was told gone, as far as that matters
abbrev pub IsGone : Questioned → ℕ → Type 0
IsGone questioned n = gone_ranges.IsIn questioned.gone.by_end n

-- the number was asked about first in this datagram, and no answer stands behind that
abbrev pub IsAskedFirst : Questioned → ℕ → ℕ → Type 0
IsAskedFirst questioned n datagram = (end : ℕ) × gone_ranges.IsFirstPast questioned.asked n end datagram

-- It came so far with n: whether n was told gone in silence is kept beside.
abbrev pub IsSo : ℕ → outcomes.Silence → Questioned → Bool → Type 0
IsSo n outcomes.Silence.Unasked questioned silent = (silent ≡ false) × ¬ IsGone questioned n × (questioned.once ≤ n)
IsSo n (outcomes.Silence.Once asked) questioned silent = (silent ≡ false) × ¬ IsGone questioned n × (questioned.answered ≤ n) × (n < questioned.once) × (questioned.again ≤ n) × IsAskedFirst questioned n asked
IsSo n (outcomes.Silence.Again asked) questioned silent = (silent ≡ false) × ¬ IsGone questioned n × (questioned.answered ≤ n) × (n < questioned.again) × IsAskedFirst questioned n asked
IsSo n outcomes.Silence.Answered questioned silent = (silent ≡ false) × (n < questioned.answered)
IsSo n outcomes.Silence.Silent questioned silent = (silent ≡ true) × ((n < questioned.answered) ⊎ IsGone questioned n)
IsSo n outcomes.Silence.Ended questioned silent = (silent ≡ false) × ((n < questioned.answered) ⊎ IsGone questioned n)

-- it did; what was answered, or asked about again, was asked about
pub record IsAt (n : ℕ) (silence : outcomes.Silence) (questioned : Questioned) (silent : Bool) : Type 0 where
  pub answered : questioned.answered ≤ questioned.once
  pub again : questioned.again ≤ questioned.once
  pub ends : gone_ranges.HasNonePast questioned.asked questioned.once
  pub so : IsSo n silence questioned silent

-- of the numbers from lo on and below hi those are added to a set that were not told gone, and were asked about first long ago
pub record AreHushed (questioned : Questioned) (moment : Moment) (lo hi : ℕ) (old new : ℕ → Bool) : Type 0 where
  pub before : (n : ℕ) → n < lo → new n ≡ old n
  pub behind : (n : ℕ) → hi ≤ n → new n ≡ old n
  pub gone : (n : ℕ) → IsGone questioned n → new n ≡ old n
  pub hushed : (n asked : ℕ) → lo ≤ n → n < hi → ¬ IsGone questioned n → IsAskedFirst questioned n asked
      → new n ≡ (old n || times.is_long_between moment.times.now.of_datagrams asked moment.datagram)

-- the HEARTBEATs by where their numbers end, with one more in a datagram, which asks about the numbers below an end
pub record IsAskedMore (old new : BTreeMap ℕ ℕ) (once end datagram : ℕ) : Type 0 where
  pub ends : gone_ranges.HasNonePast new (max once end)
  pub earlier : (n key first : ℕ) → gone_ranges.IsFirstPast old n key first → gone_ranges.IsFirstPast new n key first
  pub later : (n : ℕ) → once ≤ n → n < end → gone_ranges.IsFirstPast new n end datagram
