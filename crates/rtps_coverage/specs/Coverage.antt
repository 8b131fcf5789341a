-- Sets of sequence numbers. A set is a test of numbers: it has those that pass.
-- own: a verdict asks which numbers were told, and not in which order or how often.
use Rattle.std.specs.Prelude.{ℕ, Bool, true, false, ◌≡◌, ◌≤◌, ◌<◌, ◌-◌, ◌^◌, ◌&&◌, ◌||◌, ℤ, pos, negsuc, ◌≤ℤ◌, ◌<ℤ◌, int_le, int_lt}

-- a number from lo on and below hi
abbrev pub is_within : ℤ → ℤ → ℕ → Bool
is_within lo hi n = int_le lo (pos n) && int_lt (pos n) hi

-- whether the set has a signed number: it has none below 0
abbrev pub has : (ℕ → Bool) → ℤ → Bool
has set (pos n) = set n
has set (negsuc n) = false

-- the new set is the old one with the numbers of a range
abbrev pub JoinsRange : (ℕ → Bool) → (ℕ → Bool) → ℤ → ℤ → Type 0
JoinsRange old new lo hi = (n : ℕ) → new n ≡ (old n || is_within lo hi n)

-- the new set has the old one's numbers and these, as far as a set reaches
abbrev pub TellsMore : (ℕ → Bool) → (ℕ → Bool) → (ℕ → Bool) → Type 0
TellsMore old new more = (n : ℕ) → 1 ≤ n → n < 2 ^ 63 - 1 → new n ≡ (old n || more n)

-- no number came in and none went
abbrev pub IsSameSet : (ℕ → Bool) → (ℕ → Bool) → Type 0
IsSameSet old new = (n : ℕ) → new n ≡ old n

-- the least positive number outside the set
pub record IsFront (set : ℕ → Bool) (front : ℤ) : Type 0 where
  pub positive : pos 1 ≤ℤ front
  pub outside : has set front ≡ false
  pub below : (n : ℕ) → 1 ≤ n → pos n <ℤ front → set n ≡ true

-- the least number from n on that is not in the set
pub record IsLeastFrom (set : ℕ → Bool) (n least : ℕ) : Type 0 where
  pub onward : n ≤ least
  pub in_range : least < 2 ^ 63
  pub outside : set least ≡ false
  pub between : (m : ℕ) → n ≤ m → m < least → set m ≡ true
