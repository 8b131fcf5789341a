-- Numbers that were told gone, as ranges by their ends. own: the first range that ends past a number tells whether it was told gone, and
-- up to where the numbers behind it are alike.
use Rattle.std.specs.Prelude.{ℕ, ◌≡◌, ◌≤◌, ◌<◌, ◌⊎◌, Some, None}
use Rattle.std.specs.BTreeMap.{BTreeMap, get}
use Rattle.std.specs.Ordering.{nat_cmp}

-- ---- entries by numbers

-- the first entry past a number
pub record IsFirstPast (entries : BTreeMap ℕ ℕ) (number key value : ℕ) : Type 0 where
  pub here : get nat_cmp entries key ≡ Some value
  pub past : number < key
  pub least : (other : ℕ) → number < other → other < key → get nat_cmp entries other ≡ None

-- there is none past a number
abbrev pub HasNonePast : BTreeMap ℕ ℕ → ℕ → Type 0
HasNonePast entries number = (other : ℕ) → number < other → get nat_cmp entries other ≡ None

-- ---- ranges by their ends, each with where it begins

-- a range has n
pub record IsIn (ranges : BTreeMap ℕ ℕ) (n : ℕ) : Type 0 where
  pub end : ℕ
  pub begin : ℕ
  pub here : get nat_cmp ranges end ≡ Some begin
  pub from : begin ≤ n
  pub to : n < end

-- none is empty, and one that ends later does not begin earlier
pub record AreInOrder (ranges : BTreeMap ℕ ℕ) : Type 0 where
  pub some : (end begin : ℕ) → get nat_cmp ranges end ≡ Some begin → begin < end
  pub rise : (end later begin other : ℕ) → get nat_cmp ranges end ≡ Some begin → get nat_cmp ranges later ≡ Some other → end < later → begin ≤ other

-- a range from begin to end is not empty, overlaps none that ends before it, and begins before each that ends later
pub record HasRoom (ranges : BTreeMap ℕ ℕ) (begin end : ℕ) : Type 0 where
  pub some : begin < end
  pub before : (other first : ℕ) → get nat_cmp ranges other ≡ Some first → other ≤ end → other ≤ begin
  pub behind : (other first : ℕ) → get nat_cmp ranges other ≡ Some first → end < other → begin < first

-- Of some ranges those are left that do not overlap the numbers from lo on and below hi, or end behind them. From `begin` on and below hi are
-- these numbers and all of those that are taken out.
pub record IsTakenOut (old new : BTreeMap ℕ ℕ) (lo hi begin : ℕ) : Type 0 where
  pub onward : begin ≤ lo
  pub kept : (end first : ℕ) → get nat_cmp new end ≡ Some first → get nat_cmp old end ≡ Some first
  pub numbers : (n : ℕ) → IsIn old n → IsIn new n ⊎ ((begin ≤ n) × (n < hi))
  pub covered : (n : ℕ) → begin ≤ n → n < lo → IsIn old n
  pub before : (end first : ℕ) → get nat_cmp new end ≡ Some first → end ≤ hi → end ≤ begin
