-- Lemmas on signed numbers and sets of numbers.
use Rattle.std.proofs.Common.{ℕ, Bool, true, false, ◌≡◌, ◌≤◌, ◌&&◌, nat_le, nat_lt, ℤ, pos, negsuc, ◌<ℤ◌, refl, subst, arith}
use Rattle.std.proofs.lemmas.Bool.{false_from_ne_true}
use Rattle.std.proofs.lemmas.Int.{ints}
use Rattle.rtps_coverage.specs.Coverage as coverage

-- a set of positive numbers has no number below 1
pub has-below_one : (set : ℕ → Bool) → ((n : ℕ) → set n ≡ true → 1 ≤ n) → (n : ℤ) → n <ℤ pos 1 → coverage.has set n ≡ false
has-below_one set positive (pos n) lt = false_from_ne_true (set n) (λ e. let h = positive n e in omega (arith, ints))
has-below_one set positive (negsuc n) lt = refl

-- a number and its signed form
pub has-pos : (set : ℕ → Bool) (n : ℤ) (k : ℕ) → pos k ≡ n → coverage.has set n ≡ set k
has-pos set n k e = subst (λ m. coverage.has set m ≡ set k) e refl

-- a number between two others, and their signed forms
pub is_within-pos : (lo hi : ℤ) (l h : ℕ) → pos l ≡ lo → pos h ≡ hi → (n : ℕ) → coverage.is_within lo hi n ≡ (nat_le l n && nat_lt n h)
is_within-pos lo hi l h e f n =
    subst (λ (m : ℤ). coverage.is_within m hi n ≡ (nat_le l n && nat_lt n h)) e (subst (λ (m : ℤ). coverage.is_within (pos l) m n ≡ (nat_le l n && nat_lt n h)) f refl)
