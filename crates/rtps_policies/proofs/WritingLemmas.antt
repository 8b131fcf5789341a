-- Places of numbers.
use Rattle.std.proofs.Common.{◌<◌, ◌^◌, ℕ, zero, suc, arith}

-- a power of ten is not 0
pub ten_power : (count : ℕ) → 0 < 10 ^ count
ten_power zero = omega arith
ten_power (suc count) = let some : 0 < 10 ^ count = ten_power count in omega arith
