-- Numbers in units, rounded up.
use Rattle.std.proofs.Common.{ℕ, suc, ◌+◌, ◌*◌, ◌<◌, ◌≤◌, arith}
use Rattle.std.specs.Int.{div_ceil}
use Rattle.std.proofs.Math.Nat.{mul-suc, mul_comm, lt_of_mul-lt-mul_left}
use Rattle.std.proofs.lemmas.Grind.{div_ceil_times}

-- so many units are enough
pub ceil_ge : (x unit : ℕ) → 0 < unit → x ≤ unit * div_ceil x unit
ceil_ge x unit some = omega (arith, (div_ceil_times x unit some).0, mul_comm (div_ceil x unit) unit)

-- and no more than any number of them that is enough
pub ceil_le : (x unit n : ℕ) → 0 < unit → x ≤ unit * n → div_ceil x unit ≤ n
ceil_le x unit n some le =
    let lt : div_ceil x unit < suc n = lt_of_mul-lt-mul_left unit (omega (arith, (div_ceil_times x unit some).1, mul_comm (div_ceil x unit) unit, mul-suc unit n)) in
    omega arith

-- less is no more units
pub ceil_mono : (x y unit : ℕ) → 0 < unit → x ≤ y → div_ceil x unit ≤ div_ceil y unit
ceil_mono x y unit some le = ceil_le x unit (div_ceil y unit) some (omega (arith, ceil_ge y unit some))

-- and a unit more is one more at most
pub ceil_more : (x y unit : ℕ) → 0 < unit → x ≤ unit + y → div_ceil x unit ≤ suc (div_ceil y unit)
ceil_more x y unit some le = ceil_le x unit (suc (div_ceil y unit)) some (omega (arith, ceil_ge y unit some, mul-suc unit (div_ceil y unit)))
