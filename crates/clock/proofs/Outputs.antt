-- A greater divisor gives no more whole hertz.
use Rattle.std.proofs.Common.{ℕ, ◌+◌, ◌*◌, ◌/◌, ◌<◌, ◌≤◌, mul-le-mul_right, mul-le-mul_left, div-mul-le_self, mul-pos, arith}
use Rattle.std.proofs.Math.Nat.{le_of_mul-le-mul_right}
use Rattle.std.proofs.lemmas.Nat.{le-div}
use native.Mathlib.Nat.{div-le_of_le-mul}

-- p/a and q/b are divisors, and the first is not the greater
pub hertz_falls : (s p a q b : ℕ) → 0 < p → 0 < b → p * b ≤ q * a → s * b / q ≤ s * a / p
hertz_falls s p a q b pp pb h =
    let x = s * b / q in
    let low : x * q ≤ s * b = div-mul-le_self (s * b) q in
    le-div x (s * a) p pp (le_of_mul-le-mul_right {m = x * p} {n = s * a} (omega (arith, mul-le-mul_left x h, mul-le-mul_right a low)) pb)

-- the whole part of a divisor is 1 or more, so the quotient is at most the source
pub hertz_le : (s n a b : ℕ) → 0 < n → 0 < a → s * a / (n * a + b) ≤ s
hertz_le s n a b whole pos =
    let more : a ≤ n * a = omega (arith, mul-le-mul_left a whole) in
    div-le_of_le-mul (n * a + b) (omega (arith, mul-le-mul_left s more))

pub divisor_positive : (n a b : ℕ) → 0 < n → 0 < a → 0 < n * a + b
divisor_positive n a b whole pos = omega (arith, mul-pos whole pos)
