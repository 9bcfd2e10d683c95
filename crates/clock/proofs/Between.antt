-- Fractions next to each other: a/b and c/d with c b = a d + 1.
use Rattle.std.proofs.Common.{◌≡◌, ℕ, ◌+◌, ◌*◌, ◌<◌, ◌≤◌, ap, ⊎_elim, mul-le-mul_right, mul-le-mul_left, arith}
use Rattle.std.proofs.lemmas.Bool.{cases_lt}

-- between them lies no fraction n/m with m below b + d
pub none_between : (a b c d n m : ℕ) → c * b ≡ a * d + 1 → a * m < n * b → n * d < c * m → b + d ≤ m
none_between a b c d n m e low high =
    omega (arith, mul-le-mul_left d low, mul-le-mul_left b high, ap (λ (x : ℕ). x * m) e)

-- p/q below x/y, and x/y not above n/m: p/q is below n/m
pub below_through : (p q x y n m : ℕ) → p * y < x * q → x * m ≤ n * y → 0 < m → p * m < n * q
below_through p q x y n m low high pos =
    ⊎_elim (λ done. done)
    (λ (over : n * q ≤ p * m).
    absurd (omega (arith, mul-le-mul_right y over, mul-le-mul_right q high, mul-le-mul_right m low)))
    (cases_lt (p * m) (n * q))
