-- Decimal numbers: ASCII digits only, at least one, leading zeros allowed, and no more than a u32 holds.
use Rattle.std.specs.Prelude.{ℕ, ◌+◌, ◌-◌, ◌*◌, Bool, cond, ◌&&◌, List, [], ◌∷◌, length, Ok, Err, Result, nat_le, nat_lt}
use Rattle.std.specs.List.{list_all}
use Rattle.job.specs.Reasons.{Reason}
use Rattle.job.specs.Reasons.Reason.{not_a_number, too_large}

-- the digits are the bytes from 48 to 57
abbrev pub digit : ℕ → Bool
digit b = nat_le 48 b && nat_le b 57

abbrev pub numeral : List ℕ → Bool
numeral bs = nat_lt 0 (length bs) && list_all digit bs

-- the number that digits write after n
abbrev pub value_after : ℕ → List ℕ → ℕ
value_after n [] = n
value_after n (b ∷ bs) = value_after (10 * n + (b - 48)) bs

unfoldable pub value : List ℕ → ℕ
value bs = value_after 0 bs

-- what a word says as a number
abbrev pub number : List ℕ → Result ℕ Reason
number w =
    cond (numeral w) (cond (nat_le (value w) 4294967295) (Ok (value w)) (Err (too_large w))) (Err (not_a_number w))

-- a number before others, where all of them can be read; else the first reason
abbrev pub before : Result ℕ Reason → Result (List ℕ) Reason → Result (List ℕ) Reason
before (Err e) ns = Err e
before (Ok n) (Err e) = Err e
before (Ok n) (Ok ns) = Ok (n ∷ ns)

abbrev pub numbers : List (List ℕ) → Result (List ℕ) Reason
numbers [] = Ok []
numbers (w ∷ ws) = before (number w) (numbers ws)
