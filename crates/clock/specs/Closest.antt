-- What the rules give for one source.
use Rattle.std.specs.Prelude.{ℕ, ◌+◌, ◌*◌, ◌/◌, ◌%◌, Bool, cond, List, [], ◌∷◌, Some, None, Option, ◌==◌, nat_le, nat_lt}
use Rattle.clock.specs.Farey.{f63}
use Rattle.clock.specs.declared.fraction.Fraction.{Fraction}
use Rattle.clock.specs.declared.closest.ClosestDivider.{ClosestDivider}
use Rattle.clock.specs.declared.closest.Term.{Term}

-- a fraction is not below x/y, by whole products
abbrev pub not_below : Fraction → ℕ → ℕ → Bool
not_below t x y = nat_le (x * t.denominator) (t.numerator * y)

-- the first term of a list that is not below x/y, with its place, where the list's first term has the place k
abbrev pub first_not_below : List Fraction → ℕ → ℕ → ℕ → Option Term
first_not_below [] k x y = None
first_not_below (t ∷ ts) k x y =
    cond (not_below t x y) (Some (record { fraction = t; place = k })) (first_not_below ts (k + 1) x y)

-- the least term of F63 that is not below x/y
abbrev pub least_term : ℕ → ℕ → Option Term
least_term x y = first_not_below f63 1 x y

-- a whole part with no fraction; its count is 0
abbrev pub without_fraction : ℕ → Option ClosestDivider
without_fraction n = Some (record { divider = record { div_num = n; div_b = 0; div_a = 0 }; count = 0 })

-- a whole part with a term of F63; its count is the term's place
abbrev pub with_term : ℕ → Option Term → Option ClosestDivider
with_term n None = None
with_term n (Some t) =
    Some
    (record {
      divider = record { div_num = n; div_b = t.fraction.numerator; div_a = t.fraction.denominator };
      count = t.place;
    })

-- 256 is stored as 0
abbrev pub stored : ℕ → ℕ
stored n = cond (n == 256) 0 n

-- where the quotient is from 2 to 256: no fraction where there is no remainder, else the least term not below it
abbrev pub divided : ℕ → ℕ → Option ClosestDivider
divided s r =
    cond (s % r == 0) (without_fraction (stored (s / r))) (with_term (stored (s / r)) (least_term (s % r) r))

-- below 2 the source is divided by 2, which `div_num` 1 stands for; above 256 it does not serve
abbrev pub closest : ℕ → ℕ → Option ClosestDivider
closest s r =
    cond (r == 0) None (cond (nat_lt (s / r) 2) (without_fraction 1) (cond (nat_lt 256 (s / r)) None (divided s r)))
