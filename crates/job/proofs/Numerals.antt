-- Digits and the number that they write, a digit at a time.
use Rattle.std.proofs.Common.{◌≡◌, ℕ, ◌+◌, ◌-◌, ◌*◌, ◌<◌, ◌≤◌, true, leb, List, [], ◌∷◌, length, get_or, drop, sym, ◌∙◌, arith}
use Rattle.std.proofs.lemmas.List.{at_drop_more, at_drop_all}
use Rattle.std.proofs.lemmas.Bool.{and_parts, leb-true}
use Rattle.std.specs.List.{list_all}
use Rattle.job.specs.Numbers.{digit, value_after}

-- at an index, the digit there and the digits after it
pub digits_here : (bs : List ℕ) (i : ℕ) → i < length bs → list_all digit (drop i bs) ≡ true
    → (digit (get_or bs i 0) ≡ true) × (list_all digit (drop (i + 1) bs) ≡ true)
digits_here bs i h all = and_parts _ _ (sym (at_drop_more (list_all digit) bs i 0 h) ∙ all)

pub digit_range : (b : ℕ) → digit b ≡ true → (48 ≤ b) × (b ≤ 57)
digit_range b is = let p = and_parts (leb 48 b) (leb b 57) is in (leb-true _ _ p.0, leb-true _ _ p.1)

pub value_on : (n : ℕ) (bs : List ℕ) (i : ℕ) → i < length bs
    → value_after n (drop i bs) ≡ value_after (10 * n + (get_or bs i 0 - 48)) (drop (i + 1) bs)
value_on n bs i h = at_drop_more (value_after n) bs i 0 h

pub value_end : (n : ℕ) (bs : List ℕ) (i : ℕ) → length bs ≤ i → value_after n (drop i bs) ≡ n
value_end n bs i h = at_drop_all (value_after n) bs i h

pub value_grows : (n : ℕ) (bs : List ℕ) → n ≤ value_after n bs
value_grows n [] = omega arith
value_grows n (b ∷ bs) = omega (arith, value_grows (10 * n + (b - 48)) bs)
