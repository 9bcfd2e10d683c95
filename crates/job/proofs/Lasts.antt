-- A line with a byte at its end, and one without.
use Rattle.std.proofs.Common.{◌≡◌, ℕ, ◌+◌, ◌-◌, ◌<◌, Bool, true, false, ◌&&◌, eqb, List, [], ◌∷◌, length, get_or, take, drop, sym, refl, ◌∙◌, arith}
use lib.Pointwise.{pointwise}
use Rattle.std.proofs.lemmas.Bool.{cond_both}
use Rattle.std.proofs.lemmas.List.{drop_more, drop_all}
use Rattle.job.specs.Endings.{without_last}

and_true : (t : Bool) → (t && true) ≡ t
and_true true = refl
and_true false = refl

-- whether b is the last byte
at_end : (b : ℕ) (line : List ℕ) → 0 < length line
    → pointwise eqb (drop (length line - 1) line) (b ∷ []) ≡ eqb (get_or line (length line - 1) 0) b
at_end b line some =
    let past : drop (length line - 1 + 1) line ≡ [] = drop_all (length line - 1 + 1) line (omega arith) in
    rw (drop_more line (length line - 1) 0 (omega arith), past) (and_true _)

pub last_goes : (b : ℕ) (line : List ℕ) → pointwise eqb (drop (length line - 1) line) (b ∷ []) ≡ true
    → without_last b line ≡ take (length line - 1) line
unfolding without_last
last_goes b [] same = absurd (cc)
last_goes b (x ∷ xs) same =
    let is : eqb (get_or (x ∷ xs) (length (x ∷ xs) - 1) 0) b ≡ true = sym (at_end b (x ∷ xs) (omega arith)) ∙ same in
    rw is refl

pub last_stays : (b : ℕ) (line : List ℕ) → pointwise eqb (drop (length line - 1) line) (b ∷ []) ≡ false
    → without_last b line ≡ line
unfolding without_last
last_stays b [] other = cond_both (eqb 0 b) [] [] (λ (l : List ℕ). l ≡ []) (λ _. refl) (λ _. refl)
last_stays b (x ∷ xs) other =
    let is : eqb (get_or (x ∷ xs) (length (x ∷ xs) - 1) 0) b ≡ false = sym (at_end b (x ∷ xs) (omega arith)) ∙ other in
    rw is refl
