-- A fraction that is brought to lowest terms has the same terms of F63 not below it.
use Rattle.std.proofs.Common.{◌≡◌, ℕ, ◌+◌, ◌*◌, ◌/◌, ◌<◌, Bool, true, false, leb, List, [], ◌∷◌, sym, refl, ap, ◌∙◌, ap₂, mul-le-mul_left, arith}
use native.Mathlib.Nat.{mul-div_cancel', pos_of_dvd_of_pos, div-eq_of_lt}
use Rattle.std.proofs.lemmas.Bool.{leb-true, leb-false, le-leb, lt-leb}
use Rattle.clock.specs.Closest.{first_not_below, least_term, not_below}
use Rattle.std.specs.Int.{IsGcd}
use Rattle.clock.specs.Farey.{f63}
use Rattle.clock.specs.declared.fraction.Fraction.{Fraction}

-- a test by products gives the same with both sides taken g times
scaled_by : (g x y n d : ℕ) → 0 < g → (b : Bool) → leb (x * d) (n * y) ≡ b → leb (g * x * d) (n * (g * y)) ≡ b
scaled_by g x y n d pos true e = le-leb _ _ (omega (arith, mul-le-mul_left g (leb-true _ _ e)))
scaled_by g x y n d pos false e = lt-leb _ _ (omega (arith, mul-le-mul_left g (leb-false _ _ e)))

scaled : (g x y : ℕ) → 0 < g → (ts : List Fraction) (k : ℕ)
    → first_not_below ts k (g * x) (g * y) ≡ first_not_below ts k x y
scaled g x y pos [] k = refl
scaled g x y pos (t ∷ ts) k =
    let test : not_below t (g * x) (g * y) ≡ not_below t x y =
    scaled_by g x y t.numerator t.denominator pos (not_below t x y) refl in
    rw (test, scaled g x y pos ts (k + 1)) refl

-- n/d and its common factor g
module _ (n d g : ℕ) (pos : 0 < d) (h : IsGcd n d g) where
  pub factor_positive : 0 < g
  factor_positive = pos_of_dvd_of_pos h.1 pos

  whole_n : g * (n / g) ≡ n
  whole_n = mul-div_cancel' g h.0

  whole_d : g * (d / g) ≡ d
  whole_d = mul-div_cancel' g h.1

  pub same_terms : least_term (n / g) (d / g) ≡ least_term n d
  same_terms =
      sym (scaled g (n / g) (d / g) factor_positive f63 1) ∙ ap₂ (λ (x y : ℕ). least_term x y) whole_n whole_d

  pub zero_from : n / g ≡ 0 → n ≡ 0
  zero_from e = omega (arith, whole_n, ap (λ (x : ℕ). g * x) e)

  pub zero_to : n ≡ 0 → n / g ≡ 0
  zero_to e = ap (λ (x : ℕ). x / g) e ∙ div-eq_of_lt factor_positive
