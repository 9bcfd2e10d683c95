-- The divider that the rules give for one source comes closest from below.
use Rattle.std.proofs.Common.{◌≡◌, ℕ, zero, suc, ◌+◌, ◌*◌, ◌/◌, ◌%◌, ◌<◌, ◌≤◌, true, cond, ◌||◌, eqb, ltb, is_some, Some, None, Option, sym, refl, ap, subst, inl, inr, ⊎_elim, mul-le-mul_right, mod-lt, mul-le-mul_left, mul-lt-mul_of_pos_right, mul-pos, div-add-mod', div-mul-le_self, arith}
use mathlib.Core.Path.{subst₃}
use Rattle.std.proofs.lemmas.Bool.{false≢true, cases_order, cases_lt, cond_both, eqb-true, eqb-false, ltb-true, ltb-false}
use Rattle.std.proofs.lemmas.Bool.Decides.{nat_tests}
use Rattle.clock.specs.Divider.{hertz, NotAbove, Allowed, whole_part, numerator, denominator, divisor}
use Rattle.clock.specs.Closest.{closest, divided, without_fraction, with_term, least_term, stored}
use Rattle.clock.specs.Laws.{FitsFields, FromBelow, CountsItsPlace, ClosestFromBelow}
use Rattle.clock.specs.declared.divider.ClockDivider.{ClockDivider}
use Rattle.clock.specs.declared.closest.ClosestDivider.{ClosestDivider}
use Rattle.clock.specs.declared.closest.Term.{Term}
use Rattle.std.proofs.Math.Nat.{le_of_mul-le-mul_right}
use Rattle.clock.proofs.Outputs.{hertz_falls}
use Rattle.clock.proofs.Terms.{least_term_found, least_term_least, least_term_some}

-- what holds of one source, by cases
abbrev pub ClosestCases : ℕ → ℕ → Option ClosestDivider → Type 0
ClosestCases s r None = 256 < s / r
ClosestCases s r (Some c) =
    (s / r ≤ 256) × FromBelow s r c.divider × FitsFields c.divider × CountsItsPlace c

-- an allowed divider whose output is not above r is not below the divisor (N a + b)/a, in whole products
abbrev NotBelowDivisor : ℕ → ℕ → ℕ → ℕ → ℕ → Type 0
NotBelowDivisor s r n b a = (e : ClockDivider) → Allowed e → NotAbove s e r → (n * a + b) * denominator e ≤ divisor e * a

-- so it has no more whole hertz
closer : (s r n b a : ℕ) (d : ClockDivider) → whole_part d ≡ n → numerator d ≡ b → denominator d ≡ a → 0 < n → 0 < a
    → s * a ≤ r * (n * a + b) → NotBelowDivisor s r n b a → FromBelow s r d
closer s r n b a d en eb ea pn pa low most =
    record {
      never_above_asked = subst₃ (λ n b a. s * a ≤ r * (n * a + b)) (sym en) (sym eb) (sym ea) low;
      none_comes_closer = λ e allowed above.
          subst₃ (λ n b a. hertz s e ≤ s * a / (n * a + b)) (sym en) (sym eb) (sym ea)
          (hertz_falls s (n * a + b) a (divisor e) (denominator e) (omega (arith, mul-le-mul_left n pa)) (omega (arith, allowed.below_1))
          (most e allowed above));
    }

-- an allowed divider whose output is not above r leaves a quotient of at most 256
pub allowed_serves : (s r : ℕ) → 0 < r → (e : ClockDivider) → Allowed e → NotAbove s e r → s / r ≤ 256
allowed_serves s r pos e allowed above =
    let q = s / r in
    let low : q * r ≤ s = div-mul-le_self s r in
    let d = denominator e in
    let top : divisor e ≤ 256 * d + numerator e = omega (arith, mul-le-mul_right d allowed.at_most_256) in
    let bound : (q * d) * r ≤ (256 * d + numerator e) * r =
    omega (arith, mul-le-mul_right d low, mul-le-mul_right r top) in
    let less : q * d ≤ 256 * d + numerator e = le_of_mul-le-mul_right bound pos in
    ⊎_elim (λ (over : 256 < q). absurd (omega (arith, mul-le-mul_right d over, allowed.below_1))) (λ done. done) (cases_lt 256 q)

-- divided by 2, where the source is below twice the frequency
halved : (s r : ℕ) → s / r < 2 → 0 < r → FromBelow s r (record { div_num = 1; div_b = 0; div_a = 0 })
halved s r few pos =
    closer s r 2 0 1 _ refl refl refl (omega arith) (omega arith)
    (omega (arith, div-add-mod' s r, mod-lt s pos, mul-le-mul_right r few))
    (λ e allowed above. omega (arith, mul-le-mul_right (denominator e) allowed.at_least_2))

-- the whole part reads back, 256 from 0
stored_whole : (q : ℕ) → 2 ≤ q → q ≤ 256 → cond (eqb (stored q) 0) 256 (cond (eqb (stored q) 1) 2 (stored q)) ≡ q
stored_whole q many few = grind (arith, nat_tests)

stored_fits : (q : ℕ) → q ≤ 256 → stored q < 256
stored_fits q few = grind (arith, nat_tests)

plain_fits : (n : ℕ) → n < 256 → FitsFields (record { div_num = n; div_b = 0; div_a = 0 })
plain_fits n lt = record { num_fits = lt; b_fits = omega arith; a_fits = omega arith }

-- a fraction that is not below something above 0 is above 0
positive_numerator : (x a b r : ℕ) → 0 < x * a → x * a ≤ b * r → 0 < b
positive_numerator x a zero r some reached = absurd (omega arith)
positive_numerator x a (suc b) r some reached = omega arith

fraction_numerator : (b a : ℕ) → 0 < b → 0 < a → cond (eqb b 0 || eqb a 0) 0 b ≡ b
fraction_numerator b a pb pa = grind (arith, nat_tests)

fraction_denominator : (b a : ℕ) → 0 < b → 0 < a → cond (eqb b 0 || eqb a 0) 1 a ≡ a
fraction_denominator b a pb pa = grind (arith, nat_tests)

module _ (s r : ℕ) (pos : 0 < r) (many : 2 ≤ s / r) (few : s / r ≤ 256) where
  whole_stored : (b a : ℕ) → whole_part (record { div_num = stored (s / r); div_b = b; div_a = a }) ≡ s / r
  whole_stored b a = stored_whole (s / r) many few

  -- divided by the quotient, where nothing remains
  exact : s % r ≡ 0 → FromBelow s r (record { div_num = stored (s / r); div_b = 0; div_a = 0 })
  exact none =
      closer s r (s / r) 0 1 _ (whole_stored 0 0) refl refl (omega arith) (omega arith)
      (omega (arith, div-add-mod' s r))
      (λ e allowed above.
      let whole : s ≡ s / r * r = omega (arith, div-add-mod' s r) in
      let bound : (s / r * denominator e) * r ≤ divisor e * r =
      omega (arith, ap (λ (x : ℕ). x * denominator e) whole) in
      omega (arith, le_of_mul-le-mul_right {m = s / r * denominator e} {n = divisor e} bound pos))

  -- with a fraction b/a that is not below the remainder, and the least such
  module _ (b a : ℕ) (pa : 0 < a) (proper : b ≤ a) (reached : s % r * a ≤ b * r)
      (least : (n m : ℕ) → m ≤ 63 → s % r * m ≤ n * r → b * m ≤ n * a) where
    above : s * a ≤ r * (s / r * a + b)
    above = omega (arith, ap (λ (x : ℕ). x * a) (div-add-mod' s r))

    -- a greater whole part is greater by all of 1, an equal one has a fraction that is not below, a smaller one is above
    most : NotBelowDivisor s r (s / r) b a
    most e allowed over =
        let q = s / r in
        let n = whole_part e in
        let d = denominator e in
        let f = numerator e in
        let parts : q * r * d + s % r * d ≡ s * d = omega (arith, ap (λ (x : ℕ). x * d) (div-add-mod' s r)) in
        ⊎_elim
        (λ (same : n ≡ q).
        let here : s % r * d ≤ f * r = omega (arith, ap (λ (x : ℕ). x * d * r) same) in
        omega (arith, least f d allowed.at_most_63 here, ap (λ (x : ℕ). x * d * a) same))
        (⊎_elim
        (λ (under : n < q).
        absurd
        (omega
        (arith, mul-le-mul_right (d * r) under, mul-lt-mul_of_pos_right {k = r} allowed.below_1 pos)))
        (λ (beyond : q < n). omega (arith, mul-le-mul_right (d * a) beyond, mul-le-mul_right d proper)))
        (cases_order n q)

  -- the term that the rules give is such a fraction
  with_least : (u : Term) → 0 < s % r → least_term (s % r) r ≡ Some u
      → FromBelow s r
      (record {
        div_num = stored (s / r);
        div_b = u.fraction.numerator;
        div_a = u.fraction.denominator;
      })
  with_least u some e =
      let f = least_term_found (s % r) r u e in
      let b = u.fraction.numerator in
      let a = u.fraction.denominator in
      let pa : 0 < a = f.ranges.positive in
      let pb : 0 < b = positive_numerator (s % r) a b r (mul-pos some pa) f.reached in
      closer s r (s / r) b a _ (whole_stored b a) (fraction_numerator b a pb pa) (fraction_denominator b a pb pa)
      (omega arith) pa
      (above b a pa f.ranges.proper f.reached (least_term_least (s % r) r u some e))
      (most b a pa f.ranges.proper f.reached (least_term_least (s % r) r u some e))

  by_term : (o : Option Term) → least_term (s % r) r ≡ o → 0 < s % r
      → ClosestCases s r (with_term (stored (s / r)) o)
  by_term None e some =
      absurd
      (false≢true
      (subst (λ (o : Option Term). is_some o ≡ true) e (least_term_some (s % r) r (omega (arith, mod-lt s pos)))))
  by_term (Some u) e some =
      let f = least_term_found (s % r) r u e in (
        few,
        with_least u some e,
        record {
          num_fits = stored_fits (s / r) few;
          b_fits = omega (arith, f.ranges.small, f.ranges.proper);
          a_fits = omega (arith, f.ranges.small);
        },
        inr (f.at, f.within, omega (arith, f.counted), f.here),
      )

  by_remainder : ClosestCases s r (divided s r)
  by_remainder =
      cond_both (eqb (s % r) 0) (without_fraction (stored (s / r))) (with_term (stored (s / r)) (least_term (s % r) r))
      (ClosestCases s r) (λ e. (few, exact (eqb-true _ _ e), plain_fits (stored (s / r)) (stored_fits (s / r) few), inl (refl, refl)))
      (λ e. by_term (least_term (s % r) r) refl (omega (arith, eqb-false _ _ e)))

pub closest_cases : (s r : ℕ) → 0 < r → ClosestCases s r (closest s r)
closest_cases s r pos =
    cond_both (eqb r 0) None
    (cond (ltb (s / r) 2) (without_fraction 1) (cond (ltb 256 (s / r)) None (divided s r)))
    (ClosestCases s r) (λ e. absurd (omega (arith, eqb-true _ _ e)))
    (λ _.
    cond_both (ltb (s / r) 2) (without_fraction 1) (cond (ltb 256 (s / r)) None (divided s r)) (ClosestCases s r)
    (λ e. let less = ltb-true _ _ e in (omega arith, halved s r less pos, plain_fits 1 (omega arith), inl (refl, refl)))
    (λ e.
    cond_both (ltb 256 (s / r)) None (divided s r) (ClosestCases s r) (λ f. ltb-true _ _ f)
    (λ f. by_remainder s r pos (ltb-false _ _ e) (ltb-false _ _ f))))

by_cases : (s r : ℕ) (o : Option ClosestDivider) → ClosestCases s r o → ClosestFromBelow s r o
by_cases s r None law =
    record {
      too_fast = (λ _. law, λ _. refl);
      from_below = λ c e. cc;
      fits_the_fields = λ c e. cc;
      counts_its_place = λ c e. cc;
    }
by_cases s r (Some c) law =
    record {
      too_fast = (λ e. cc, λ over. absurd (omega (arith, law.0)));
      from_below = λ d e. let same : c ≡ d = cc in rw (← same) law.1;
      fits_the_fields = λ d e. let same : c ≡ d = cc in rw (← same) law.2;
      counts_its_place = λ d e. let same : c ≡ d = cc in subst CountsItsPlace same law.3;
    }

pub closest_from_below_lem : (s r : ℕ) → 0 < r → ClosestFromBelow s r (closest s r)
closest_from_below_lem s r pos = by_cases s r (closest s r) (closest_cases s r pos)
