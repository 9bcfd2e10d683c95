-- The first term of F63 that is not below a fraction is the least of all small fractions that are not below it.
use Rattle.std.proofs.Common.{◌≡◌, ℕ, zero, suc, ◌+◌, ◌*◌, ◌%◌, ◌<◌, ◌≤◌, Bool, true, false, cond, List, [], ◌∷◌, length, is_some, Some, sym, refl, ⊎_elim, add-zero, mul-le-mul_left, mod-lt, arith}
use Rattle.std.proofs.lemmas.Bool.{leb-true, leb-false, cases_lt, le-leb, lt-leb, cond_both}
use Rattle.clock.specs.Farey.{f63}
use Rattle.clock.specs.Closest.{first_not_below, not_below, least_term}
use Rattle.clock.specs.Laws.{place}
use Rattle.clock.specs.declared.fraction.Fraction.{Fraction}
use Rattle.clock.specs.declared.closest.Term.{Term}
use Rattle.clock.proofs.Between.{none_between, below_through}
use Rattle.clock.proofs.Linked.{Linked, Ranges, Next, linked_ranges, f63_linked}

-- t is below x/y
abbrev pub Below : Fraction → ℕ → ℕ → Type 0
Below t x y = t.numerator * y < x * t.denominator

-- a fraction n/m with a small denominator that is not below x/y is not below the term u
abbrev pub Least : Term → ℕ → ℕ → Type 0
Least u x y = (n m : ℕ) → m ≤ 63 → x * m ≤ n * y → u.fraction.numerator * m ≤ n * u.fraction.denominator

-- what is known of a term that was found: where it stands, and that it is not below
pub record Found (ts : List Fraction) (k x y : ℕ) (u : Term) : Type 0 where
  pub at : ℕ
  pub within : at < length ts
  pub here : place ts at ≡ u.fraction
  pub counted : u.place ≡ k + at
  pub ranges : Ranges u.fraction
  pub reached : x * u.fraction.denominator ≤ u.fraction.numerator * y

next_found : (t : Fraction) (ts : List Fraction) (k x y : ℕ) (u : Term) → Found ts (k + 1) x y u → Found (t ∷ ts) k x y u
next_found t ts k x y u f =
    record {
      at = suc f.at;
      within = omega (arith, f.within);
      here = f.here;
      counted = omega (arith, f.counted);
      ranges = f.ranges;
      reached = f.reached;
    }

-- the answer at a list's first term, by the test there, where `later` is what holds of the rest
found_by : (t : Fraction) (ts : List Fraction) (k x y : ℕ) (u : Term) → Ranges t → (b : Bool) → not_below t x y ≡ b
    → cond b (Some (record { fraction = t; place = k })) (first_not_below ts (k + 1) x y) ≡ Some u
    → (first_not_below ts (k + 1) x y ≡ Some u → Found ts (k + 1) x y u) → Found (t ∷ ts) k x y u
found_by t ts k x y u h true test e later =
    let here : record { fraction = t; place = k } ≡ u = cc in
    rw (← here)
    (record {
      at = 0;
      within = omega arith;
      here = refl;
      counted = sym (add-zero k);
      ranges = h;
      reached = leb-true _ _ test;
    })
found_by t ts k x y u h false test e later = next_found t ts k x y u (later e)

pub found : (ts : List Fraction) (k x y : ℕ) (u : Term) → Linked ts → first_not_below ts k x y ≡ Some u → Found ts k x y u
found [] k x y u h e = absurd h
found (t ∷ []) k x y u h e = found_by t [] k x y u h.0 (not_below t x y) refl e (λ d. cc)
found (t ∷ (v ∷ ts)) k x y u h e =
    found_by t (v ∷ ts) k x y u h.0 (not_below t x y) refl e (found (v ∷ ts) (k + 1) x y u h.2)

-- t is below x/y, and the term v follows it: v is not above any small fraction that is not below x/y
least_next : (t v : Fraction) (x y : ℕ) → Next t v → Below t x y → (n m : ℕ) → m ≤ 63 → x * m ≤ n * y
    → v.numerator * m ≤ n * v.denominator
least_next t v x y next low n zero small above = omega arith
least_next t v x y next low n (suc m) small above =
    ⊎_elim
    (λ (under : n * v.denominator < v.numerator * suc m).
    let past : t.numerator * suc m < n * t.denominator = below_through _ _ x y n (suc m) low above (omega arith) in
    absurd
    (omega (
      arith,
      none_between t.numerator t.denominator v.numerator v.denominator n (suc m) next.close past under,
      next.dense,
    )))
    (λ done. done)
    (cases_lt (n * v.denominator) (v.numerator * suc m))

least_by : (t v : Fraction) (ts : List Fraction) (k x y : ℕ) (u : Term) → Next t v → Below t x y → (b : Bool)
    → not_below v x y ≡ b
    → cond b (Some (record { fraction = v; place = k })) (first_not_below ts (k + 1) x y) ≡ Some u
    → (Below v x y → first_not_below ts (k + 1) x y ≡ Some u → Least u x y) → Least u x y
least_by t v ts k x y u next low true test e later =
    let here : record { fraction = v; place = k } ≡ u = cc in
    rw (← here) (least_next t v x y next low)
least_by t v ts k x y u next low false test e later = later (leb-false _ _ test) e

-- after a term that is below
least_after : (t : Fraction) (ts : List Fraction) (k x y : ℕ) (u : Term) → Linked (t ∷ ts) → Below t x y
    → first_not_below ts k x y ≡ Some u → Least u x y
least_after t [] k x y u h low e = cc
least_after t (v ∷ ts) k x y u h low e =
    least_by t v ts k x y u h.1 low (not_below v x y) refl e (λ next d. least_after v ts (k + 1) x y u h.2 next d)

-- a list that begins at 0
abbrev FromZero : List Fraction → Type 0
FromZero [] = ⊥
FromZero (t ∷ ts) = t.numerator ≡ 0

f63_from_zero : FromZero f63
unfolding f63
f63_from_zero = refl

least : (ts : List Fraction) (k x y : ℕ) (u : Term) → Linked ts → FromZero ts → 0 < x
    → first_not_below ts k x y ≡ Some u → Least u x y
least [] k x y u h z pos e = absurd h
least (t ∷ ts) k x y u h z pos e =
    let r = linked_ranges t ts h in
    let low : Below t x y = rw z (omega (arith, mul-le-mul_left x r.positive)) in
    let test : not_below t x y ≡ false = lt-leb _ _ low in
    least_after t ts (k + 1) x y u h low (rw test at e)

-- up to 1 there is such a term
some_term : (ts : List Fraction) (k x y : ℕ) → Linked ts → x ≤ y → is_some (first_not_below ts k x y) ≡ true
some_term [] k x y h le = absurd h
some_term (t ∷ []) k x y h le =
    let reached : x * t.denominator ≤ t.numerator * y = rw (h.1, h.2) (omega arith) in
    let test : not_below t x y ≡ true = le-leb _ _ reached in
    rw test refl
some_term (t ∷ (v ∷ ts)) k x y h le =
    cond_both (not_below t x y) (Some (record { fraction = t; place = k })) (first_not_below (v ∷ ts) (k + 1) x y)
    (λ o. is_some o ≡ true) (λ _. refl) (λ _. some_term (v ∷ ts) (k + 1) x y h.2 le)

pub least_term_found : (x y : ℕ) (u : Term) → least_term x y ≡ Some u → Found f63 1 x y u
least_term_found x y u e = found f63 1 x y u f63_linked e

pub least_term_least : (x y : ℕ) (u : Term) → 0 < x → least_term x y ≡ Some u → Least u x y
least_term_least x y u pos e = least f63 1 x y u f63_linked f63_from_zero pos e

-- the terms are of small numbers
pub least_term_small : (x y : ℕ) (u : Term) → least_term x y ≡ Some u → (u.fraction.numerator ≤ 63) × (u.fraction.denominator ≤ 63)
least_term_small x y u e = let f = least_term_found x y u e in (omega (arith, f.ranges.small, f.ranges.proper), f.ranges.small)

-- there is one for a remainder
pub least_term_of_remainder : (s r : ℕ) → 0 < r → is_some (least_term (s % r) r) ≡ true
least_term_of_remainder s r pos = some_term f63 1 (s % r) r f63_linked (omega (arith, mod-lt s pos))

pub least_term_some : (x y : ℕ) → x ≤ y → is_some (least_term x y) ≡ true
least_term_some x y le = some_term f63 1 x y f63_linked le
