-- F63 has all the small fractions, in order, each once.
use Rattle.std.proofs.Common.{◌≡◌, ℕ, zero, suc, ◌+◌, ◌*◌, ◌/◌, ◌<◌, ◌≤◌, true, List, [], ◌∷◌, length, is_some, Some, None, Option, sym, refl, ap, ◌∙◌, subst, add-one, arith}
use Prim.Native.Nat.{◌∣◌}
use native.Mathlib.Nat.{dvd_refl, dvd-zero, dvd-mul_left, dvd-mul_left_of_dvd, dvd-mul_right_of_dvd, dvd-add_iff_right, eq-one_of_dvd-one, mul-div_cancel'}
use Rattle.std.proofs.lemmas.Bool.{false≢true}
use Rattle.clock.specs.Farey.{f63}
use Rattle.clock.specs.Closest.{least_term}
use Rattle.clock.specs.Laws.{place, SmallFraction, AllSmallFractions}
use Rattle.clock.specs.declared.fraction.Fraction.{Fraction}
use Rattle.clock.specs.declared.closest.Term.{Term}
use Rattle.clock.proofs.Linked.{Linked, Ranges, f63_linked}
use Rattle.std.proofs.Math.Nat.{le_of_mul-le-mul_right}
use Rattle.clock.proofs.Terms.{least_term_found, least_term_least, least_term_some}

-- w d - n z = 1 for some w and z, so n/d is in lowest terms
pub record Reduced (t : Fraction) : Type 0 where
  pub w : ℕ
  pub z : ℕ
  pub unit : w * t.denominator ≡ t.numerator * z + 1

lowest : (t : Fraction) → Reduced t → (k : ℕ) → k ∣ t.numerator → k ∣ t.denominator → k ≡ 1
lowest t r k kn kd =
    let left : k ∣ t.numerator * r.z = dvd-mul_right_of_dvd k kn r.z in
    let sum : k ∣ t.numerator * r.z + 1 = rw (← r.unit) (dvd-mul_left_of_dvd k kd r.w) in
    eq-one_of_dvd-one ((dvd-add_iff_right k left).1 sum)

small_of : (t : Fraction) → Ranges t → Reduced t → SmallFraction t
small_of t h r =
    record {
      denominator_positive = h.positive;
      denominator_small = h.small;
      at_most_one = h.proper;
      lowest_terms = lowest t r;
    }

reduced_at : (ts : List Fraction) → Linked ts → (k : ℕ) → k < length ts → Ranges (place ts k) × Reduced (place ts k)
reduced_at [] h k lt = absurd h
reduced_at (t ∷ []) h zero lt = (h.0, record { w = 1; z = 0; unit = omega (arith, h.2) })
reduced_at (t ∷ []) h (suc k) lt = absurd (omega arith)
reduced_at (t ∷ (u ∷ ts)) h zero lt = (h.0, record { w = u.numerator; z = u.denominator; unit = h.1.close })
reduced_at (t ∷ (u ∷ ts)) h (suc k) lt = reduced_at (u ∷ ts) h.2 k (omega arith)

ascending_at : (ts : List Fraction) → Linked ts → (k : ℕ) → k + 1 < length ts →
    (place ts k).numerator * (place ts (suc k)).denominator < (place ts (suc k)).numerator * (place ts k).denominator
ascending_at [] h k lt = absurd h
ascending_at (t ∷ []) h k lt = absurd (omega arith)
ascending_at (t ∷ (u ∷ ts)) h zero lt = omega (arith, h.1.close)
ascending_at (t ∷ (u ∷ ts)) h (suc k) lt = ascending_at (u ∷ ts) h.2 k (omega arith)

-- two fractions in lowest terms of the same value are the same
module _ (t u : Fraction) (ht : SmallFraction t) (hu : Ranges u) (r : Reduced u)
    (same : t.numerator * u.denominator ≡ u.numerator * t.denominator) where
  divides : u.denominator ∣ t.denominator
  divides =
      let left : u.denominator ∣ (t.numerator * r.z) * u.denominator = dvd-mul_left _ _ in
      let sum : u.denominator ∣ (t.numerator * r.z) * u.denominator + t.denominator =
      subst (λ (x : ℕ). u.denominator ∣ x)
      (let e : t.denominator * (r.w * u.denominator) ≡ t.denominator * (u.numerator * r.z + 1) = ap (λ (x : ℕ). t.denominator * x) r.unit in
      let f : t.numerator * u.denominator * r.z ≡ u.numerator * t.denominator * r.z = ap (λ (x : ℕ). x * r.z) same in
      let g : (t.denominator * r.w) * u.denominator ≡ (t.numerator * r.z) * u.denominator + t.denominator = omega arith in g)
      (dvd-mul_left _ _) in
      (dvd-add_iff_right _ left).1 sum

  times : ℕ
  times = t.denominator / u.denominator

  of_denominator : u.denominator * times ≡ t.denominator
  unfolding times
  of_denominator = mul-div_cancel' _ divides

  of_numerator : u.numerator * times ≡ t.numerator
  of_numerator =
      let whole : u.numerator * t.denominator ≡ u.numerator * (u.denominator * times) =
      ap (λ (x : ℕ). u.numerator * x) (sym of_denominator) in
      let low : u.numerator * times ≤ t.numerator = le_of_mul-le-mul_right {k = u.denominator} (omega arith) hu.positive in
      let high : t.numerator ≤ u.numerator * times = le_of_mul-le-mul_right {k = u.denominator} (omega arith) hu.positive in
      omega arith

  once : times ≡ 1
  once =
      ht.lowest_terms times (subst (λ (x : ℕ). times ∣ x) of_numerator (dvd-mul_left _ _))
      (subst (λ (x : ℕ). times ∣ x) of_denominator (dvd-mul_left _ _))

  the_same : u ≡ t
  the_same =
      let n : u.numerator ≡ t.numerator =
      omega (arith, subst (λ (x : ℕ). u.numerator * x ≡ t.numerator) once of_numerator) in
      let d : u.denominator ≡ t.denominator =
      omega (arith, subst (λ (x : ℕ). u.denominator * x ≡ t.denominator) once of_denominator) in
      λ i. record { numerator = n i; denominator = d i }

zero_first : place f63 0 ≡ record { numerator = 0; denominator = 1 }
unfolding f63
zero_first = refl

length-f63 : length f63 ≡ 1229
unfolding f63
length-f63 = refl

-- 0 stands first, and any other small fraction is the least term that is not below it
complete : (n d : ℕ) → (t : Fraction) → t.numerator ≡ n → t.denominator ≡ d → SmallFraction t
    → (o : Option Term) → least_term n d ≡ o → (k : ℕ) × (k < length f63) × (place f63 k ≡ t)
complete zero d t en ed ht o e =
    let one : t.denominator ≡ 1 =
    ht.lowest_terms t.denominator (subst (λ (x : ℕ). t.denominator ∣ x) (sym en) (dvd-zero _)) (dvd_refl _) in
    let f : record { numerator = 0; denominator = 1 } ≡ t = λ i. record { numerator = sym en i; denominator = sym one i } in
    (0, omega (arith, length-f63), zero_first ∙ f)
complete (suc n) d t en ed ht None e =
    let some = least_term_some (suc n) d (omega (arith, ht.at_most_one)) in
    absurd (false≢true (subst (λ (o : Option Term). is_some o ≡ true) e some))
complete (suc n) d t en ed ht (Some u) e =
    let f = least_term_found (suc n) d u e in
    let le : u.fraction.numerator * d ≤ suc n * u.fraction.denominator =
    least_term_least (suc n) d u (omega arith) e (suc n) d (omega (arith, ed, ht.denominator_small)) (omega arith) in
    let same : t.numerator * u.fraction.denominator ≡ u.fraction.numerator * t.denominator =
    rw (en, ed) (omega (arith, le, f.reached)) in
    let at = reduced_at f63 f63_linked f.at f.within in
    (f.at, f.within, f.here ∙ the_same t u.fraction ht f.ranges (subst Reduced f.here at.1) same)

pub f63_complete : AllSmallFractions f63
f63_complete =
    record {
      in_all = length-f63;
      small = λ k lt. let at = reduced_at f63 f63_linked k lt in small_of _ at.0 at.1;
      ascending = λ k lt. rw add-one (ascending_at f63 f63_linked k lt);
      complete = λ t ht. complete t.numerator t.denominator t refl refl ht _ refl;
    }
