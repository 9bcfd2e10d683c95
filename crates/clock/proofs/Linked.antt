-- The rule of neighbours in F63, by one test over all of its terms.
use Rattle.std.proofs.Common.{◌≡◌, ◌+◌, ◌*◌, ◌≤◌, Bool, true, false, ◌&&◌, eqb, leb, List, [], ◌∷◌, refl}
use Rattle.std.proofs.lemmas.Bool.{and_parts, leb-true, eqb-true, false≢true}
use Rattle.clock.specs.Farey.{f63}
use Rattle.clock.specs.declared.fraction.Fraction.{Fraction}

-- a fraction of at most 1 with a denominator from 1 to 63
pub record Ranges (t : Fraction) : Type 0 where
  pub positive : 1 ≤ t.denominator
  pub small : t.denominator ≤ 63
  pub proper : t.numerator ≤ t.denominator

-- u follows t so closely that only denominators of 64 and more lie between
pub record Next (t u : Fraction) : Type 0 where
  pub close : u.numerator * t.denominator ≡ t.numerator * u.denominator + 1
  pub dense : 64 ≤ t.denominator + u.denominator

-- each term is followed so by the next, up to 1/1
abbrev pub Linked : List Fraction → Type 0
Linked [] = ⊥
Linked (t ∷ []) = Ranges t × (t.numerator ≡ 1) × (t.denominator ≡ 1)
Linked (t ∷ (u ∷ ts)) = Ranges t × Next t u × Linked (u ∷ ts)

abbrev ranges : Fraction → Bool
ranges t = leb 1 t.denominator && leb t.denominator 63 && leb t.numerator t.denominator

abbrev next : Fraction → Fraction → Bool
next t u =
    eqb (u.numerator * t.denominator) (t.numerator * u.denominator + 1) && leb 64 (t.denominator + u.denominator)

linked : List Fraction → Bool
linked [] = false
linked (t ∷ []) = ranges t && (eqb t.numerator 1 && eqb t.denominator 1)
linked (t ∷ (u ∷ ts)) = ranges t && (next t u && linked (u ∷ ts))

ranges_holds : (t : Fraction) → ranges t ≡ true → Ranges t
ranges_holds t h =
    let p = and_parts _ _ h in
    let q = and_parts _ _ p.0 in
    record { positive = leb-true _ _ q.0; small = leb-true _ _ q.1; proper = leb-true _ _ p.1 }

next_holds : (t u : Fraction) → next t u ≡ true → Next t u
next_holds t u h = let p = and_parts _ _ h in record { close = eqb-true _ _ p.0; dense = leb-true _ _ p.1 }

linked_holds : (ts : List Fraction) → linked ts ≡ true → Linked ts
unfolding linked
linked_holds [] h = absurd (false≢true h)
linked_holds (t ∷ []) h =
    let p = and_parts (ranges t) _ h in
    let q = and_parts _ _ p.1 in
    (ranges_holds t p.0, eqb-true _ _ q.0, eqb-true _ _ q.1)
linked_holds (t ∷ (u ∷ ts)) h =
    let p = and_parts (ranges t) _ h in
    let q = and_parts (next t u) (linked (u ∷ ts)) p.1 in
    (ranges_holds t p.0, next_holds t u q.0, linked_holds (u ∷ ts) q.1)

f63_passes : linked f63 ≡ true
unfolding linked f63
f63_passes = refl

pub f63_linked : Linked f63
f63_linked = linked_holds f63 f63_passes

pub linked_ranges : (t : Fraction) (ts : List Fraction) → Linked (t ∷ ts) → Ranges t
linked_ranges t [] h = h.0
linked_ranges t (u ∷ ts) h = h.0
