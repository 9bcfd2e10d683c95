-- What users count on, in the words of clocks and fractions, of all that the rules give.
use Rattle.std.specs.Prelude.{◌≡◌, ℕ, ◌+◌, ◌*◌, ◌/◌, ◌<◌, ◌≤◌, ◌⊎◌, ◌↔◌, List, length, Some, None, Option, slice_index, slice_index_or}
use Rattle.std.specs.Int.{◌∣◌}
use Rattle.clock.specs.Farey.{f63}
use Rattle.clock.specs.Closest.{closest}
use Rattle.clock.specs.Divider.{hertz, NotAbove, Allowed}
use Rattle.clock.specs.Search.{Answer}
use Rattle.clock.specs.Search.Answer.{setting, refused}
use Rattle.clock.specs.declared.fraction.Fraction.{Fraction}
use Rattle.clock.specs.declared.divider.ClockDivider.{ClockDivider}
use Rattle.clock.specs.declared.closest.ClosestDivider.{ClosestDivider}

-- a fraction from 0/1 to 1/1 in lowest terms with a denominator up to 63
pub record SmallFraction (t : Fraction) : Type 0 where
  pub denominator_positive : 1 ≤ t.denominator
  pub denominator_small : t.denominator ≤ 63
  pub at_most_one : t.numerator ≤ t.denominator
  pub lowest_terms : (k : ℕ) → k ∣ t.numerator → k ∣ t.denominator → k ≡ 1

abbrev pub place : List Fraction → ℕ → Fraction
place ts k = slice_index_or ts k (record { numerator = 0; denominator = 0 })

-- a list has every such fraction, nothing else, and each below the next, so that it has each once
pub record AllSmallFractions (ts : List Fraction) : Type 0 where
  pub in_all : length ts ≡ 1229
  pub small : (k : ℕ) → k < length ts → SmallFraction (place ts k)
  pub ascending : (k : ℕ) → k + 1 < length ts →
      (place ts k).numerator * (place ts (k + 1)).denominator < (place ts (k + 1)).numerator * (place ts k).denominator
  pub complete : (t : Fraction) → SmallFraction t → (k : ℕ) × (k < length ts) × (place ts k ≡ t)

-- a divider fits the register fields: 8 bits for `div_num`, 6 bits each for `div_b` and `div_a`
pub record FitsFields (d : ClockDivider) : Type 0 where
  pub num_fits : d.div_num < 256
  pub b_fits : d.div_b < 64
  pub a_fits : d.div_a < 64

-- a divider of the source s for the frequency r: its output is not above r, and no allowed one that is not above
-- has more whole hertz
pub record FromBelow (s r : ℕ) (d : ClockDivider) : Type 0 where
  pub never_above_asked : NotAbove s d r
  pub none_comes_closer : (e : ClockDivider) → Allowed e → NotAbove s e r → hertz s e ≤ hertz s d

-- a count is the place in F63, from 1, of the divider's fraction, and 0 where there is no fraction
abbrev pub CountsItsPlace : ClosestDivider → Type 0
CountsItsPlace c =
    ((c.count ≡ 0) × (c.divider.div_b ≡ 0))
    ⊎ ((k : ℕ) × (k < length f63) × (c.count ≡ k + 1)
    × (place f63 k ≡ record { numerator = c.divider.div_b; denominator = c.divider.div_a }))

-- what holds of every answer for one source: it does not serve exactly where the quotient is above 256, and where it
-- serves, its divider is the best from below
pub record ClosestFromBelow (s r : ℕ) (o : Option ClosestDivider) : Type 0 where
  pub too_fast : (o ≡ None) ↔ (256 < s / r)
  pub from_below : (c : ClosestDivider) → o ≡ Some c → FromBelow s r c.divider
  pub fits_the_fields : (c : ClosestDivider) → o ≡ Some c → FitsFields c.divider
  pub counts_its_place : (c : ClosestDivider) → o ≡ Some c → CountsItsPlace c

-- the source at i wins with the divider d: it serves with d, no serving source has more whole hertz, and an earlier
-- one has fewer
pub record Wins (r : ℕ) (ss : List ℕ) (i : ℕ) (d : ClockDivider) : Type 0 where
  pub serves : (c : ClosestDivider) × (closest (slice_index ss i) r ≡ Some c) × (c.divider ≡ d)
  pub most_hertz : (j : ℕ) (c : ClosestDivider) → j < length ss → closest (slice_index ss j) r ≡ Some c
      → hertz (slice_index ss j) c.divider ≤ hertz (slice_index ss i) d
  pub earlier_first : (j : ℕ) (c : ClosestDivider) → j < i → closest (slice_index ss j) r ≡ Some c
      → hertz (slice_index ss j) c.divider < hertz (slice_index ss i) d

-- the setting of a list of sources: its output is not above r, no allowed setting of any source that is not above
-- has more whole hertz, and one of an earlier source has fewer
pub record BestFromBelow (r : ℕ) (ss : List ℕ) (i : ℕ) (d : ClockDivider) : Type 0 where
  pub known_source : i < length ss
  pub wins : Wins r ss i d
  pub fits_the_fields : FitsFields d
  pub never_above_asked : NotAbove (slice_index ss i) d r
  pub none_comes_closer : (j : ℕ) (e : ClockDivider) → j < length ss → Allowed e → NotAbove (slice_index ss j) e r
      → hertz (slice_index ss j) e ≤ hertz (slice_index ss i) d
  pub earlier_on_a_tie : (j : ℕ) (e : ClockDivider) → j < i → Allowed e → NotAbove (slice_index ss j) e r
      → hertz (slice_index ss j) e < hertz (slice_index ss i) d

-- every source is at least 257 times the frequency; so it is where there is no source
abbrev pub AllTooFast : ℕ → List ℕ → Type 0
AllTooFast r ss = (j : ℕ) → j < length ss → 257 * r ≤ slice_index ss j

-- what holds of every answer: it refuses exactly where it has to, and any other answer is the best from below
pub record SearchLaw (r : ℕ) (ss : List ℕ) (a : Answer) : Type 0 where
  pub refuses_zero : (a ≡ refused 1) ↔ (r ≡ 0)
  pub refuses_too_low : (a ≡ refused 3) ↔ ((0 < r) × AllTooFast r ss)
  pub best : (i : ℕ) (d : ClockDivider) → a ≡ setting i d → BestFromBelow r ss i d
