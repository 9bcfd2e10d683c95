-- What the rules give for a list of sources: the serving source with most whole hertz, the earlier one on a tie.
use Rattle.std.specs.Prelude.{ℕ, ◌+◌, cond, List, [], ◌∷◌, Some, None, Ok, Err, Option, Result, ◌==◌, nat_lt, slice_index}
use Rattle.clock.specs.Closest.{closest}
use Rattle.clock.specs.Divider.{hertz}
use Rattle.clock.specs.declared.divider.ClockDivider.{ClockDivider}
use Rattle.clock.specs.declared.search.Best.{Best}
use Rattle.clock.specs.declared.closest.ClosestDivider.{ClosestDivider}
use Rattle.clock.specs.declared.search.ClockError.{ClockError}
use Rattle.clock.specs.declared.search.ClockError.TheVariants.{FrequencyZero, FrequencyTooLow}

-- an answer of the search: the index of a source with its divider, or the number of a refusal
pub data Answer : Type 0 where
  setting : ℕ → ClockDivider → Answer
  refused : ℕ → Answer

abbrev pub number : ClockError → ℕ
number FrequencyZero = 1
number FrequencyTooLow = 3

abbrev pub answer_of : Result (ℕ × ClockDivider) ClockError → Answer
answer_of (Ok x) = setting x.0 x.1
answer_of (Err e) = refused (number e)

-- the source s at the index i, with the divider that the rules give for it
abbrev pub serving : ℕ → ℕ → ClosestDivider → Best
serving i s c = record { index = i; divider = c.divider; freq = hertz s c.divider }

-- the best so far and the source s at the index i, with what the rules give for it: the one with more whole hertz,
-- the earlier one on a tie
abbrev pub considered : ℕ → ℕ → Option ClosestDivider → Option Best → Option Best
considered i s None best = best
considered i s (Some c) None = Some (serving i s c)
considered i s (Some c) (Some best) = Some (cond (nat_lt best.freq (hertz s c.divider)) (serving i s c) best)

-- the sources in order, the first of them with the index i
unfoldable pub best_from : ℕ → ℕ → List ℕ → Option Best → Option Best
best_from r i [] best = best
best_from r i (s ∷ ss) best = best_from r (i + 1) ss (considered i s (closest s r) best)

abbrev pub answered : Option Best → Answer
answered None = refused 3
answered (Some best) = setting best.index best.divider

abbrev pub searched : ℕ → List ℕ → Answer
searched r ss = cond (r == 0) (refused 1) (answered (best_from r 0 ss None))

-- the count of an answer: that of the winning source, and 0 for a refusal
abbrev pub counted : Option ClosestDivider → ℕ
counted None = 0
counted (Some c) = c.count

abbrev pub count_of : ℕ → List ℕ → Answer → ℕ
count_of r ss (setting i d) = counted (closest (slice_index ss i) r)
count_of r ss (refused n) = 0
