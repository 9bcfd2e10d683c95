use Rattle.std.proofs.Common.{◌≡◌, ◌+◌, ◌≤◌, length}
use Rattle.std.specs.Iterator.Adapters.{enumerate_source, enumerate_count}
use Rattle.clock.specs.Closest.{first_not_below, least_term}
use Rattle.clock.specs.Sequence.{ahead}
use Rattle.clock.proofs.closest.find_not_below.Given as goal

abbrev pub invariant-loop-i : goal.invariant-loop-i
invariant-loop-i l = record {
  found : first_not_below (ahead (enumerate_source l.i-iterator)) (enumerate_count l.i-iterator + 1) l.target.numerator l.target.denominator ≡ least_term l.target.numerator l.target.denominator;
  counted : enumerate_count l.i-iterator + length (ahead (enumerate_source l.i-iterator)) ≤ 1229;
}
