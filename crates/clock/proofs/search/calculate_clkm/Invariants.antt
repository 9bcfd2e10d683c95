use Rattle.std.proofs.Common.{◌≡◌, drop, None}
use Rattle.clock.specs.Search.{best_from}
use Rattle.clock.proofs.search.calculate_clkm.Given as goal

abbrev pub invariant-loop-i : goal.invariant-loop-i
invariant-loop-i l =
    best_from l.desired_frequency l.i (drop l.i l.source_frequencies)
    l.best
    ≡ best_from l.desired_frequency 0 l.source_frequencies None
