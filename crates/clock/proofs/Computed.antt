-- The worked cases, computed.
use Rattle.std.proofs.Common.{◌≡◌, true, refl}
use Rattle.clock.specs.Cases.{worked_cases, all_hold}
use Rattle.clock.specs.Farey.{f63}
use Rattle.clock.specs.Search.{best_from}

pub cases_hold : all_hold worked_cases ≡ true
unfolding f63 best_from
cases_hold = refl
