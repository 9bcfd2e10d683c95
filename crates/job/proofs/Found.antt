-- The search finds one of its sources.
use Rattle.std.proofs.Common.{◌≡◌, ℕ, ◌<◌, List, length, sym}
use Rattle.clock.specs.Search.{searched}
use Rattle.clock.specs.Search.Answer.{setting}
use Rattle.clock.specs.declared.divider.ClockDivider.{ClockDivider}
use Rattle.clock.proofs.Sources.{search_law}

pub known_source : (r : ℕ) (ss : List ℕ) (i : ℕ) (d : ClockDivider) → setting i d ≡ searched r ss → i < length ss
known_source r ss i d e = ((search_law r ss).best i d (sym e)).known_source
