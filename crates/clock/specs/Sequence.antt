-- What is ahead of a step record.
use Rattle.std.specs.Prelude.{List}
use Rattle.clock.specs.Walk.{ahead_from}
use Rattle.clock.specs.declared.farey.FareySequence.{FareySequence}
use Rattle.clock.specs.declared.fraction.Fraction.{Fraction}

-- the terms that are yet to come
abbrev pub ahead : FareySequence → List Fraction
ahead s = ahead_from s.place s.terms
