-- The walk from 0/1 on gives F63, computed.
use Rattle.std.proofs.Common.{◌≡◌, true, refl}
use Rattle.clock.specs.Farey.{f63, first_terms}
use Rattle.clock.specs.Walk.{ahead_from, sound}

pub ahead_first : ahead_from 0 first_terms ≡ f63
unfolding f63 ahead_from
ahead_first = refl

pub sound_first : sound 1229 first_terms ≡ true
unfolding sound
sound_first = refl
