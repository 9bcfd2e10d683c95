-- Euclid's steps, as the library has them.
use Rattle.std.proofs.lemmas.Nat.Gcd.{IsGcd-from_zero, IsGcd-from_mod}

pub ruleset euclid = (IsGcd-from_zero, IsGcd-from_mod)
