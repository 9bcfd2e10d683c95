-- A walk through F63: the terms that are ahead of it, and why its next step is defined.
use Rattle.std.specs.Prelude.{◌≡◌, ℕ, zero, suc, ◌+◌, ◌-◌, ◌*◌, ◌<◌, ◌≤◌, Bool, true, ◌&&◌, List, ◌∷◌, nat_le, nat_lt}
use Rattle.clock.specs.Farey.{factor, following, term, terms_from}
use Rattle.clock.specs.declared.fraction.Fraction.{Fraction}
use Rattle.clock.specs.declared.fraction.Neighbours.{Neighbours}

-- the terms that are yet to come where `place` of them were given
unfoldable pub ahead_from : ℕ → Neighbours → List Fraction
ahead_from place p = terms_from (1229 - place) p

-- the step from a pair to the following one is defined, within small numbers
abbrev pub steps : Neighbours → Bool
steps p =
    nat_le p.a 63 && nat_le p.b 63 && nat_le p.c 64 && nat_le 1 p.d && nat_le p.d 63
    && nat_le p.a (factor p * p.c) && nat_le p.b (factor p * p.d)

-- so are the n steps from here on, and after them the numerator is above 63
unfoldable pub sound : ℕ → Neighbours → Bool
sound zero p = nat_lt 63 p.a
sound (suc n) p = steps p && sound n (following p)

-- what holds of a walk that is not at its end
pub record GoesOn (place : ℕ) (p : Neighbours) : Type 0 where
  pub left : place < 1229
  pub a_small : p.a ≤ 63
  pub b_small : p.b ≤ 63
  pub c_small : p.c ≤ 64
  pub d_positive : 1 ≤ p.d
  pub d_small : p.d ≤ 63
  pub numerator : p.a ≤ factor p * p.c
  pub denominator : p.b ≤ factor p * p.d
  pub here : ahead_from place p ≡ term p ∷ ahead_from (place + 1) (following p)
  pub stays_sound : sound (1229 - (place + 1)) (following p) ≡ true
