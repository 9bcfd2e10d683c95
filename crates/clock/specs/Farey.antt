-- F63: the fractions from 0/1 to 1/1 in lowest terms with denominators up to 63, in order.
use Rattle.std.specs.Prelude.{ℕ, zero, suc, ◌+◌, ◌-◌, ◌*◌, ◌/◌, List, [], ◌∷◌}
use Rattle.clock.specs.declared.fraction.Fraction.{Fraction}
use Rattle.clock.specs.declared.fraction.Neighbours.{Neighbours}

-- the first two terms, 0/1 and 1/63
abbrev pub first_terms : Neighbours
first_terms = record { a = 0; b = 1; c = 1; d = 63 }

-- after a/b and c/d comes (k c - a)/(k d - b), with k as large as the denominator 63 allows
abbrev pub factor : Neighbours → ℕ
factor p = (63 + p.b) / p.d

abbrev pub following : Neighbours → Neighbours
following p = record { a = p.c; b = p.d; c = factor p * p.c - p.a; d = factor p * p.d - p.b }

abbrev pub term : Neighbours → Fraction
term p = record { numerator = p.a; denominator = p.b }

-- n terms from a pair on
abbrev pub terms_from : ℕ → Neighbours → List Fraction
terms_from zero p = []
terms_from (suc n) p = term p ∷ terms_from n (following p)

unfoldable pub f63 : List Fraction
f63 = terms_from 1229 first_terms
