-- A walk that is not at its end takes a step that is defined.
use Rattle.std.proofs.Common.{◌≡◌, ℕ, zero, suc, ◌+◌, ◌-◌, ◌<◌, ◌≤◌, true, ltb, [], ◌∷◌, MatchBool, sym, refl, ap, ◌∙◌, arith}
use Rattle.std.proofs.lemmas.Bool.{and_parts, leb-true, le-ltb}
use Rattle.clock.specs.Farey.{following, term, terms_from}
use Rattle.clock.specs.Walk.{ahead_from, sound, steps, GoesOn}
use Rattle.clock.specs.declared.fraction.Neighbours.{Neighbours}

goes : (n place : ℕ) (p : Neighbours) → n ≡ 1229 - (place + 1) → place < 1229 → suc n ≡ 1229 - place → steps p ≡ true → sound n (following p) ≡ true → GoesOn place p
unfolding ahead_from
goes n place p e left e' s on =
    let s1 = and_parts _ _ s in
    let s2 = and_parts _ _ s1.0 in
    let s3 = and_parts _ _ s2.0 in
    let s4 = and_parts _ _ s3.0 in
    let s5 = and_parts _ _ s4.0 in
    let s6 = and_parts _ _ s5.0 in
    record {
      left = left;
      a_small = leb-true _ _ s6.0;
      b_small = leb-true _ _ s6.1;
      c_small = leb-true _ _ s5.1;
      d_positive = leb-true _ _ s4.1;
      d_small = leb-true _ _ s3.1;
      numerator = leb-true _ _ s2.1;
      denominator = leb-true _ _ s1.1;
      here = ap (λ k. terms_from k p) (sym e') ∙ ap (λ k. term p ∷ terms_from k (following p)) e;
      stays_sound = ap (λ k. sound k (following p)) (sym e) ∙ on;
    }

-- by the number of terms that are left
ended_by : (n place : ℕ) (p : Neighbours) → n ≡ 1229 - place → place ≤ 1229 → sound n p ≡ true →
    MatchBool (ltb 63 p.a) (terms_from n p ≡ []) (GoesOn place p)
unfolding sound
ended_by zero place p e w s = rw s refl
ended_by (suc n) place p e w s =
    let parts = and_parts (steps p) (sound n (following p)) s in
    let g : GoesOn place p = goes n place p (omega arith) (omega arith) e parts.0 parts.1 in
    rw (le-ltb 63 p.a g.a_small) g

pub ended : (place : ℕ) (p : Neighbours) → place ≤ 1229 → sound (1229 - place) p ≡ true →
    MatchBool (ltb 63 p.a) (ahead_from place p ≡ []) (GoesOn place p)
unfolding ahead_from
ended place p w s = ended_by (1229 - place) place p refl w s
