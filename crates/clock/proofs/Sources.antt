-- Going through the sources keeps the best so far, so that the best of all is left at the end.
use Rattle.std.proofs.Common.{◌≡◌, ℕ, suc, ◌+◌, ◌*◌, ◌<◌, ◌≤◌, eqb, ltb, List, [], ◌∷◌, length, get_or, drop, Some, None, Option, sym, refl, ap, ◌∙◌, subst, subst₂, le_refl, add-zero, le_of_lt, mul-le-mul_right, mul-le-mul_left, zero-add, div-mul-le_self, arith, below_more}
use native.Mathlib.Nat.{lt-mul-div-succ}
use Rattle.std.proofs.lemmas.List.{drop_more, drop_all}
use Rattle.std.proofs.lemmas.Bool.{cond_both, ltb-true, ltb-false, eqb-true, eqb-false}
use Rattle.clock.specs.Divider.{hertz, NotAbove, Allowed}
use Rattle.clock.specs.Closest.{closest}
use Rattle.clock.specs.Search.{serving, considered, best_from, answered, searched}
use Rattle.clock.specs.Search.Answer.{refused}
use Rattle.clock.specs.Laws.{BestFromBelow, SearchLaw}
use Rattle.clock.specs.declared.divider.ClockDivider.{ClockDivider}
use Rattle.clock.specs.declared.search.Best.{Best}
use Rattle.clock.specs.declared.closest.ClosestDivider.{ClosestDivider}
use Rattle.clock.proofs.OneSource.{ClosestCases, closest_cases, allowed_serves}

-- the sources are given by their index
module _ (r : ℕ) (at : ℕ → ℕ) where
  -- b is the best of the first i sources
  record Winner (i : ℕ) (b : Best) : Type 0 where
    known : b.index < i
    count : ℕ
    serves : closest (at b.index) r ≡ Some (record { divider = b.divider; count = count })
    has : b.freq ≡ hertz (at b.index) b.divider
    most : (j : ℕ) (c : ClosestDivider) → j < i → closest (at j) r ≡ Some c → hertz (at j) c.divider ≤ b.freq
    first : (j : ℕ) (c : ClosestDivider) → j < b.index → closest (at j) r ≡ Some c → hertz (at j) c.divider < b.freq

  abbrev SoFar : ℕ → Option Best → Type 0
  SoFar i None = (j : ℕ) → j < i → closest (at j) r ≡ None
  SoFar i (Some b) = Winner i b

  -- the source at i has more whole hertz than each before it
  taken : (i : ℕ) (c : ClosestDivider) → closest (at i) r ≡ Some c
      → ((j : ℕ) → j < i → (d : ClosestDivider) → closest (at j) r ≡ Some d
      → hertz (at j) d.divider < hertz (at i) c.divider)
      → Winner (i + 1) (serving i (at i) c)
  taken i c e less =
      record {
        known = omega arith;
        count = c.count;
        serves = e;
        has = refl;
        most = λ j d lt f.
            below_more
            (λ k. (d : ClosestDivider) → closest (at k) r ≡ Some d → hertz (at k) d.divider ≤ hertz (at i) c.divider)
            i (λ k before d f. le_of_lt (less k before d f))
            (λ d f. let same : d ≡ c = cc in rw same (le_refl _)) j lt d f;
        first = λ j d lt f. less j lt d f;
      }

  -- the source at i has no more whole hertz than the best so far, or does not serve
  kept : (i : ℕ) (b : Best) → Winner i b
      → ((d : ClosestDivider) → closest (at i) r ≡ Some d → hertz (at i) d.divider ≤ b.freq) → Winner (i + 1) b
  kept i b w here =
      record {
        known = omega (arith, w.known);
        count = w.count;
        serves = w.serves;
        has = w.has;
        most = λ j d lt f.
            below_more (λ k. (d : ClosestDivider) → closest (at k) r ≡ Some d → hertz (at k) d.divider ≤ b.freq) i
            (λ k before d f. w.most k d before f) here j lt d f;
        first = w.first;
      }

  step : (i : ℕ) (o : Option ClosestDivider) (best : Option Best) → closest (at i) r ≡ o → SoFar i best
      → SoFar (i + 1) (considered i (at i) o best)
  step i None None e so = below_more (λ j. closest (at j) r ≡ None) i so e
  step i (Some c) None e so =
      taken i c e (λ j lt d f. let g = so j lt in cc)
  step i None (Some b) e so =
      kept i b so (λ d f. cc)
  step i (Some c) (Some b) e so =
      cond_both (ltb b.freq (hertz (at i) c.divider)) (serving i (at i) c) b (Winner (i + 1))
      (λ more. taken i c e (λ j lt d f. omega (arith, so.most j d lt f, ltb-true _ _ more)))
      (λ less. kept i b so (λ d f. let same : d ≡ c = cc in rw same (ltb-false _ _ less)))

  run : (rest : List ℕ) (i : ℕ) (best : Option Best) → ((j : ℕ) → j < length rest → get_or rest j 0 ≡ at (i + j))
      → SoFar i best → SoFar (i + length rest) (best_from r i rest best)
  unfolding best_from
  run [] i best e so = subst (λ k. SoFar k best) (sym (add-zero i)) so
  run (s ∷ rest) i best e so =
      let here : at i ≡ s = ap at (sym (add-zero i)) ∙ sym (e 0 (omega arith)) in
      let next = considered i s (closest s r) best in
      let so' : SoFar (i + 1) next =
      subst (λ (z : ℕ). SoFar (i + 1) (considered i z (closest z r) best)) here (step i (closest (at i) r) best refl so) in
      let moved : (i + 1) + length rest ≡ i + suc (length rest) = omega arith in
      subst (λ k. SoFar k (best_from r (i + 1) rest next)) moved
      (run rest (i + 1) next
      (λ j lt. e (suc j) (omega arith) ∙ ap at (let m : i + suc j ≡ i + 1 + j = omega arith in m)) so')

-- each source by its index, and what holds at the end of the list
module _ (r : ℕ) (ss : List ℕ) (pos : 0 < r) where
  source : ℕ → ℕ
  source j = get_or ss j 0

  -- the source at j serves, with at least as many whole hertz as the divider e has
  abbrev Server : ℕ → ClockDivider → Option ClosestDivider → Type 0
  Server j e o = (c : ClosestDivider) × (o ≡ Some c) × (hertz (source j) e ≤ hertz (source j) c.divider)

  -- so it is for an allowed divider whose output is not above
  server : (j : ℕ) (e : ClockDivider) → Allowed e → NotAbove (source j) e r → (o : Option ClosestDivider)
      → ClosestCases (source j) r o → Server j e o
  server j e allowed above None law = absurd (omega (arith, law, allowed_serves (source j) r pos e allowed above))
  server j e allowed above (Some c) law = (c, refl, law.1.none_comes_closer e allowed above)

  best_of_all : (b : Best) → Winner r source (length ss) b → BestFromBelow r ss b.index b.divider
  unfolding source
  best_of_all b w =
      let law : ClosestCases (source b.index) r (Some (record { divider = b.divider; count = w.count })) =
      subst (ClosestCases (source b.index) r) w.serves (closest_cases (source b.index) r pos) in
      record {
        known_source = w.known;
        wins = record {
          serves = (record { divider = b.divider; count = w.count }, w.serves, refl);
          most_hertz = λ j c lt e. omega (arith, w.most j c lt e, w.has);
          earlier_first = λ j c lt e. omega (arith, w.first j c lt e, w.has);
        };
        fits_the_fields = law.2;
        never_above_asked = law.1.never_above_asked;
        none_comes_closer = λ j e lt allowed above.
            let s : Server j e (closest (source j) r) = server j e allowed above _ (closest_cases (source j) r pos) in
            omega (arith, w.most j s.0 lt s.1, s.2, w.has);
        earlier_on_a_tie = λ j e lt allowed above.
            let s : Server j e (closest (source j) r) = server j e allowed above _ (closest_cases (source j) r pos) in
            omega (arith, w.first j s.0 lt s.1, s.2, w.has);
      }

  too_fast : (j : ℕ) → (o : Option ClosestDivider) → ClosestCases (source j) r o → o ≡ None → 257 * r ≤ source j
  too_fast j None law e = omega (arith, mul-le-mul_right r law, div-mul-le_self (source j) r)
  too_fast j (Some c) law e = cc

  by_found : (found : Option Best) → SoFar r source (length ss) found
      → SearchLaw r ss (answered found)
  unfolding source
  by_found None so =
      record {
        refuses_zero = (λ e. cc, λ e. absurd (omega arith));
        refuses_too_low = (
          λ _. (pos, λ j lt. too_fast j (closest (source j) r) (closest_cases (source j) r pos) (so j lt)),
          λ _. refl,
        );
        best = λ i d e. cc;
      }
  by_found (Some b) w =
      let law : ClosestCases (source b.index) r (Some (record { divider = b.divider; count = w.count })) =
      subst (ClosestCases (source b.index) r) w.serves (closest_cases (source b.index) r pos) in
      record {
        refuses_zero = (λ e. cc, λ e. absurd (omega arith));
        refuses_too_low = (
          λ e. cc,
          λ all.
              absurd
              (omega (
                arith,
                all.1 b.index w.known,
                lt-mul-div-succ (source b.index) pos,
                mul-le-mul_left r law.0,
              )),
        );
        best = λ i d e.
            let ei : b.index ≡ i = cc in
            let ed : b.divider ≡ d = cc in
            subst₂ (BestFromBelow r ss) ei ed (best_of_all b w);
      }

refused_zero : (r : ℕ) (ss : List ℕ) → r ≡ 0 → SearchLaw r ss (refused 1)
refused_zero r ss z =
    record {
      refuses_zero = (λ _. z, λ _. refl);
      refuses_too_low =
          (λ e. cc, λ all. absurd (omega (arith, all.0)));
      best = λ i d e. cc;
    }

pub search_law : (r : ℕ) (ss : List ℕ) → SearchLaw r ss (searched r ss)
unfolding source
search_law r ss =
    cond_both (eqb r 0) (refused 1) (answered (best_from r 0 ss None)) (SearchLaw r ss)
    (λ z. refused_zero r ss (eqb-true _ _ z))
    (λ some.
    let pos : 0 < r = omega (arith, eqb-false _ _ some) in
    let at : ℕ → ℕ = λ j. get_or ss j 0 in
    let end = run r at ss 0 None (λ j lt. ap at (sym (zero-add j))) (λ j lt. absurd (omega arith)) in
    by_found r ss pos _ (subst (λ k. SoFar r at k (best_from r 0 ss None)) (zero-add (length ss)) end))

-- one turn of the search takes the next source
pub one_turn : (r : ℕ) (ss : List ℕ) (i : ℕ) (best : Option Best) → i < length ss
    → best_from r i (drop i ss) best
    ≡ best_from r (i + 1) (drop (i + 1) ss) (considered i (get_or ss i 0) (closest (get_or ss i 0) r) best)
unfolding best_from
one_turn r ss i best lt = ap (λ (xs : List ℕ). best_from r i xs best) (drop_more ss i 0 lt)

-- past the last source nothing changes
pub no_turn : (r : ℕ) (ss : List ℕ) (i : ℕ) (best : Option Best) → length ss ≤ i → best_from r i (drop i ss) best ≡ best
unfolding best_from
no_turn r ss i best le = ap (λ (xs : List ℕ). best_from r i xs best) (drop_all i ss le)
