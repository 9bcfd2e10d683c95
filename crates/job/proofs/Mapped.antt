-- What an array's `map` gives, where the closure computes a function.
use Rattle.std.proofs.Common.{◌≡◌, ℕ, zero, suc, ◌+◌, ◌<◌, ◌≤◌, List, length, map, get_or, subst, sym, ap, ◌∙◌, ⊎_elim, arith}
use denote.Param.Members.{Mut}
use Rattle.std.specs.Array.{MapsFrom, IsMapOf}
use Rattle.std.specs.Fn.{Called}
use Rattle.std.proofs.lemmas.Bool.{cases_lt}
use Rattle.std.proofs.lemmas.List.{same_lists, length-map, get_or-map}

module _ {F A B : Type 0} (g : Mut F (A × Unit {0}) B) (h : A → B) (f : F)
    (calls : (x : A) (y : B) (q : F) → Called g f (x, tt) y q → (y ≡ h x) × (q ≡ f)) where
  each : (n i : ℕ) (xs : List A) (ys : List B) → MapsFrom g f xs ys i n → (k : ℕ) → i ≤ k → k < i + n → (d : A) (e : B)
      → get_or ys k e ≡ h (get_or xs k d)
  each zero i xs ys m k low high d e = absurd (omega arith)
  each (suc n) i xs ys m k low high d e =
      let call = calls m.1 m.2 m.0 m.5 in
      ⊎_elim
      (λ (later : i < k).
      let rest : MapsFrom g f xs ys (i + 1) n = subst (λ (q : F). MapsFrom g q xs ys (i + 1) n) call.1 m.6 in
      each n (i + 1) xs ys rest k (omega arith) (omega arith) d e)
      (λ (here : k ≤ i).
      let same : i ≡ k = omega arith in
      subst (λ (j : ℕ). get_or ys j e ≡ h (get_or xs j d)) same (m.4.1 e ∙ call.0 ∙ ap h (sym (m.3.1 d))))
      (cases_lt i k)

  pub mapped_same : (d : A) (xs : List A) (ys : List B) (n : ℕ) → length xs ≡ n → IsMapOf g f xs ys n → ys ≡ map h xs
  mapped_same d xs ys n long m =
      same_lists ys (map h xs) (omega (arith, m.long, length-map xs h))
      (λ k e lt.
      each n 0 xs ys m.each k (omega arith) (omega (arith, m.long)) d e
      ∙ sym (get_or-map h xs k d e (omega (arith, m.long))))
