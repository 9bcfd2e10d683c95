-- Every variant of an enum whose variants hold nothing: a test of all of them by computation, and their numbers.
use Rattle.std.proofs.Common.{◌≡◌, ℕ, suc, Bool, true, false, ◌&&◌, List, [], ◌∷◌, refl, ap, subst, inl, inr, arith}
use denote.Enum.Declared.{Choice, Record, values_one}
use denote.Struct.Field.{Field}
use Rattle.std.proofs.lemmas.Bool.{and_parts, false≢true}

-- a test of each variant, one after the other; false where one holds something
abbrev every : (variants : List (List Field)) → (Choice variants → Bool) → Bool
every [] t = true
every ([] ∷ vs) t = t (inl tt) && every vs (λ c. t (inr c))
every ((x ∷ xs) ∷ vs) t = false

every_holds : (vs : List (List Field)) (t : Choice vs → Bool) → every vs t ≡ true → (c : Choice vs) → t c ≡ true
every_holds [] t e c = absurd c
every_holds ([] ∷ vs) t e (inl u) = (and_parts (t (inl tt)) (every vs (λ c. t (inr c))) e).0
every_holds ([] ∷ vs) t e (inr c) =
    every_holds vs (λ x. t (inr x)) (and_parts (t (inl tt)) (every vs (λ x. t (inr x))) e).1 c
every_holds ((x ∷ xs) ∷ vs) t e c = absurd (false≢true e)

-- where the test of all computes to true, it holds of each
pub each : (N : Record) (t : N.D → Bool) → every N.parts (λ c. t (N.make c)) ≡ true → (d : N.D) → t d ≡ true
each N t e d = subst (λ x. t x ≡ true) (N.eta d) (every_holds N.parts (λ c. t (N.make c)) e (N.as_values d))

abbrev place_of : (vs : List (List Field)) → Choice vs → ℕ
place_of [] c = absurd c
place_of (v ∷ vs) (inl u) = 0
place_of (v ∷ vs) (inr c) = suc (place_of vs c)

place_one : (vs : List (List Field)) → every vs (λ _. true) ≡ true → (c e : Choice vs) → place_of vs c ≡ place_of vs e → c ≡ e
place_one [] plain c e same = absurd c
place_one ([] ∷ vs) plain (inl u) (inl w) same = refl
place_one ([] ∷ vs) plain (inl u) (inr e) same = absurd (omega arith)
place_one ([] ∷ vs) plain (inr c) (inl w) same = absurd (omega arith)
place_one ([] ∷ vs) plain (inr c) (inr e) same = ap inr (place_one vs plain c e (omega arith))
place_one ((x ∷ xs) ∷ vs) plain c e same = absurd (false≢true plain)

-- the number of a variant in the order written, which tells it from every other
abbrev pub number : (N : Record) → N.D → ℕ
number N d = place_of N.parts (N.as_values d)

pub number_one : (N : Record) → every N.parts (λ _. true) ≡ true → (x y : N.D) → number N x ≡ number N y → x ≡ y
number_one N plain x y same = values_one N x y (place_one N.parts plain (N.as_values x) (N.as_values y) same)
