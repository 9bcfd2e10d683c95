-- Numbers in a row, read one after another.
use Rattle.std.proofs.Common.{◌≡◌, ℕ, cond, leb, List, [], ◌∷◌, ◌++◌, Ok, Err, Result, sym, refl, ap, ◌∙◌, append_assoc}
use Rattle.std.proofs.lemmas.Bool.{cond_both}
use Rattle.job.specs.Meanings.{AreNumbers, Reads, TakesMemory}
use Rattle.job.specs.Numbers.{number, numeral, value, before, numbers}
use Rattle.job.specs.Reasons.{Reason}
use Rattle.job.specs.Reasons.Reason.{unknown_statement, missing_frequency, not_a_number, too_large}
use Rattle.job.specs.Statements.{clock_of}
use Rattle.job.specs.declared.unreadable.Unreadable.{Unreadable}
use Rattle.job.specs.declared.unreadable.Unreadable.TheVariants.{UnknownStatement, MissingFrequency, NotANumber, TooLarge, OutOfMemory}

-- the numbers ns, and then those of a row
abbrev pub after : List ℕ → Result (List ℕ) Reason → Result (List ℕ) Reason
after ns (Ok ms) = Ok (ns ++ ms)
after ns (Err e) = Err e

after_one : (ns : List ℕ) (n : ℕ) (r : Result (List ℕ) Reason) → after ns (before (Ok n) r) ≡ after (ns ++ (n ∷ [])) r
after_one ns n (Ok ms) = ap (λ (l : List ℕ). Ok l) (sym (append_assoc ns (n ∷ []) ms))
after_one ns n (Err e) = refl

-- a word more that says the number n
pub after_more : (ns : List ℕ) (w : List ℕ) (ws : List (List ℕ)) (n : ℕ) → number w ≡ Ok n
    → after ns (numbers (w ∷ ws)) ≡ after (ns ++ (n ∷ [])) (numbers ws)
after_more ns w ws n is =
    ap (λ (o : Result ℕ Reason). after ns (before o (numbers ws))) is ∙ after_one ns n (numbers ws)

-- after a number there is at least one
pub after_some : (ns : List ℕ) (n : ℕ) (r : Result (List ℕ) Reason) → after (ns ++ (n ∷ [])) r ≡ Ok [] → ⊥
after_some [] n (Ok ms) e = cc
after_some (m ∷ ns) n (Ok ms) e = cc
after_some [] n (Err x) e = cc
after_some (m ∷ ns) n (Err x) e = cc

-- a word that is no number has one of two reasons
abbrev NumberReason : {A : Type 0} → Result A Reason → Type 0
NumberReason (Ok x) = Unit {0}
NumberReason (Err (unknown_statement w)) = ⊥
NumberReason (Err missing_frequency) = ⊥
NumberReason (Err (not_a_number w)) = Unit {0}
NumberReason (Err (too_large w)) = Unit {0}

number_reason : (w : List ℕ) → NumberReason (number w)
number_reason w =
    cond_both (numeral w) (cond (leb (value w) 4294967295) (Ok (value w)) (Err (too_large w))) (Err (not_a_number w))
    NumberReason
    (λ _. cond_both (leb (value w) 4294967295) (Ok (value w)) (Err (too_large w)) NumberReason (λ _. tt) (λ _. tt))
    (λ _. tt)

before_reason : (o : Result ℕ Reason) (r : Result (List ℕ) Reason) → NumberReason o → NumberReason r → NumberReason (before o r)
before_reason (Err e) r h k = h
before_reason (Ok n) (Err e) h k = k
before_reason (Ok n) (Ok ns) h k = tt

numbers_reason : (ws : List (List ℕ)) → NumberReason (numbers ws)
numbers_reason [] = tt
numbers_reason (w ∷ ws) = before_reason (number w) (numbers ws) (number_reason w) (numbers_reason ws)

-- a frequency and a row of numbers that is not empty takes memory
with_frequency : (n : ℕ) (r : Result (List ℕ) Reason) → NumberReason r → (r ≡ Ok [] → ⊥)
    → TakesMemory (clock_of (before (Ok n) r))
with_frequency n (Ok []) h some = some refl
with_frequency n (Ok (m ∷ ms)) h some = tt
with_frequency n (Err (unknown_statement w)) h some = h
with_frequency n (Err missing_frequency) h some = h
with_frequency n (Err (not_a_number w)) h some = tt
with_frequency n (Err (too_large w)) h some = tt

-- what keeps the sources from being read keeps the line from being read
pub broken : (e : Unreadable) (ws : List (List ℕ)) (n : ℕ) → AreNumbers (Err e) (numbers ws)
    → Reads (Err e) (clock_of (before (Ok n) (numbers ws)))
broken (UnknownStatement u) ws n h = absurd h
broken MissingFrequency ws n h = absurd h
broken (NotANumber u) ws n h = ap (λ (r : Result (List ℕ) Reason). clock_of (before (Ok n) r)) h
broken (TooLarge u) ws n h = ap (λ (r : Result (List ℕ) Reason). clock_of (before (Ok n) r)) h
broken OutOfMemory ws n h = with_frequency n (numbers ws) (numbers_reason ws) h
