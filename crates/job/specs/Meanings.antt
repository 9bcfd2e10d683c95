-- What the values that the reader returns say, in the words of the rules.
use Rattle.std.specs.Prelude.{◌≡◌, ℕ, List, [], ◌∷◌, Some, None, Ok, Err, vec_items, Option, Result, Vec}
use Rattle.std.specs.declared.alloc.Global.{Global}
use Rattle.job.specs.Numbers.{number}
use Rattle.job.specs.Reasons.{Reason}
use Rattle.job.specs.Reasons.Reason.{unknown_statement, missing_frequency, not_a_number, too_large}
use Rattle.job.specs.Statements.{Meaning}
use Rattle.job.specs.Statements.Meaning.{nothing, clock, unreadable}
use Rattle.job.specs.declared.statement.Statement.{Statement}
use Rattle.job.specs.declared.statement.Statement.TheVariants.{Clock}
use Rattle.job.specs.declared.unreadable.Unreadable.{Unreadable}
use Rattle.job.specs.declared.unreadable.Unreadable.TheVariants.{
  UnknownStatement,
  MissingFrequency,
  NotANumber,
  TooLarge,
  OutOfMemory,
}

-- r says what the word w says as a number
abbrev pub IsNumber : List ℕ → Result ℕ Unreadable → Type 0
IsNumber w (Ok n) = number w ≡ Ok n
IsNumber w (Err (NotANumber u)) = number w ≡ Err (not_a_number u.now)
IsNumber w (Err (TooLarge u)) = number w ≡ Err (too_large u.now)
IsNumber w (Err (UnknownStatement u)) = ⊥
IsNumber w (Err MissingFrequency) = ⊥
IsNumber w (Err OutOfMemory) = ⊥

-- r says the numbers ns, unless memory was refused, which it is not where there are none
abbrev pub AreNumbers : Result (Vec ℕ Global) Unreadable → Result (List ℕ) Reason → Type 0
AreNumbers (Ok v) ns = ns ≡ Ok (vec_items v)
AreNumbers (Err (NotANumber u)) ns = ns ≡ Err (not_a_number u.now)
AreNumbers (Err (TooLarge u)) ns = ns ≡ Err (too_large u.now)
AreNumbers (Err (UnknownStatement u)) ns = ⊥
AreNumbers (Err MissingFrequency) ns = ⊥
AreNumbers (Err OutOfMemory) ns = ns ≡ Ok [] → ⊥

-- a line with a source, or with a word in the place of a number: only such a line takes memory
abbrev pub TakesMemory : Meaning → Type 0
TakesMemory nothing = ⊥
TakesMemory (clock frequency []) = ⊥
TakesMemory (clock frequency (s ∷ ss)) = Unit {0}
TakesMemory (unreadable (unknown_statement w)) = ⊥
TakesMemory (unreadable missing_frequency) = ⊥
TakesMemory (unreadable (not_a_number w)) = Unit {0}
TakesMemory (unreadable (too_large w)) = Unit {0}

-- r says that a line means m, unless memory was refused
abbrev pub Reads : Result (Option Statement) Unreadable → Meaning → Type 0
Reads (Ok None) m = m ≡ nothing
Reads (Ok (Some (Clock frequency sources))) m = m ≡ clock frequency (vec_items sources)
Reads (Err (UnknownStatement u)) m = m ≡ unreadable (unknown_statement u.now)
Reads (Err MissingFrequency) m = m ≡ unreadable missing_frequency
Reads (Err (NotANumber u)) m = m ≡ unreadable (not_a_number u.now)
Reads (Err (TooLarge u)) m = m ≡ unreadable (too_large u.now)
Reads (Err OutOfMemory) m = TakesMemory m
