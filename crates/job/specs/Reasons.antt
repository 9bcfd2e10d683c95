-- Why a line cannot be read; a reason has the word that it is about.
use Rattle.std.specs.Prelude.{ℕ, List}

pub data Reason : Type 0 where
  unknown_statement : List ℕ → Reason
  missing_frequency : Reason
  not_a_number : List ℕ → Reason
  too_large : List ℕ → Reason
