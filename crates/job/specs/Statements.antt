-- What a line means.
use Rattle.std.specs.Prelude.{ℕ, List, [], ◌∷◌, Ok, Err, Result}
use Rattle.job.specs.Keywords.{keyword}
use Rattle.job.specs.Numbers.{numbers}
use Rattle.job.specs.Reasons.{Reason}
use Rattle.job.specs.Reasons.Reason.{unknown_statement, missing_frequency}
use Rattle.job.specs.Words.{words}
use Rattle.job.specs.declared.keyword.Keyword.{Keyword}
use Rattle.job.specs.declared.keyword.Keyword.TheVariants.{Comment, Clock, Unknown}

-- a line says nothing, or asks for a frequency over some sources, or cannot be read
pub data Meaning : Type 0 where
  nothing : Meaning
  clock : ℕ → List ℕ → Meaning
  unreadable : Reason → Meaning

-- the first number is the frequency, the others are the sources
abbrev pub clock_of : Result (List ℕ) Reason → Meaning
clock_of (Ok []) = unreadable missing_frequency
clock_of (Ok (n ∷ ns)) = clock n ns
clock_of (Err e) = unreadable e

-- a line of the words w and ws, by the kind that w begins
abbrev pub by_keyword : Keyword → List ℕ → List (List ℕ) → Meaning
by_keyword Comment w ws = nothing
by_keyword Clock w ws = clock_of (numbers ws)
by_keyword Unknown w ws = unreadable (unknown_statement w)

abbrev pub of_words : List (List ℕ) → Meaning
of_words [] = nothing
of_words (w ∷ ws) = by_keyword (keyword w) w ws

abbrev pub statement : List ℕ → Meaning
statement line = of_words (words line)
