-- What the buffer holds after a line was read.
use Rattle.std.specs.Prelude.{◌≡◌, ℕ, ◌<◌, List, [], Some, Option, IfSome}
use Rattle.std.specs.Io.BufRead.{take_through, drop_through}
use Rattle.larder.specs.declared.input.Line.{Line}
use Rattle.larder.specs.declared.input.Line.TheVariants.{Whole, TooLong, End}

-- a line has at least one byte; at the end of the input there is none; of a line that was too long nothing is said
abbrev pub Filled : Line → ℕ → Type 0
Filled Whole n = 0 < n
Filled TooLong n = Unit {0}
Filled End n = n ≡ 0

-- the line is what stands in the input up to the first line feed, 10, or to the end, and the rest is left; at the end
-- of the input there is nothing
abbrev pub Gives : Line → Option (List ℕ) → Option (List ℕ) → List ℕ → Type 0
Gives Whole before after line = IfSome before (λ xs. (line ≡ take_through 10 xs) × (after ≡ Some (drop_through 10 xs)))
Gives TooLong before after line = Unit {0}
Gives End before after line = IfSome before (λ xs. xs ≡ [])
