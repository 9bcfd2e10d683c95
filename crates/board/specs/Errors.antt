-- Which number a refusal has.
use Rattle.std.specs.Prelude.{ℕ}
use Rattle.board.specs.declared.error.ImageError.{ImageError}
use Rattle.board.specs.declared.error.ImageError.TheVariants.{WrongSize}

abbrev pub number : ImageError → ℕ
number WrongSize = 10
