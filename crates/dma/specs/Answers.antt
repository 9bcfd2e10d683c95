-- How an answer of a channel is told: the number of a refusal is part of a format.
use Rattle.std.specs.Prelude.{ℕ, Ok, Err, Result}
use Rattle.dma.specs.declared.error.DmaError.{DmaError}
use Rattle.dma.specs.declared.error.DmaError.TheVariants.{BufferTooSmall, OutOfDescriptors, DescriptorError}

pub data Answer : Type 0 where
  accepted : Answer
  refused : ℕ → Answer

abbrev pub number : DmaError → ℕ
number BufferTooSmall = 5
number OutOfDescriptors = 6
number DescriptorError = 7

abbrev pub answer_of : Result (Unit {0}) DmaError → Answer
answer_of (Ok x) = accepted
answer_of (Err e) = refused (number e)
