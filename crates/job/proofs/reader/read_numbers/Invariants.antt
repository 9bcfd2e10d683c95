use Rattle.std.proofs.Common.{◌≡◌, vec_items}
use Rattle.job.specs.Words.{words}
use Rattle.job.specs.Numbers.{numbers}
use Rattle.job.proofs.Rows.{after}
use Rattle.job.proofs.reader.read_numbers.Given as goal

abbrev pub invariant-loop-word : goal.invariant-loop-word
invariant-loop-word l = numbers (words l.fn.rest.0.now) ≡ after (vec_items l.all) (numbers (words l.word-iterator.0.now))
