use Rattle.std.proofs.Common.{◌≡◌}
use Rattle.board.specs.Images.{n_in_force}
use Rattle.board.specs.Registers.{first}
use Rattle.board.proofs.image.words.ImageWords.put_in_force.Given as goal

abbrev pub invariant-loop-register : goal.invariant-loop-register
invariant-loop-register l = l.self.words.now ≡ n_in_force l.register-index (first l.fn.side) l.initial.self.words.now
