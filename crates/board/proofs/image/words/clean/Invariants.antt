use Rattle.std.proofs.Common.{◌≡◌, ◌++◌, take, drop}
use Rattle.board.specs.Images.{masked, masks}
use Rattle.board.proofs.image.words.clean.Given as goal

abbrev pub invariant-loop-i : goal.invariant-loop-i
invariant-loop-i l = l.words ≡ take l.i (masked masks l.initial.words) ++ drop l.i l.initial.words
