-- Tried without, and with the lemmas in `using`: the check leaves this open.
use Rattle.board.specs.Images.{cleaned, masks}
use Rattle.board.proofs.Images.{masked_set}
use Rattle.board.proofs.image.words.ImageWords.put.Goals as goal

pub invariant_of-self-clause-clean : goal.invariant_of-self-clause-clean
unfolding cleaned
invariant_of-self-clause-clean c =
    let b = c.args.self.now in
    masked_set masks b.words.now c.args.i c.args.word b.clean c.requires.passes
