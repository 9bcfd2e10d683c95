-- Tried without, and with the lemmas in `using`: the check leaves this open.
use Rattle.std.proofs.Common.{ap, ◌∙◌}
use Rattle.board.specs.Images.{image}
use Rattle.board.proofs.CleanImages.{image_cleaned}
use Rattle.board.proofs.image.ImageBoard.made.Goals as goal

pub returns-clause-holds : goal.returns-clause-holds
returns-clause-holds c =
    ap (image c.args.sources) c.over.ensures.words ∙ image_cleaned c.args.sources c.args.words.now c.told-words
