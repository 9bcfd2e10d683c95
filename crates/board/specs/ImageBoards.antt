-- What an image board means.
use Rattle.std.specs.Prelude.{ℕ, List}
use Rattle.board.specs.Images.{image}
use Rattle.board.specs.States.{BoardState, SpansHold}
use Rattle.board.specs.declared.image.ImageBoard.{ImageBoard}

abbrev pub words_of : ImageBoard → List ℕ
words_of b = b.image.words.now

abbrev pub image_board : ImageBoard → BoardState
image_board b = image b.sources b.image.words.now

pub image_spans : (b : ImageBoard) → SpansHold (image_board b)
image_spans b = record { panel_span = tt; camera_span = tt }
