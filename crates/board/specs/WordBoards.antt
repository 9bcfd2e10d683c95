-- What a word board means.
use Rattle.std.specs.Prelude.{ℕ, min, max, false}
use Rattle.board.specs.States.{SideState, BoardState, SpansHold}
use Rattle.board.specs.States.Polls.{ending}
use Rattle.board.specs.Words.{panel_words, camera_words}
use Rattle.board.specs.declared.control.Control.{Control}
use Rattle.board.specs.declared.side_words.SideWords.{SideWords}
use Rattle.board.specs.declared.sources.Sources.{Sources}
use Rattle.board.specs.declared.word_board.WordBoard.{WordBoard}

abbrev pub side_state : {W : Type 0} → SideWords W → SideState W
side_state s = record {
  written = s.written;
  in_force = s.in_force;
  control = s.control;
  left = ending s.left;
  span = ending s.span;
}

abbrev pub word_board : WordBoard → BoardState
word_board b = record { sources = b.sources; panel = side_state b.panel; camera = side_state b.camera }

pub word_spans : (b : WordBoard) → SpansHold (word_board b)
word_spans b = record { panel_span = b.panel.some; camera_span = b.camera.some }

-- a span is 1 to 1,000,000 polls, and the nearer end where it is chosen outside
abbrev pub chosen_span : ℕ → ℕ
chosen_span n = min (max n 1) 1000000

-- no run and no mark
abbrev pub idle : Control
idle = record { start = false; reset = false; afifo_reset = false }

abbrev pub new_side : {W : Type 0} → W → ℕ → SideState W
new_side words n = record { written = words; in_force = words; control = idle; left = ending 0; span = ending n }

-- all fields are 0
abbrev pub new_board : Sources → ℕ → BoardState
new_board s n = record { sources = s; panel = new_side (panel_words (λ _. 0)) n; camera = new_side (camera_words (λ _. 0)) n }
