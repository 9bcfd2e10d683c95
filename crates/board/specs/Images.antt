-- The image: 34 words that hold a board. Words 0 to 15 are the words written, in the registers' order, with start in its
-- place; 16 to 31 the words in force; 32 and 33 the marks of the panel and the camera, reset in bit 0 and afifo_reset in
-- bit 1. Words 12 to 15 and 28 to 31 belong to no register.
use Rattle.std.specs.Prelude.{◌≡◌, ℕ, zero, suc, ◌+◌, ◌-◌, ◌*◌, ◌/◌, ◌%◌, ◌^◌, ◌<◌, ◌≤◌, Bool, true, cond, ◌⊎◌, List, [], ◌∷◌, ◌++◌, map, replicate, ◌==◌, bit_and, slice_index, slice_set}
use Rattle.board.specs.Controls.{requested, controlled, start_field}
use Rattle.board.specs.Fields.{flag, bit, stored, stored_mask}
use Rattle.board.specs.Registers.{index, side, first, count}
use Rattle.board.specs.States.{SideState, BoardState, with_start}
use Rattle.board.specs.States.Polls.{ending, endless}
use Rattle.board.specs.Table.{place, registers}
use Rattle.board.specs.Words.{panel_words, camera_words}
use Rattle.board.specs.declared.control.Control.{Control}
use Rattle.board.specs.declared.register.Register.{Register}
use Rattle.board.specs.declared.register.Side.{Side}
use Rattle.board.specs.declared.register.Side.TheVariants.{Panel, Camera}
use Rattle.board.specs.declared.sources.Sources.{Sources}

abbrev pub mark_place : Side → ℕ
mark_place Panel = 32
mark_place Camera = 33

-- start stands in the word of its register
abbrev pub start_in : Side → List ℕ → Bool
start_in s ws = flag (start_field s) (slice_index ws (index (place (start_field s)).register))

abbrev pub control_in : Side → List ℕ → Control
control_in s ws = record {
  start = start_in s ws;
  reset = (slice_index ws (mark_place s) % 2 == 1);
  afifo_reset = (slice_index ws (mark_place s) / 2 % 2 == 1);
}

-- a run has no end, and nothing is left where none goes on
abbrev pub endless_side : {Words : Type 0} → Words → Words → Control → SideState Words
endless_side written in_force c = record {
  written = written;
  in_force = in_force;
  control = c;
  left = cond c.start endless (ending 0);
  span = endless;
}

-- the words of the registers from a place on, without start and what reads as 0
abbrev pub stored_from : ℕ → List ℕ → Register → ℕ
stored_from k ws r = stored r (slice_index ws (k + index r))

-- the board that an image holds
abbrev pub image : Sources → List ℕ → BoardState
image s ws = record {
  sources = s;
  panel = endless_side (panel_words (stored_from 0 ws)) (panel_words (stored_from 16 ws)) (control_in Panel ws);
  camera = endless_side (camera_words (stored_from 0 ws)) (camera_words (stored_from 16 ws)) (control_in Camera ws);
}

-- the bits that a read of a register can answer with 1: those that it stores, and start
abbrev pub read_mask : Register → ℕ
read_mask r = with_start r true (stored_mask r)

-- the bits of each word of an image that may be 1; words of no register have all of them
abbrev pub masks : List ℕ
masks =
    map read_mask registers ++ (replicate 4 (2 ^ 32 - 1)
    ++ (map stored_mask registers ++ (replicate 4 (2 ^ 32 - 1) ++ (3 ∷ (3 ∷ [])))))

abbrev pub masked : List ℕ → List ℕ → List ℕ
masked [] ws = []
masked (m ∷ ms) [] = []
masked (m ∷ ms) (w ∷ ws) = bit_and w m ∷ masked ms ws

-- an image without the bits that read as 0, start in force and spare mark bits
unfoldable pub cleaned : List ℕ → List ℕ
cleaned ws = masked masks ws

abbrev pub marks : Control → ℕ
marks c = bit c.reset + 2 * bit c.afifo_reset

-- n words from a place on put in force, without start
abbrev pub n_in_force : ℕ → ℕ → List ℕ → List ℕ
n_in_force zero from ws = ws
n_in_force (suc n) from ws =
    slice_set (n_in_force n from ws) (16 + (from + n)) (bit_and (slice_index ws (from + n)) (slice_index masks (16 + (from + n))))

abbrev pub put_in_force : Side → List ℕ → List ℕ
put_in_force s ws = n_in_force (count s) (first s) ws

-- the register's word with start in its place, and the marks of its side
abbrev pub stored_in : Register → ℕ → Control → List ℕ → List ℕ
stored_in r w c ws = slice_set (slice_set ws (index r) (with_start r c.start (stored r w))) (mark_place (side r)) (marks c)

abbrev pub updated_in : Bool → Side → List ℕ → List ℕ
updated_in u s ws = cond u (put_in_force s ws) ws

abbrev pub control_after : Register → ℕ → List ℕ → Control
control_after r w ws = controlled (requested r w) (control_in (side r) ws)

-- an image after a word was written to a register
abbrev pub image_written : Register → ℕ → List ℕ → List ℕ
image_written r w ws = updated_in (requested r w).update (side r) (stored_in r w (control_after r w ws) ws)

-- words 12 to 15 and 28 to 31 belong to no register
abbrev pub KeptPlace : ℕ → Type 0
KeptPlace k = ((12 ≤ k) × (k < 16)) ⊎ ((28 ≤ k) × (k < 32))

-- the words of no register are the same in two images
abbrev pub KeepsTheRest : List ℕ → List ℕ → Type 0
KeepsTheRest ws ws' = (k : ℕ) → KeptPlace k → slice_index ws' k ≡ slice_index ws k
