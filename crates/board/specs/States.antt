-- What a board means, and what a read, a write and a poll make of it.
use Rattle.std.specs.Prelude.{ℕ, ◌-◌, ◌≤◌, Bool, true, false, cond, not, Some, None, Option, ◌==◌}
use Rattle.board.specs.Controls.{requested, marked, begins, controlled}
use Rattle.board.specs.Fields.{bit, put, stored}
use Rattle.board.specs.Registers.{side}
use Rattle.board.specs.Words.{panel_word, with_panel_word, camera_word, with_camera_word}
use Rattle.board.specs.declared.control.Control.{Control}
use Rattle.board.specs.declared.control.Request.{Request}
use Rattle.board.specs.declared.field.Field.TheVariants.{LcdStart, CamStart}
use Rattle.board.specs.declared.register.Register.{Register}
use Rattle.board.specs.declared.register.Register.TheVariants.{LcdUser, CamCtrl1}
use Rattle.board.specs.declared.register.Side.{Side}
use Rattle.board.specs.declared.register.Side.TheVariants.{Panel, Camera}
use Rattle.board.specs.declared.sources.Sources.{Sources}
use Rattle.board.specs.declared.words.PanelWords.{PanelWords}
use Rattle.board.specs.declared.words.CameraWords.{CameraWords}

-- how many polls a run takes, or has left: a number, or no end
pub data Polls : Type 0 where
  ending : ℕ → Polls
  endless : Polls

pub record SideState (Words : Type 0) : Type 0 where
  pub written : Words
  pub in_force : Words
  pub control : Control
  pub left : Polls
  pub span : Polls

pub record BoardState : Type 0 where
  pub sources : Sources
  pub panel : SideState PanelWords
  pub camera : SideState CameraWords

-- what is left of a run where start is written: a run that begins has its span left, one that is ended has none
abbrev pub left_after : Option Bool → Control → Polls → Polls → Polls
left_after None c span left = left
left_after (Some true) c span left = cond (begins c) span left
left_after (Some false) c span left = ending 0

-- a write: the words are replaced, then the resets are marked, then start is written, then update puts all in force
abbrev pub side_written : {Words : Type 0} → Words → Request → SideState Words → SideState Words
side_written words q s = record {
  written = words;
  in_force = cond q.update words s.in_force;
  control = controlled q s.control;
  left = left_after q.start (marked q s.control) s.span s.left;
  span = s.span;
}

abbrev pub one_less : Polls → Polls
one_less (ending n) = ending (n - 1)
one_less endless = endless

abbrev pub over : Polls → Bool
over (ending n) = n == 0
over endless = false

-- a poll while a run goes on: one less is left, and where none is, start falls
abbrev pub lowered : {Words : Type 0} → SideState Words → SideState Words
lowered s = record {
  written = s.written;
  in_force = s.in_force;
  control = record {
    start = not (over (one_less s.left));
    reset = s.control.reset;
    afifo_reset = s.control.afifo_reset;
  };
  left = one_less s.left;
  span = s.span;
}

abbrev pub side_polled : {Words : Type 0} → SideState Words → SideState Words
side_polled s = cond s.control.start (lowered s) s

abbrev pub with_panel : SideState PanelWords → BoardState → BoardState
with_panel s b = record { sources = b.sources; panel = s; camera = b.camera }

abbrev pub with_camera : SideState CameraWords → BoardState → BoardState
with_camera s b = record { sources = b.sources; panel = b.panel; camera = s }

abbrev pub written_on : Side → Register → ℕ → BoardState → BoardState
written_on Panel r w b =
    with_panel (side_written (with_panel_word r (stored r w) b.panel.written) (requested r w) b.panel) b
written_on Camera r w b =
    with_camera (side_written (with_camera_word r (stored r w) b.camera.written) (requested r w) b.camera) b

-- the board after a word was written to a register
unfoldable pub written : Register → ℕ → BoardState → BoardState
written r w b = written_on (side r) r w b

abbrev pub polled_on : Side → BoardState → BoardState
polled_on Panel b = with_panel (side_polled b.panel) b
polled_on Camera b = with_camera (side_polled b.camera) b

-- the board after a side was polled
unfoldable pub polled : Side → BoardState → BoardState
polled s b = polled_on s b

abbrev pub control_of : Side → BoardState → Control
control_of Panel b = b.panel.control
control_of Camera b = b.camera.control

-- a poll answers whether start is 0 after it
unfoldable pub poll_answer : Side → BoardState → Bool
poll_answer s b = not (control_of s (polled_on s b)).start

-- the word of a register among those of both sides
abbrev pub word_on : Side → Register → PanelWords → CameraWords → ℕ
word_on Panel r p c = panel_word r p
word_on Camera r p c = camera_word r c

-- the fields written to a register, and those in force: no bit beside them is 1
abbrev pub written_word : Register → BoardState → ℕ
written_word r b = stored r (word_on (side r) r b.panel.written b.camera.written)

abbrev pub word_in_force : Register → BoardState → ℕ
word_in_force r b = stored r (word_on (side r) r b.panel.in_force b.camera.in_force)

-- a word of a register with start in its place, where the register has that field
abbrev pub with_start : Register → Bool → ℕ → ℕ
with_start LcdUser start w = put LcdStart (bit start) w
with_start CamCtrl1 start w = put CamStart (bit start) w
with_start _ start w = w

abbrev pub read_on : Register → BoardState → ℕ
read_on r b = with_start r (control_of (side r) b).start (written_word r b)

-- a read answers the written fields and start
unfoldable pub read : Register → BoardState → ℕ
read r b = read_on r b

-- a run takes one poll or more
abbrev pub AtLeastOne : Polls → Type 0
AtLeastOne (ending n) = 1 ≤ n
AtLeastOne endless = Unit {0}

pub record SpansHold (b : BoardState) : Type 0 where
  pub panel_span : AtLeastOne b.panel.span
  pub camera_span : AtLeastOne b.camera.span
