-- What a written word asks of its side, and what becomes of marks and start.
use Rattle.std.specs.Prelude.{ℕ, Bool, true, false, cond, not, ◌&&◌, ◌||◌, Some, None, Option}
use Rattle.board.specs.Fields.{flag}
use Rattle.board.specs.declared.control.Control.{Control}
use Rattle.board.specs.declared.control.Request.{Request}
use Rattle.board.specs.declared.field.Field.{Field}
use Rattle.board.specs.declared.field.Field.TheVariants.{LcdReset, LcdAfifoReset, LcdStart, LcdUpdate, CamReset, CamAfifoReset, CamStart, CamUpdate}
use Rattle.board.specs.declared.register.Register.{Register}
use Rattle.board.specs.declared.register.Register.TheVariants.{LcdUser, LcdMisc, CamCtrl, CamCtrl1}
use Rattle.board.specs.declared.register.Side.{Side}
use Rattle.board.specs.declared.register.Side.TheVariants.{Panel, Camera}

abbrev pub request : Bool → Bool → Option Bool → Bool → Request
request r a s u = record { reset = r; afifo_reset = a; start = s; update = u }

-- a register with none of these fields asks nothing
abbrev pub nothing : Request
nothing = request false false None false

abbrev pub requested : Register → ℕ → Request
requested LcdUser w = request (flag LcdReset w) false (Some (flag LcdStart w)) (flag LcdUpdate w)
requested LcdMisc w = request false (flag LcdAfifoReset w) None false
requested CamCtrl w = request false false None (flag CamUpdate w)
requested CamCtrl1 w = request (flag CamReset w) (flag CamAfifoReset w) (Some (flag CamStart w)) false
requested _ w = nothing

-- a reset that is asked for is marked
abbrev pub marked : Request → Control → Control
marked q c = record { start = c.start; reset = c.reset || q.reset; afifo_reset = c.afifo_reset || q.afifo_reset }

-- a 1 over 0 begins a run where both marks are there
abbrev pub begins : Control → Bool
begins c = not c.start && (c.reset && c.afifo_reset)

-- what is written to start: a run that begins takes the marks with it; a 1 does nothing else; a 0 ends the run
abbrev pub started : Option Bool → Control → Control
started None c = c
started (Some true) c = cond (begins c) (record { start = true; reset = false; afifo_reset = false }) c
started (Some false) c = record { start = false; reset = c.reset; afifo_reset = c.afifo_reset }

-- the marks first, then start
abbrev pub controlled : Request → Control → Control
controlled q c = started q.start (marked q c)

-- the field of a side that begins and ends its runs
abbrev pub start_field : Side → Field
start_field Panel = LcdStart
start_field Camera = CamStart
