-- What can be seen of a board, and how it is printed.
use Rattle.std.specs.Prelude.{ℕ, List, ◌++◌, map, codes, decimal}
use Rattle.std.specs.List.{flat_map}
use Rattle.board.specs.Clocks.{side_hertz}
use Rattle.board.specs.Fields.{bit}
use Rattle.board.specs.Registers.{name}
use Rattle.board.specs.States.{BoardState, read, word_in_force, control_of}
use Rattle.board.specs.Table.{registers}
use Rattle.board.specs.declared.register.Register.{Register}
use Rattle.board.specs.declared.register.Side.{Side}
use Rattle.board.specs.declared.register.Side.TheVariants.{Panel, Camera}
use Rattle.job.specs.Hexadecimal.{hex_word}
use Rattle.job.specs.Names.{side_name}
use Rattle.job.specs.declared.report.RegisterLine.{RegisterLine}
use Rattle.job.specs.declared.report.SideLine.{SideLine}
use Rattle.job.specs.declared.report.Report.{Report}

abbrev pub register_line : BoardState → Register → RegisterLine
register_line b r = record { register = r; written = read r b; in_force = word_in_force r b }

abbrev pub side_line : BoardState → Side → SideLine
side_line b s = record { side = s; control = control_of s b; hertz = side_hertz s b }

-- a line for each register, in the board's order
unfoldable pub register_lines : BoardState → List RegisterLine
register_lines b = map (register_line b) registers

-- these, and a line for each side
abbrev pub report : BoardState → Report
report b = record { registers = register_lines b; panel = side_line b Panel; camera = side_line b Camera }

-- name, word written, word in force
abbrev pub register_text : RegisterLine → List ℕ
register_text l =
    name l.register ++ (codes " " ++ (hex_word l.written ++ (codes " " ++ hex_word l.in_force)))

-- each line with its line feed
abbrev pub lines_text : List RegisterLine → List ℕ
lines_text ls = flat_map (λ l. register_text l ++ codes "\n") ls

abbrev pub side_text : SideLine → List ℕ
side_text l =
    side_name l.side ++ (codes " start " ++ (decimal (bit l.control.start)
    ++ (codes " reset " ++ (decimal (bit l.control.reset)
    ++ (codes " afifo " ++ (decimal (bit l.control.afifo_reset) ++ (codes " hertz " ++ decimal l.hertz)))))))

abbrev pub report_text : Report → List ℕ
report_text r = lines_text r.registers ++ (side_text r.panel ++ (codes "\n" ++ side_text r.camera))
