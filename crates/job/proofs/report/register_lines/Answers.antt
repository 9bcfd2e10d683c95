-- Tried without, and with the lemmas in `using`: the check leaves this open.
use Rattle.std.proofs.Common.{rules, refl}
use Rattle.board.specs.Table.{registers}
use Rattle.board.specs.declared.register.Register.TheVariants.{LcdClock}
use Rattle.job.specs.Reports.{register_line, register_lines}
use Rattle.job.proofs.Mapped.{mapped_same}
use Rattle.job.proofs.report.register_lines.Goals as goal

pub returns : goal.returns
unfolding register_lines
returns g c =
    mapped_same _ (register_line (g.B.Board.meaning c.args.board.now)) _ (λ r l q called. search rules) LcdClock registers
    c.map.result _ refl c.map.ensures.items
