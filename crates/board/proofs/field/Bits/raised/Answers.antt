-- Tried without, and with the lemmas in `using`: the check leaves this open.
use Rattle.std.proofs.Common.{arith}
use Rattle.std.proofs.lemmas.Nat.{shl_whole}
use Rattle.board.proofs.field.Bits.raised.Goals as goal

pub returns : goal.returns
returns c = shl_whole c.args.value c.args.self.width c.args.self.low 32 c.requires (omega arith)
