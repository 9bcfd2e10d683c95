-- Tried without, and with the lemmas in `using`: the check leaves this open.
use Rattle.std.proofs.Common.{arith}
use Rattle.board.proofs.Parts.{put_fits}
use Rattle.board.proofs.field.Bits.put.Goals as goal

pub overflow_add-result : goal.overflow_add-result
overflow_add-result c =
    let bits = c.args.self in
    rw (c.raised-old.ensures, c.part.ensures.value, c.raised-new.ensures, c.cut.ensures.value)
    (omega (arith, put_fits bits.low bits.width c.args.value c.args.word 32 (omega arith) c.ranges.word.fits))
