-- Tried without, and with the lemmas in `using`: the check leaves this open.
use Rattle.std.proofs.Common.{◌-◌, ◌^◌, ap, ◌∙◌, arith}
use lib.Bits.{bit_and}
use Rattle.std.proofs.lemmas.Nat.{one_shl, and_mask, mod_below, pow_pos}
use Rattle.board.proofs.field.Bits.cut.Goals as goal

pub returns : goal.returns
returns c =
    let is =
    ap (λ n. bit_and c.args.value (n - 1)) (one_shl c.args.self.width 32 (omega arith))
    ∙ and_mask c.args.value c.args.self.width in
    record { value = is; cut = omega (arith, is, mod_below c.args.value (2 ^ c.args.self.width) (pow_pos c.args.self.width)) }
