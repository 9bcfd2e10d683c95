-- Tried without, and with the lemmas in `using`: the check leaves this open.
use Rattle.std.proofs.Common.{arith}
use Rattle.std.proofs.lemmas.Grind.{common_steps}
use Rattle.dma.proofs.Chain.{read_count, read_owned}
use Rattle.dma.proofs.table.DescriptorTable.link.Goals as goal

-- the descriptors that are written say the load, where the loop ends early and where it does not
pub returns-then-place-load-clause-count : goal.returns-then-place-load-clause-count
returns-then-place-load-clause-count c some fits =
    read_count c.args.load.count c.args.load.owned _
    (λ k lt. grind (arith, common_steps, c.loop-place.invariant.chain k))
    some (grind (arith, common_steps))

pub returns-then-place-load-clause-owned : goal.returns-then-place-load-clause-owned
returns-then-place-load-clause-owned c some fits =
    read_owned c.args.load.count c.args.load.owned _
    (λ k lt. grind (arith, common_steps, c.loop-place.invariant.chain k))
    some (grind (arith, common_steps)) c.args.load.within

pub returns-after-loop-place-clause-count : goal.returns-after-loop-place-clause-count
returns-after-loop-place-clause-count c some fits =
    read_count c.args.load.count c.args.load.owned _
    (λ k lt. c.loop-place.invariant.chain k (omega arith))
    some (omega arith)

pub returns-after-loop-place-clause-owned : goal.returns-after-loop-place-clause-owned
returns-after-loop-place-clause-owned c some fits =
    read_owned c.args.load.count c.args.load.owned _
    (λ k lt. c.loop-place.invariant.chain k (omega arith))
    some (omega arith) c.args.load.within
