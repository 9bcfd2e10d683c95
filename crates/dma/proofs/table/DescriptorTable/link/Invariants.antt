use Rattle.std.proofs.Common.{◌≡◌, ◌≤◌, ℕ, ◌<◌, get_or, length, drop}
use Rattle.dma.specs.Chains.{linked, unlinked}
use Rattle.dma.proofs.table.DescriptorTable.link.Given as goal

-- the descriptors so far are those of the chain, and the others stay
abbrev pub invariant-loop-place : goal.invariant-loop-place
invariant-loop-place l =
    record {
      chain : (k : ℕ) → k < l.place → get_or l.descriptor-items k unlinked ≡ linked l.load.count l.load.owned k;
      within : l.place ≤ l.load.count;
      size : length l.descriptor-items ≡ 256;
      others : drop l.place l.descriptor-items ≡ drop l.place l.fn.self.descriptors;
    }
