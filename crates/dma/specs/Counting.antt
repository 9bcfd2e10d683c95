-- The state that a counting channel stands for.
use Rattle.std.specs.Prelude.{◌≡◌, ◌≤◌}
use Rattle.dma.specs.Phased.{phased_channel}
use Rattle.dma.specs.States.{ChannelState}
use Rattle.dma.specs.Stores.{StoreState}
use Rattle.dma.specs.declared.counting.CountingStore.{CountingStore}
use Rattle.dma.specs.declared.load.Load.{Load}
use Rattle.dma.specs.declared.phased.PhasedChannel.{PhasedChannel}

abbrev pub counting_store : CountingStore → StoreState
counting_store s = record { limit = s.limit; count = s.load.count; owned = s.load.owned }

pub counting_least : (s : CountingStore) → 1 ≤ s.limit
counting_least s = s.holds_one

-- the load that is kept is held
abbrev pub HoldsLoad : Load → CountingStore → CountingStore → Type 0
HoldsLoad load before after = after.load ≡ load

abbrev pub counting_channel : PhasedChannel CountingStore → ChannelState
counting_channel = phased_channel counting_store
