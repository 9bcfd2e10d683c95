-- The state that a channel over a store stands for.
use Rattle.dma.specs.States as states
use Rattle.dma.specs.States.{ChannelState}
use Rattle.dma.specs.States.Phase.{idle, ready, running}
use Rattle.dma.specs.Stores.{StoreState}
use Rattle.dma.specs.declared.phased.Phase.{Phase}
use Rattle.dma.specs.declared.phased.Phase.TheVariants.{Idle, Ready, Running}
use Rattle.dma.specs.declared.phased.PhasedChannel.{PhasedChannel}

-- the load is what the store says
abbrev pub phase_of : Phase → StoreState → states.Phase
phase_of Idle s = idle
phase_of Ready s = ready s.count s.owned
phase_of Running s = running s.count s.owned

-- the state of a channel over a store that says this
abbrev pub phased_channel : {S : Type 0} → (S → StoreState) → PhasedChannel S → ChannelState
phased_channel says c =
    record { limit = (says c.store).limit; error = c.error; phase = phase_of c.phase (says c.store) }

abbrev pub store_of : {S : Type 0} → PhasedChannel S → S
store_of c = c.store
