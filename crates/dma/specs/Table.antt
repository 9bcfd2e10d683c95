-- The state that a table channel stands for, and what a request does to its descriptors.
use Rattle.std.specs.Prelude.{List}
use Rattle.dma.specs.Answers.{Answer}
use Rattle.dma.specs.Chains.{chain_count, chain_owned, Written}
use Rattle.dma.specs.Phased.{phased_channel}
use Rattle.dma.specs.States.{ChannelState}
use Rattle.dma.specs.Stores.{StoreState, StoreAfter}
use Rattle.dma.specs.declared.channel.Request.{Request}
use Rattle.dma.specs.declared.load.Load.{Load}
use Rattle.dma.specs.declared.phased.PhasedChannel.{PhasedChannel}
use Rattle.dma.specs.declared.table.Descriptor.{Descriptor}
use Rattle.dma.specs.declared.table.DescriptorTable.{DescriptorTable}

-- the load is what the descriptors say
abbrev pub descriptor_table : DescriptorTable → StoreState
descriptor_table t = record { limit = 256; count = chain_count t.descriptors; owned = chain_owned t.descriptors }

-- the load that is kept is written
abbrev pub WritesLoad : Load → DescriptorTable → DescriptorTable → Type 0
WritesLoad load before after = Written load.count load.owned before.descriptors after.descriptors

abbrev pub table_channel : PhasedChannel DescriptorTable → ChannelState
table_channel = phased_channel descriptor_table

abbrev pub table_descriptors : PhasedChannel DescriptorTable → List Descriptor
table_descriptors c = c.store.descriptors

-- an accepted load is written, and nothing else is
abbrev pub DescriptorsAfter : Request → Answer → List Descriptor → List Descriptor → Type 0
DescriptorsAfter = StoreAfter (λ load. Written load.count load.owned)
