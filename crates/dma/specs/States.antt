-- The state of a channel: how many descriptors it can hold, its error mark, and what it is doing.
use Rattle.std.specs.Prelude.{ℕ, Bool, false}

-- a load is told by its count and how many of it the DMA owns
pub data Phase : Type 0 where
  idle : Phase
  ready : ℕ → ℕ → Phase
  running : ℕ → ℕ → Phase

pub record ChannelState : Type 0 where
  pub limit : ℕ
  pub error : Bool
  pub phase : Phase

-- nothing is to be carried, and the mark is clear
abbrev pub idle_channel : ℕ → ChannelState
idle_channel limit = record { limit = limit; error = false; phase = Phase.idle }
