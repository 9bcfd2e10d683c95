-- What users of a channel count on.
use Rattle.std.specs.Prelude.{◌≡◌, ℕ, ◌<◌, ◌≤◌, true, false, ◌↔◌, ◌≢◌}
use Rattle.dma.specs.Answers.{Answer}
use Rattle.dma.specs.Answers.Answer.{accepted, refused}
use Rattle.dma.specs.States.{Phase, ChannelState}
use Rattle.dma.specs.States.Phase.{idle, ready, running}

-- a load of 1 to the limit's number of descriptors is accepted, and no other
pub record PrepareLaw (count owned : ℕ) (before after : ChannelState) (a : Answer) : Type 0 where
  pub accepts_what_fits : (a ≡ accepted) ↔ ((1 ≤ count) × (count ≤ before.limit))
  pub then_ready : a ≡ accepted → (after.phase ≡ ready count owned) × (after.error ≡ false)
  pub refuses_no_descriptor : (a ≡ refused 5) ↔ (count ≡ 0)
  pub refuses_too_many : (a ≡ refused 6) ↔ (before.limit < count)
  pub then_idle : (n : ℕ) → a ≡ refused n → (after.phase ≡ idle) × (after.error ≡ before.error)
  pub same_limit : after.limit ≡ before.limit

-- a ready channel runs with its load
pub record Starts (count owned : ℕ) (before after : ChannelState) (a : Answer) : Type 0 where
  pub runs : after.phase ≡ running count owned
  pub marked : owned < count → after.error ≡ true
  pub same_mark : count ≤ owned → after.error ≡ before.error
  pub accepts_an_owned_first : (a ≡ accepted) ↔ (0 < owned)
  pub refuses_nothing_owned : (a ≡ refused 7) ↔ (owned ≡ 0)

abbrev pub NotReady : Phase → Type 0
NotReady phase = (count owned : ℕ) → phase ≢ ready count owned

pub record StartLaw (before after : ChannelState) (a : Answer) : Type 0 where
  pub starts : (count owned : ℕ) → before.phase ≡ ready count owned → Starts count owned before after a
  pub refuses_nothing_ready : NotReady before.phase → a ≡ refused 7
  pub then_idle : NotReady before.phase → (after.phase ≡ idle) × (after.error ≡ before.error)
  pub same_limit : after.limit ≡ before.limit

pub record StopLaw (before after : ChannelState) (a : Answer) : Type 0 where
  pub accepts : a ≡ accepted
  pub then_idle : after.phase ≡ idle
  pub same_mark : after.error ≡ before.error
  pub same_limit : after.limit ≡ before.limit
