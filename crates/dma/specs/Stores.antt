-- What the store of a channel's load says, and what a request makes of it.
use Rattle.std.specs.Prelude.{◌≡◌, ℕ, ◌≤◌}
use Rattle.dma.specs.Answers.{Answer}
use Rattle.dma.specs.Answers.Answer.{accepted, refused}
use Rattle.dma.specs.declared.channel.Request.{Request}
use Rattle.dma.specs.declared.channel.Request.TheVariants.{Prepare, Start, Stop}
use Rattle.dma.specs.declared.load.Load.{Load}

-- how many descriptors a store can hold, and the load that it kept last
pub record StoreState : Type 0 where
  pub limit : ℕ
  pub count : ℕ
  pub owned : ℕ

-- a load of 1 to the limit's number of descriptors
pub record Fits (load : Load) (s : StoreState) : Type 0 where
  pub some : 1 ≤ load.count
  pub within : load.count ≤ s.limit

-- an accepted load is kept, and nothing else changes a store
abbrev pub StoreAfter : {S : Type 0} → (Load → S → S → Type 0) → Request → Answer → S → S → Type 0
StoreAfter Keeps (Prepare load) accepted before after = Keeps load before after
StoreAfter Keeps (Prepare load) (refused n) before after = after ≡ before
StoreAfter Keeps Start a before after = after ≡ before
StoreAfter Keeps Stop a before after = after ≡ before
