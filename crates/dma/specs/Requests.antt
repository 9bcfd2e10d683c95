-- What a channel answers to a request, and its state after it.
use Rattle.std.specs.Prelude.{ℕ, false, cond, ◌||◌, ◌==◌, nat_lt}
use Rattle.dma.specs.Answers.{Answer}
use Rattle.dma.specs.Answers.Answer.{accepted, refused}
use Rattle.dma.specs.States.{Phase, ChannelState}
use Rattle.dma.specs.States.Phase.{idle, ready, running}
use Rattle.dma.specs.declared.channel.Request.{Request}
use Rattle.dma.specs.declared.channel.Request.TheVariants.{Prepare, Start, Stop}
use Rattle.dma.specs.declared.load.Load.{Load}

-- a load of no descriptor is too small, and one of more than the limit is too large
abbrev pub prepare_answer : ℕ → ℕ → Answer
prepare_answer count limit = cond (count == 0) (refused 5) (cond (nat_lt limit count) (refused 6) accepted)

-- the DMA has to own the first descriptor of a load
abbrev pub ready_answer : ℕ → Answer
ready_answer owned = cond (owned == 0) (refused 7) accepted

-- only a ready channel starts
abbrev pub start_answer : Phase → Answer
start_answer idle = refused 7
start_answer (ready count owned) = ready_answer owned
start_answer (running count owned) = refused 7

abbrev pub answer : Request → ChannelState → Answer
answer (Prepare load) s = prepare_answer load.count s.limit
answer Start s = start_answer s.phase
answer Stop s = accepted

-- the load is let go of, and the mark stays
abbrev pub idled : ChannelState → ChannelState
idled s = record { limit = s.limit; error = s.error; phase = idle }

-- an accepted load clears the mark
abbrev pub prepared : Load → ChannelState → ChannelState
prepared load s = record { limit = s.limit; error = false; phase = ready load.count load.owned }

abbrev pub after_prepare : Answer → Load → ChannelState → ChannelState
after_prepare accepted load s = prepared load s
after_prepare (refused n) load s = idled s

-- a load that the DMA does not own to its end sets the mark
abbrev pub after_start : Phase → ChannelState → ChannelState
after_start idle s = idled s
after_start (ready count owned) s =
    record { limit = s.limit; error = s.error || nat_lt owned count; phase = running count owned }
after_start (running count owned) s = idled s

abbrev pub after : Request → ChannelState → ChannelState
after (Prepare load) s = after_prepare (prepare_answer load.count s.limit) load s
after Start s = after_start s.phase s
after Stop s = idled s
