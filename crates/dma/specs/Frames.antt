-- How many descriptors the bytes of a frame take, and its view.
use Rattle.std.specs.Prelude.{ℕ, ◌+◌, ◌*◌, ◌/◌, ◌<◌, ◌≤◌, min}
use Rattle.dma.specs.declared.frame.FrameBuffer.{FrameBuffer}
use Rattle.dma.specs.declared.frame.FrameView.{FrameView}

-- a descriptor holds 4,092 bytes
abbrev pub descriptors_for : ℕ → ℕ
descriptors_for bytes = (bytes + 4091) / 4092

-- a load counts by 32 bits
abbrev pub frame_count : ℕ → ℕ
frame_count bytes = min (descriptors_for bytes) 4294967295

-- what users count on: the descriptors hold all bytes, unless 32 bits cannot count so many, and no fewer would do
pub record FrameLaw (bytes count : ℕ) : Type 0 where
  pub holds_all : count < 4294967295 → bytes ≤ 4092 * count
  pub no_fewer_do : (k : ℕ) → bytes ≤ 4092 * k → count ≤ k
  pub counts_by_32_bits : count ≤ 4294967295

abbrev pub frame_opened : FrameBuffer → FrameView
frame_opened b = record { frame = b }

abbrev pub frame_closed : FrameView → FrameBuffer
frame_closed v = v.frame
