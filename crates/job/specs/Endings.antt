-- A line without its ending.
use Rattle.std.specs.Prelude.{ℕ, ◌-◌, cond, List, length, take, ◌==◌, slice_index}

-- without the last byte, where that is b
unfoldable pub without_last : ℕ → List ℕ → List ℕ
without_last b line = cond (slice_index line (length line - 1) == b) (take (length line - 1) line) line

-- without a line feed, 10, at the end, and then without a carriage return, 13, at the end
abbrev pub without_ending : List ℕ → List ℕ
without_ending line = without_last 13 (without_last 10 line)
