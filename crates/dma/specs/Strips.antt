-- Taking strips one at a time.
use Rattle.std.specs.Prelude.{◌≡◌, ℕ, zero, suc, ◌+◌, ◌<◌, ◌≤◌, min, Bool, false, cond, IsTrue, ◌↔◌, nat_lt}
use Rattle.dma.specs.declared.strips.StripBuffer.{StripBuffer}
use Rattle.dma.specs.declared.strips.StripView.{StripView}
use Rattle.dma.specs.declared.strips.StripsTaken.{StripsTaken}

-- how many strips a buffer has, how many of them are free, and its tag
abbrev pub strip_count : StripBuffer → ℕ
strip_count b = b.load.count

abbrev pub free_count : StripBuffer → ℕ
free_count b = b.load.owned

abbrev pub buffer_tag : StripBuffer → ℕ
buffer_tag b = b.tag

abbrev pub view_tag : StripView → ℕ
view_tag v = buffer_tag v.buffer

-- none is taken at first
abbrev pub strips_opened : StripBuffer → StripView
strips_opened b = record { buffer = b; taken = 0 }

abbrev pub strips : StripView → ℕ
strips v = strip_count v.buffer

-- there is one to take until all are taken
abbrev pub one_left : StripView → Bool
one_left v = nat_lt v.taken (strips v)

abbrev pub one_taken : StripView → StripView
one_taken v = record { buffer = v.buffer; taken = cond (one_left v) (v.taken + 1) v.taken }

abbrev pub strips_closed : StripView → StripsTaken
strips_closed v = record { taken = v.taken; tag = view_tag v }

-- what users count on in one call of `take`
pub record TakeLaw (before after : StripView) (yes : Bool) : Type 0 where
  pub never_more_than_strips : before.taken ≤ strips before → after.taken ≤ strips before
  pub yes_while_one_is_left : IsTrue yes ↔ (before.taken < strips before)
  pub yes_takes_one : IsTrue yes → after.taken ≡ before.taken + 1
  pub no_changes_nothing : yes ≡ false → after ≡ before
  pub same_buffer : after.buffer ≡ before.buffer

-- the view after so many calls of `take`
abbrev pub after_takes : ℕ → StripView → StripView
after_takes zero v = v
after_takes (suc n) v = one_taken (after_takes n v)

-- what users count on in all calls of `take`: each takes one strip, until all are taken
abbrev pub TakesLaw : StripView → Type 0
TakesLaw v = (n : ℕ) → (after_takes n v).taken ≡ min n (strips v)
