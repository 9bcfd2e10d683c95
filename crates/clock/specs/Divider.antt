-- What a divider makes of a source, and which dividers are allowed.
use Rattle.std.specs.Prelude.{ℕ, ◌+◌, ◌*◌, ◌/◌, ◌<◌, ◌≤◌, Bool, cond, ◌||◌, ◌==◌}
use Rattle.clock.specs.declared.divider.ClockDivider.{ClockDivider}

-- the whole part N of the divisor: `div_num`, but 0 means 256 and 1 means 2
abbrev pub whole_part : ClockDivider → ℕ
whole_part d = cond (d.div_num == 0) 256 (cond (d.div_num == 1) 2 d.div_num)

-- there is no fraction where `div_b` or `div_a` is 0
abbrev pub no_fraction : ClockDivider → Bool
no_fraction d = d.div_b == 0 || d.div_a == 0

-- the fraction b/a, which is 0/1 where there is none
abbrev pub numerator : ClockDivider → ℕ
numerator d = cond (no_fraction d) 0 d.div_b

abbrev pub denominator : ClockDivider → ℕ
denominator d = cond (no_fraction d) 1 d.div_a

-- the divisor N + b/a is (N a + b)/a; this is its upper part
abbrev pub divisor : ClockDivider → ℕ
divisor d = whole_part d * denominator d + numerator d

-- the output in whole hertz: source / (N + b/a), rounded down
abbrev pub hertz : ℕ → ClockDivider → ℕ
hertz source d = source * denominator d / divisor d

-- the output is not above a frequency: judged unrounded, by whole products
abbrev pub NotAbove : ℕ → ClockDivider → ℕ → Type 0
NotAbove source d frequency = source * denominator d ≤ frequency * divisor d

-- N is from 2 to 256, and there is no fraction, or one below 1 with a denominator of at most 63
pub record Allowed (d : ClockDivider) : Type 0 where
  pub at_least_2 : 2 ≤ whole_part d
  pub at_most_256 : whole_part d ≤ 256
  pub below_1 : numerator d < denominator d
  pub at_most_63 : denominator d ≤ 63
