-- The clock of a side: the output of its setting in force.
use Rattle.std.specs.Prelude.{ℕ, cond, ◌==◌}
use Rattle.clock.specs.Divider.{hertz}
use Rattle.board.specs.Fields.{field}
use Rattle.board.specs.States.{BoardState, word_in_force}
use Rattle.board.specs.declared.inspect.ClockFields.{ClockFields}
use Rattle.board.specs.declared.field.Field.TheVariants.{LcdClkSel, LcdClkmDivNum, LcdClkmDivB, LcdClkmDivA, CamClkSel, CamClkmDivNum, CamClkmDivB, CamClkmDivA}
use Rattle.board.specs.declared.register.Register.{Register}
use Rattle.board.specs.declared.register.Register.TheVariants.{LcdClock, CamCtrl}
use Rattle.board.specs.declared.register.Side.{Side}
use Rattle.board.specs.declared.register.Side.TheVariants.{Panel, Camera}
use Rattle.board.specs.declared.sources.Sources.{Sources}

-- clk_sel 1 to 3 selects a source, 0 none
abbrev pub selected : ℕ → Sources → ℕ
selected k s = cond (k == 1) s.xtal (cond (k == 2) s.pll_d2 (cond (k == 3) s.crypto 0))

-- the whole hertz that the clock settings in a word make
abbrev pub clock_of : Sources → ℕ → ℕ → ℕ → ℕ → ℕ
clock_of s k n b a = hertz (selected k s) (record { div_num = n; div_b = b; div_a = a })

-- the fields of a side's clock setting, which lie in one register
abbrev pub clock_fields : Side → ClockFields
clock_fields Panel = record { clk_sel = LcdClkSel; div_num = LcdClkmDivNum; div_b = LcdClkmDivB; div_a = LcdClkmDivA }
clock_fields Camera = record { clk_sel = CamClkSel; div_num = CamClkmDivNum; div_b = CamClkmDivB; div_a = CamClkmDivA }

abbrev pub clock_in : Side → Sources → ℕ → ℕ
clock_in x s w =
    let fields = clock_fields x in
    clock_of s (field fields.clk_sel w) (field fields.div_num w) (field fields.div_b w) (field fields.div_a w)

abbrev pub clock_register : Side → Register
clock_register Panel = LcdClock
clock_register Camera = CamCtrl

abbrev pub clock_word : Side → BoardState → ℕ
clock_word x b = word_in_force (clock_register x) b

-- the whole hertz of a side's clock
abbrev pub side_hertz : Side → BoardState → ℕ
side_hertz s b = clock_in s b.sources (clock_word s b)
