-- An answer of the search as one u32, for callers in C and Rust.
use Rattle.std.specs.Prelude.{ℕ, ◌+◌, ◌-◌, ◌*◌, ◌/◌, ◌%◌, ◌^◌, cond, List, [], ◌∷◌, nat_le}
use Rattle.clock.specs.Search.{Answer}
use Rattle.clock.specs.Search.Answer.{setting, refused}

-- the three sources of LCD_CAM, in the order of clk_sel: the crystal, PLL_D2 and the crypto clock
abbrev pub lcd_cam_sources : ℕ → ℕ → ℕ → List ℕ
lcd_cam_sources xtal pll_d2 crypto = xtal ∷ (pll_d2 ∷ (crypto ∷ []))

-- bits 0 to 7 have `div_num`, 8 to 13 `div_b`, 14 to 19 `div_a`, 20 and 21 the index plus 1;
-- a refusal is 2^31 plus its number
abbrev pub packed : Answer → ℕ
packed (setting i d) = d.div_num + d.div_b * 2 ^ 8 + d.div_a * 2 ^ 14 + (i + 1) * 2 ^ 20
packed (refused n) = 2 ^ 31 + n

abbrev pub unpacked : ℕ → Answer
unpacked w =
    cond (nat_le (2 ^ 31) w) (refused (w - 2 ^ 31))
    (setting (w / 2 ^ 20 % 2 ^ 2 - 1)
    (record { div_num = w % 2 ^ 8; div_b = w / 2 ^ 8 % 2 ^ 6; div_a = w / 2 ^ 14 % 2 ^ 6 }))
