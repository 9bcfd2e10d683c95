-- The registers: the board's order, the side and the manual's name of each.
use Rattle.std.specs.Prelude.{ℕ, Bool, List, take, drop, codes, ◌==◌}
use Rattle.board.specs.Table.{registers}
use Rattle.board.specs.declared.register.Register.{Register}
use Rattle.board.specs.declared.register.Register.TheVariants.{LcdClock, LcdUser, LcdMisc, LcdCtrl, LcdCtrl1, LcdCtrl2, LcdRgbYuv, LcdDlyMode, LcdDataDoutMode, CamCtrl, CamCtrl1, CamRgbYuv}
use Rattle.board.specs.declared.register.Side.{Side}
use Rattle.board.specs.declared.register.Side.TheVariants.{Panel, Camera}

-- the place in the board's order
abbrev pub index : Register → ℕ
index LcdClock = 0
index LcdUser = 1
index LcdMisc = 2
index LcdCtrl = 3
index LcdCtrl1 = 4
index LcdCtrl2 = 5
index LcdRgbYuv = 6
index LcdDlyMode = 7
index LcdDataDoutMode = 8
index CamCtrl = 9
index CamCtrl1 = 10
index CamRgbYuv = 11

abbrev pub same_register : Register → Register → Bool
same_register q r = index q == index r

abbrev pub side : Register → Side
side LcdClock = Panel
side LcdUser = Panel
side LcdMisc = Panel
side LcdCtrl = Panel
side LcdCtrl1 = Panel
side LcdCtrl2 = Panel
side LcdRgbYuv = Panel
side LcdDlyMode = Panel
side LcdDataDoutMode = Panel
side CamCtrl = Camera
side CamCtrl1 = Camera
side CamRgbYuv = Camera

-- the registers of a side: the place of the first, how many there are, and which
abbrev pub first : Side → ℕ
first Panel = 0
first Camera = 9

abbrev pub count : Side → ℕ
count Panel = 9
count Camera = 3

abbrev pub side_registers : Side → List Register
side_registers s = take (count s) (drop (first s) registers)

abbrev pub name : Register → List ℕ
name LcdClock = codes "LCD_CLOCK"
name LcdUser = codes "LCD_USER"
name LcdMisc = codes "LCD_MISC"
name LcdCtrl = codes "LCD_CTRL"
name LcdCtrl1 = codes "LCD_CTRL1"
name LcdCtrl2 = codes "LCD_CTRL2"
name LcdRgbYuv = codes "LCD_RGB_YUV"
name LcdDlyMode = codes "LCD_DLY_MODE"
name LcdDataDoutMode = codes "LCD_DATA_DOUT_MODE"
name CamCtrl = codes "CAM_CTRL"
name CamCtrl1 = codes "CAM_CTRL1"
name CamRgbYuv = codes "CAM_RGB_YUV"
