-- The words of a side's registers: reading one, and replacing one.
use Rattle.std.specs.Prelude.{ℕ, cond}
use Rattle.board.specs.Registers.{same_register}
use Rattle.board.specs.declared.register.Register.{Register}
use Rattle.board.specs.declared.register.Register.TheVariants.{LcdClock, LcdUser, LcdMisc, LcdCtrl, LcdCtrl1, LcdCtrl2, LcdRgbYuv, LcdDlyMode, LcdDataDoutMode, CamCtrl, CamCtrl1, CamRgbYuv}
use Rattle.board.specs.declared.words.PanelWords.{PanelWords}
use Rattle.board.specs.declared.words.CameraWords.{CameraWords}

-- the word of each register, with that of r replaced by w
abbrev pub replaced : Register → ℕ → (Register → ℕ) → Register → ℕ
replaced r w old q = cond (same_register q r) w (old q)

-- the word of a register; 0 for one of the camera's
abbrev pub panel_word : Register → PanelWords → ℕ
panel_word LcdClock ws = ws.clock
panel_word LcdUser ws = ws.user
panel_word LcdMisc ws = ws.misc
panel_word LcdCtrl ws = ws.ctrl
panel_word LcdCtrl1 ws = ws.ctrl1
panel_word LcdCtrl2 ws = ws.ctrl2
panel_word LcdRgbYuv ws = ws.rgb_yuv
panel_word LcdDlyMode ws = ws.dly_mode
panel_word LcdDataDoutMode ws = ws.data_dout_mode
panel_word _ ws = 0

abbrev pub panel_words : (Register → ℕ) → PanelWords
panel_words at =
    record {
      clock = at LcdClock;
      user = at LcdUser;
      misc = at LcdMisc;
      ctrl = at LcdCtrl;
      ctrl1 = at LcdCtrl1;
      ctrl2 = at LcdCtrl2;
      rgb_yuv = at LcdRgbYuv;
      dly_mode = at LcdDlyMode;
      data_dout_mode = at LcdDataDoutMode;
    }

abbrev pub with_panel_word : Register → ℕ → PanelWords → PanelWords
with_panel_word r w ws = panel_words (replaced r w (λ q. panel_word q ws))

-- the word of a register; 0 for one of the panel's
abbrev pub camera_word : Register → CameraWords → ℕ
camera_word CamCtrl ws = ws.ctrl
camera_word CamCtrl1 ws = ws.ctrl1
camera_word CamRgbYuv ws = ws.rgb_yuv
camera_word _ ws = 0

abbrev pub camera_words : (Register → ℕ) → CameraWords
camera_words at =
    record {
      ctrl = at CamCtrl;
      ctrl1 = at CamCtrl1;
      rgb_yuv = at CamRgbYuv;
    }

abbrev pub with_camera_word : Register → ℕ → CameraWords → CameraWords
with_camera_word r w ws = camera_words (replaced r w (λ q. camera_word q ws))
