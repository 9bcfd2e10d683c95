-- The register map: where each field lies and what it is for, and the fields of each register from the lowest bit up.
use Rattle.std.specs.Prelude.{ℕ, List, [], ◌∷◌}
use Rattle.board.specs.declared.register.Register.{Register}
use Rattle.board.specs.declared.register.Register.TheVariants.{LcdClock, LcdUser, LcdMisc, LcdCtrl, LcdCtrl1, LcdCtrl2, LcdRgbYuv, LcdDlyMode, LcdDataDoutMode, CamCtrl, CamCtrl1, CamRgbYuv}
use Rattle.board.specs.declared.field.Place.{Place}
use Rattle.board.specs.declared.field.Role.{Role}
use Rattle.board.specs.declared.field.Role.TheVariants.{Setting, ClockSetting, Update, Start, Reset, AfifoReset}
use Rattle.board.specs.declared.field.Field.{Field}
use Rattle.board.specs.declared.field.Field.TheVariants.{LcdClkcntN, LcdClkEquSysclk, LcdCkIdleEdge, LcdCkOutEdge, LcdClkmDivNum, LcdClkmDivB, LcdClkmDivA, LcdClkSel, LcdClkEn, LcdAlwaysOutEn, Lcd8bitsOrder, LcdUpdate, LcdBitOrder, LcdByteOrder, Lcd2byteEn, LcdDout, LcdDummy, LcdCmd, LcdStart, LcdReset, LcdDummyCyclelen, LcdCmd2CycleEn, LcdAfifoThresholdNum, LcdVfkCyclelen, LcdVbkCyclelen, LcdNextFrameEn, LcdBkEn, LcdAfifoReset, LcdCdDataSet, LcdCdDummySet, LcdCdCmdSet, LcdCdIdleEdge, LcdHbFront, LcdVaHeight, LcdVtHeight, LcdRgbModeEn, LcdVbFront, LcdHaWidth, LcdHtWidth, LcdVsyncWidth, LcdVsyncIdlePol, LcdDeIdlePol, LcdHsBlankEn, LcdHsyncWidth, LcdHsyncIdlePol, LcdHsyncPosition, LcdConvBypass, LcdCdMode, LcdDeMode, LcdHsyncMode, LcdVsyncMode, LcdDout0Mode, LcdDout1Mode, LcdDout2Mode, LcdDout3Mode, LcdDout4Mode, LcdDout5Mode, LcdDout6Mode, LcdDout7Mode, LcdDout8Mode, LcdDout9Mode, LcdDout10Mode, LcdDout11Mode, LcdDout12Mode, LcdDout13Mode, LcdDout14Mode, LcdDout15Mode, CamStopEn, CamVsyncFilterThres, CamUpdate, CamByteOrder, CamBitOrder, CamLineIntEn, CamVsEofEn, CamClkmDivNum, CamClkmDivB, CamClkmDivA, CamClkSel, CamRecDataBytelen, CamLineIntNum, CamClkInv, CamVsyncFilterEn, Cam2byteEn, CamDeInv, CamHsyncInv, CamVsyncInv, CamVhDeModeEn, CamStart, CamReset, CamAfifoReset, CamConvBypass}

abbrev pub at : Register → ℕ → ℕ → Role → Place
at r l w k = record { register = r; low = l; width = w; role = k }

-- register, low bit, width, role
abbrev pub place : Field → Place
place LcdClkcntN = at LcdClock 0 6 Setting
place LcdClkEquSysclk = at LcdClock 6 1 Setting
place LcdCkIdleEdge = at LcdClock 7 1 Setting
place LcdCkOutEdge = at LcdClock 8 1 Setting
place LcdClkmDivNum = at LcdClock 9 8 ClockSetting
place LcdClkmDivB = at LcdClock 17 6 ClockSetting
place LcdClkmDivA = at LcdClock 23 6 ClockSetting
place LcdClkSel = at LcdClock 29 2 ClockSetting
place LcdClkEn = at LcdClock 31 1 Setting
place LcdAlwaysOutEn = at LcdUser 13 1 Setting
place Lcd8bitsOrder = at LcdUser 19 1 Setting
place LcdUpdate = at LcdUser 20 1 Update
place LcdBitOrder = at LcdUser 21 1 Setting
place LcdByteOrder = at LcdUser 22 1 Setting
place Lcd2byteEn = at LcdUser 23 1 Setting
place LcdDout = at LcdUser 24 1 Setting
place LcdDummy = at LcdUser 25 1 Setting
place LcdCmd = at LcdUser 26 1 Setting
place LcdStart = at LcdUser 27 1 Start
place LcdReset = at LcdUser 28 1 Reset
place LcdDummyCyclelen = at LcdUser 29 2 Setting
place LcdCmd2CycleEn = at LcdUser 31 1 Setting
place LcdAfifoThresholdNum = at LcdMisc 1 5 Setting
place LcdVfkCyclelen = at LcdMisc 6 6 Setting
place LcdVbkCyclelen = at LcdMisc 12 13 Setting
place LcdNextFrameEn = at LcdMisc 25 1 Setting
place LcdBkEn = at LcdMisc 26 1 Setting
place LcdAfifoReset = at LcdMisc 27 1 AfifoReset
place LcdCdDataSet = at LcdMisc 28 1 Setting
place LcdCdDummySet = at LcdMisc 29 1 Setting
place LcdCdCmdSet = at LcdMisc 30 1 Setting
place LcdCdIdleEdge = at LcdMisc 31 1 Setting
place LcdHbFront = at LcdCtrl 0 11 Setting
place LcdVaHeight = at LcdCtrl 11 10 Setting
place LcdVtHeight = at LcdCtrl 21 10 Setting
place LcdRgbModeEn = at LcdCtrl 31 1 Setting
place LcdVbFront = at LcdCtrl1 0 8 Setting
place LcdHaWidth = at LcdCtrl1 8 12 Setting
place LcdHtWidth = at LcdCtrl1 20 12 Setting
place LcdVsyncWidth = at LcdCtrl2 0 7 Setting
place LcdVsyncIdlePol = at LcdCtrl2 7 1 Setting
place LcdDeIdlePol = at LcdCtrl2 8 1 Setting
place LcdHsBlankEn = at LcdCtrl2 9 1 Setting
place LcdHsyncWidth = at LcdCtrl2 16 7 Setting
place LcdHsyncIdlePol = at LcdCtrl2 23 1 Setting
place LcdHsyncPosition = at LcdCtrl2 24 8 Setting
place LcdConvBypass = at LcdRgbYuv 31 1 Setting
place LcdCdMode = at LcdDlyMode 0 2 Setting
place LcdDeMode = at LcdDlyMode 2 2 Setting
place LcdHsyncMode = at LcdDlyMode 4 2 Setting
place LcdVsyncMode = at LcdDlyMode 6 2 Setting
place LcdDout0Mode = at LcdDataDoutMode 0 2 Setting
place LcdDout1Mode = at LcdDataDoutMode 2 2 Setting
place LcdDout2Mode = at LcdDataDoutMode 4 2 Setting
place LcdDout3Mode = at LcdDataDoutMode 6 2 Setting
place LcdDout4Mode = at LcdDataDoutMode 8 2 Setting
place LcdDout5Mode = at LcdDataDoutMode 10 2 Setting
place LcdDout6Mode = at LcdDataDoutMode 12 2 Setting
place LcdDout7Mode = at LcdDataDoutMode 14 2 Setting
place LcdDout8Mode = at LcdDataDoutMode 16 2 Setting
place LcdDout9Mode = at LcdDataDoutMode 18 2 Setting
place LcdDout10Mode = at LcdDataDoutMode 20 2 Setting
place LcdDout11Mode = at LcdDataDoutMode 22 2 Setting
place LcdDout12Mode = at LcdDataDoutMode 24 2 Setting
place LcdDout13Mode = at LcdDataDoutMode 26 2 Setting
place LcdDout14Mode = at LcdDataDoutMode 28 2 Setting
place LcdDout15Mode = at LcdDataDoutMode 30 2 Setting
place CamStopEn = at CamCtrl 0 1 Setting
place CamVsyncFilterThres = at CamCtrl 1 3 Setting
place CamUpdate = at CamCtrl 4 1 Update
place CamByteOrder = at CamCtrl 5 1 Setting
place CamBitOrder = at CamCtrl 6 1 Setting
place CamLineIntEn = at CamCtrl 7 1 Setting
place CamVsEofEn = at CamCtrl 8 1 Setting
place CamClkmDivNum = at CamCtrl 9 8 ClockSetting
place CamClkmDivB = at CamCtrl 17 6 ClockSetting
place CamClkmDivA = at CamCtrl 23 6 ClockSetting
place CamClkSel = at CamCtrl 29 2 ClockSetting
place CamRecDataBytelen = at CamCtrl1 0 16 Setting
place CamLineIntNum = at CamCtrl1 16 6 Setting
place CamClkInv = at CamCtrl1 22 1 Setting
place CamVsyncFilterEn = at CamCtrl1 23 1 Setting
place Cam2byteEn = at CamCtrl1 24 1 Setting
place CamDeInv = at CamCtrl1 25 1 Setting
place CamHsyncInv = at CamCtrl1 26 1 Setting
place CamVsyncInv = at CamCtrl1 27 1 Setting
place CamVhDeModeEn = at CamCtrl1 28 1 Setting
place CamStart = at CamCtrl1 29 1 Start
place CamReset = at CamCtrl1 30 1 Reset
place CamAfifoReset = at CamCtrl1 31 1 AfifoReset
place CamConvBypass = at CamRgbYuv 31 1 Setting

-- the fields of a register, from the lowest bit up
abbrev pub fields_of : Register → List Field
fields_of LcdClock = LcdClkcntN ∷ (LcdClkEquSysclk ∷ (LcdCkIdleEdge ∷ (LcdCkOutEdge ∷ (LcdClkmDivNum ∷ (LcdClkmDivB ∷ (LcdClkmDivA ∷ (LcdClkSel ∷ (LcdClkEn ∷ []))))))))
fields_of LcdUser = LcdAlwaysOutEn ∷ (Lcd8bitsOrder ∷ (LcdUpdate ∷ (LcdBitOrder ∷ (LcdByteOrder ∷ (Lcd2byteEn ∷ (LcdDout ∷ (LcdDummy ∷ (LcdCmd ∷ (LcdStart ∷ (LcdReset ∷ (LcdDummyCyclelen ∷ (LcdCmd2CycleEn ∷ []))))))))))))
fields_of LcdMisc = LcdAfifoThresholdNum ∷ (LcdVfkCyclelen ∷ (LcdVbkCyclelen ∷ (LcdNextFrameEn ∷ (LcdBkEn ∷ (LcdAfifoReset ∷ (LcdCdDataSet ∷ (LcdCdDummySet ∷ (LcdCdCmdSet ∷ (LcdCdIdleEdge ∷ [])))))))))
fields_of LcdCtrl = LcdHbFront ∷ (LcdVaHeight ∷ (LcdVtHeight ∷ (LcdRgbModeEn ∷ [])))
fields_of LcdCtrl1 = LcdVbFront ∷ (LcdHaWidth ∷ (LcdHtWidth ∷ []))
fields_of LcdCtrl2 = LcdVsyncWidth ∷ (LcdVsyncIdlePol ∷ (LcdDeIdlePol ∷ (LcdHsBlankEn ∷ (LcdHsyncWidth ∷ (LcdHsyncIdlePol ∷ (LcdHsyncPosition ∷ []))))))
fields_of LcdRgbYuv = LcdConvBypass ∷ []
fields_of LcdDlyMode = LcdCdMode ∷ (LcdDeMode ∷ (LcdHsyncMode ∷ (LcdVsyncMode ∷ [])))
fields_of LcdDataDoutMode = LcdDout0Mode ∷ (LcdDout1Mode ∷ (LcdDout2Mode ∷ (LcdDout3Mode ∷ (LcdDout4Mode ∷ (LcdDout5Mode ∷ (LcdDout6Mode ∷ (LcdDout7Mode ∷ (LcdDout8Mode ∷ (LcdDout9Mode ∷ (LcdDout10Mode ∷ (LcdDout11Mode ∷ (LcdDout12Mode ∷ (LcdDout13Mode ∷ (LcdDout14Mode ∷ (LcdDout15Mode ∷ [])))))))))))))))
fields_of CamCtrl = CamStopEn ∷ (CamVsyncFilterThres ∷ (CamUpdate ∷ (CamByteOrder ∷ (CamBitOrder ∷ (CamLineIntEn ∷ (CamVsEofEn ∷ (CamClkmDivNum ∷ (CamClkmDivB ∷ (CamClkmDivA ∷ (CamClkSel ∷ []))))))))))
fields_of CamCtrl1 = CamRecDataBytelen ∷ (CamLineIntNum ∷ (CamClkInv ∷ (CamVsyncFilterEn ∷ (Cam2byteEn ∷ (CamDeInv ∷ (CamHsyncInv ∷ (CamVsyncInv ∷ (CamVhDeModeEn ∷ (CamStart ∷ (CamReset ∷ (CamAfifoReset ∷ [])))))))))))
fields_of CamRgbYuv = CamConvBypass ∷ []

-- the registers, in the board's order
abbrev pub registers : List Register
registers = LcdClock ∷ (LcdUser ∷ (LcdMisc ∷ (LcdCtrl ∷ (LcdCtrl1 ∷ (LcdCtrl2 ∷ (LcdRgbYuv ∷ (LcdDlyMode ∷ (LcdDataDoutMode ∷ (CamCtrl ∷ (CamCtrl1 ∷ (CamRgbYuv ∷ [])))))))))))
