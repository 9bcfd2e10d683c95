-- What a write, a read and a poll of an image make of the board that it holds.
use Rattle.std.proofs.Common.{◌≡◌, ℕ, ◌/◌, ◌%◌, Bool, true, false, cond, eqb, List, length, sym, refl, ap, ◌∙◌, subst, ap₂, arith}
use Rattle.board.proofs.ImageWrites.{written_at, not_same, in_force_of, in_force_other, mark_at, control_other, start_after, marks_reset, marks_afifo, written_endless}
use Rattle.board.specs.Controls.{requested, controlled}
use Rattle.board.specs.Fields.{stored}
use Rattle.board.specs.Images.{control_in, control_after, endless_side, stored_from, image, image_written}
use Rattle.board.specs.Registers.{side, same_register}
use Rattle.board.specs.States.{SideState, side_written, written_on}
use Rattle.board.specs.Words.{panel_words, camera_words, panel_word, camera_word, replaced}
use Rattle.board.specs.declared.control.Control.{Control}
use Rattle.board.specs.declared.register.Register.{Register}
use Rattle.board.specs.declared.register.Register.TheVariants.{LcdClock, LcdUser, LcdMisc, LcdCtrl, LcdCtrl1, LcdCtrl2, LcdRgbYuv, LcdDlyMode, LcdDataDoutMode, CamCtrl, CamCtrl1, CamRgbYuv}
use Rattle.board.specs.declared.register.Side.{Side}
use Rattle.board.specs.declared.register.Side.TheVariants.{Panel, Camera}
use Rattle.board.specs.declared.sources.Sources.{Sources}

-- words are equal where those of the side's registers are
same_panel : (a b : Register → ℕ) → ((q : Register) → side q ≡ Panel → a q ≡ b q) → panel_words a ≡ panel_words b
same_panel a b h =
    let e0 = h LcdClock refl in
    let e1 = h LcdUser refl in
    let e2 = h LcdMisc refl in
    let e3 = h LcdCtrl refl in
    let e4 = h LcdCtrl1 refl in
    let e5 = h LcdCtrl2 refl in
    let e6 = h LcdRgbYuv refl in
    let e7 = h LcdDlyMode refl in
    let e8 = h LcdDataDoutMode refl in
    cc

same_camera : (a b : Register → ℕ) → ((q : Register) → side q ≡ Camera → a q ≡ b q) → camera_words a ≡ camera_words b
same_camera a b h =
    let e0 = h CamCtrl refl in
    let e1 = h CamCtrl1 refl in
    let e2 = h CamRgbYuv refl in
    cc

pub apart : Panel ≡ Camera → ⊥
apart e = let z : ◌≡◌ {A = ℕ} 0 1 = cc in omega arith

pub same_side : {Words : Type 0} {w w' i i' : Words} {c c' : Control} → w ≡ w' → i ≡ i' → c ≡ c' → endless_side w i c ≡ endless_side w' i' c'
same_side {Words} {w} {w'} {i} {i'} {c} {c'} e f g =
    ap (λ a. endless_side a i c) e ∙ ap (λ a. endless_side w' a c) f ∙ ap (λ a. endless_side w' i' a) g

-- a register's own word among those of its side
pub panel_word_of : (a : Register → ℕ) (q : Register) → side q ≡ Panel → panel_word q (panel_words a) ≡ a q
panel_word_of a LcdClock e = refl
panel_word_of a LcdUser e = refl
panel_word_of a LcdMisc e = refl
panel_word_of a LcdCtrl e = refl
panel_word_of a LcdCtrl1 e = refl
panel_word_of a LcdCtrl2 e = refl
panel_word_of a LcdRgbYuv e = refl
panel_word_of a LcdDlyMode e = refl
panel_word_of a LcdDataDoutMode e = refl
panel_word_of a CamCtrl e = absurd (apart (sym e))
panel_word_of a CamCtrl1 e = absurd (apart (sym e))
panel_word_of a CamRgbYuv e = absurd (apart (sym e))

pub camera_word_of : (a : Register → ℕ) (q : Register) → side q ≡ Camera → camera_word q (camera_words a) ≡ a q
camera_word_of a CamCtrl e = refl
camera_word_of a CamCtrl1 e = refl
camera_word_of a CamRgbYuv e = refl
camera_word_of a LcdClock e = absurd (apart e)
camera_word_of a LcdUser e = absurd (apart e)
camera_word_of a LcdMisc e = absurd (apart e)
camera_word_of a LcdCtrl e = absurd (apart e)
camera_word_of a LcdCtrl1 e = absurd (apart e)
camera_word_of a LcdCtrl2 e = absurd (apart e)
camera_word_of a LcdRgbYuv e = absurd (apart e)
camera_word_of a LcdDlyMode e = absurd (apart e)
camera_word_of a LcdDataDoutMode e = absurd (apart e)

-- start and marks of the register's side
control_of_side : (r : Register) (w : ℕ) (ws : List ℕ) → length ws ≡ 34 → control_in (side r) (image_written r w ws) ≡ control_after r w ws
control_of_side r w ws whole =
    ap₂ (λ b k. record { start = b; reset = eqb (k % 2) 1; afifo_reset = eqb (k / 2 % 2) 1 })
    (start_after r w ws whole) (mark_at r w ws whole)
    ∙ ap₂ (λ a b. record { start = (control_after r w ws).start; reset = a; afifo_reset = b })
    (marks_reset (control_after r w ws)) (marks_afifo (control_after r w ws))

-- one side of an image, by the words of its registers: `words` makes them, and `word` reads one
module _
    (x : Side) {Words : Type 0} (words : (Register → ℕ) → Words) (word : Register → Words → ℕ)
    (same : (a b : Register → ℕ) → ((q : Register) → side q ≡ x → a q ≡ b q) → words a ≡ words b)
    (word_of : (a : Register → ℕ) (q : Register) → side q ≡ x → word q (words a) ≡ a q)
  where
    abbrev side_of : List ℕ → SideState Words
    side_of ws = endless_side (words (stored_from 0 ws)) (words (stored_from 16 ws)) (control_in x ws)

    either : (u : Bool) (a b : Register → ℕ) → words (λ q. cond u (a q) (b q)) ≡ cond u (words a) (words b)
    either true a b = refl
    either false a b = refl

    module _ (r : Register) (w : ℕ) (ws : List ℕ) (whole : length ws ≡ 34) where
      abbrev after : List ℕ
      after = image_written r w ws

      -- the side of the register: its word is replaced, its control follows, and update puts all in force
      on_side : side r ≡ x → side_of after ≡ side_written (words (replaced r (stored r w) (λ q. word q (words (stored_from 0 ws))))) (requested r w) (side_of ws)
      on_side on =
          let u = (requested r w).update in
          let new = words (replaced r (stored r w) (λ q. word q (words (stored_from 0 ws)))) in
          let written : words (stored_from 0 after) ≡ new =
          same (stored_from 0 after) (replaced r (stored r w) (λ q. word q (words (stored_from 0 ws))))
          (λ q e. written_at r w ws whole q ∙ ap (λ n. cond (same_register q r) (stored r w) n) (sym (word_of (stored_from 0 ws) q e))) in
          let force : words (stored_from 16 after) ≡ cond u new (words (stored_from 16 ws)) =
          same (stored_from 16 after) (λ q. cond u (stored_from 0 after q) (stored_from 16 ws q))
          (λ q e. in_force_of r w ws whole q (e ∙ sym on))
          ∙ either u (stored_from 0 after) (stored_from 16 ws)
          ∙ ap (λ n. cond u n (words (stored_from 16 ws))) written in
          let control : control_in x after ≡ controlled (requested r w) (control_in x ws) =
          subst (λ y. control_in y after ≡ controlled (requested r w) (control_in y ws)) on (control_of_side r w ws whole) in
          same_side written force control
          ∙ sym (written_endless new (words (stored_from 0 ws)) (words (stored_from 16 ws)) (requested r w) (control_in x ws))

      -- the other side stays
      off_side : (x ≡ side r → ⊥) → side_of after ≡ side_of ws
      off_side off =
          let other : (q : Register) → side q ≡ x → side q ≡ side r → ⊥ = λ q e f. off (sym e ∙ f) in
          same_side
          (same (stored_from 0 after) (stored_from 0 ws)
          (λ q e. written_at r w ws whole q ∙ ap (λ b. cond b (stored r w) (stored_from 0 ws q)) (not_same r w ws whole q (other q e))))
          (same (stored_from 16 after) (stored_from 16 ws) (λ q e. in_force_other r w ws whole q (other q e)))
          (control_other r w ws whole x off)

-- a write to the image is a write to the board
pub write_is : (s : Sources) (r : Register) (w : ℕ) (ws : List ℕ) → length ws ≡ 34
    → image s (image_written r w ws) ≡ written_on (side r) r w (image s ws)
write_is s r w ws whole = by (side r) refl
  where
    by : (x : Side) → side r ≡ x → image s (image_written r w ws) ≡ written_on x r w (image s ws)
    by Panel e =
        ap₂ (λ p k. record { sources = s; panel = p; camera = k })
        (on_side Panel panel_words panel_word same_panel panel_word_of r w ws whole e)
        (off_side Camera camera_words camera_word same_camera camera_word_of r w ws whole (λ f. apart (sym e ∙ sym f)))
    by Camera e =
        ap₂ (λ p k. record { sources = s; panel = p; camera = k })
        (off_side Panel panel_words panel_word same_panel panel_word_of r w ws whole (λ f. apart (f ∙ e)))
        (on_side Camera camera_words camera_word same_camera camera_word_of r w ws whole e)
