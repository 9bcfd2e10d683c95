-- The law of a change of one field.
use Rattle.std.proofs.Common.{IsTrue, ◌≢◌, ◌≡◌, ℕ, ◌-◌, ◌/◌, ◌%◌, ◌^◌, Bool, true, false, cond, eqb, sym, refl, ap, ◌∙◌, inl, inr}
use lib.Bits.{bit_and, and_mask, and_zero_r}
use native.Mathlib.Nat.{mod-mod}
use Rattle.std.proofs.lemmas.Bool.{cases_Bool, eqb-true, eq-eqb, false≢true}
use Rattle.board.proofs.ImageBoards.{apart, panel_word_of, camera_word_of}
use Rattle.board.proofs.ImageWrites.{same_is}
use Rattle.board.proofs.Masks.{part_and, and_twice}
use Rattle.board.proofs.Puts.{put_law}
use Rattle.board.proofs.Variants.{each, number}
use Rattle.board.specs.Controls.{requested}
use Rattle.board.specs.Fields.{part, field, put, bit, stores, stored, stored_mask}
use Rattle.board.specs.Modifications.{written_field, field_in_force, modified}
use Rattle.board.specs.Registers.{index, side, same_register}
use Rattle.board.specs.States.{BoardState, read, written, written_on, word_on, written_word, word_in_force}
use Rattle.board.specs.Table.{place}
use Rattle.board.specs.Words.{replaced, panel_word, camera_word, with_panel_word, with_camera_word}
use Rattle.board.specs.contracts.field.Field as fields
use Rattle.board.specs.declared.field.Field.{Field}
use Rattle.board.specs.declared.field.Field.TheVariants.{LcdStart, CamStart, LcdUpdate, CamUpdate}
use Rattle.board.specs.declared.field.Role.TheVariants.{Update}
use Rattle.board.specs.declared.register.Register.{Register}
use Rattle.board.specs.declared.register.Register.TheVariants.{LcdClock, LcdUser, LcdMisc, LcdCtrl, LcdCtrl1, LcdCtrl2, LcdRgbYuv, LcdDlyMode, LcdDataDoutMode, CamCtrl, CamCtrl1, CamRgbYuv}
use Rattle.board.specs.declared.register.Side.{Side}
use Rattle.board.specs.declared.register.Side.TheVariants.{Panel, Camera}

-- what a register stores of a field: all of it, or nothing
mask_part : (f : Field) → part (place f).low (place f).width (stored_mask (place f).register) ≡ cond (stores (place f).role) (2 ^ (place f).width - 1) 0
mask_part f =
    eqb-true _ _
    (each fields.enum (λ g. eqb (part (place g).low (place g).width (stored_mask (place g).register)) (cond (stores (place g).role) (2 ^ (place g).width - 1) 0)) refl f)

field_stored : (f : Field) (w : ℕ) → field f (stored (place f).register w) ≡ cond (stores (place f).role) (field f w) 0
field_stored f w =
    part_and (place f).low (place f).width w (stored_mask (place f).register)
    ∙ ap (λ m. bit_and (field f w) m) (mask_part f)
    ∙ by (stores (place f).role)
  where
    small : field f w % 2 ^ (place f).width ≡ field f w
    small = mod-mod (w / 2 ^ (place f).low) (2 ^ (place f).width)

    by : (b : Bool) → bit_and (field f w) (cond b (2 ^ (place f).width - 1) 0) ≡ cond b (field f w) 0
    by true = and_mask (field f w) (place f).width ∙ small
    by false = and_zero_r (field f w)

-- a register's own word, or that of another
own_or_other : (q r : Register) (w n : ℕ) → stored q (cond (same_register q r) (stored r w) n) ≡ cond (same_register q r) (stored r w) (stored q n)
own_or_other q r w n = by (same_register q r) refl
  where
    by : (b : Bool) → same_register q r ≡ b → stored q (cond b (stored r w) n) ≡ cond b (stored r w) (stored q n)
    by true e = ap (λ x. stored x (stored r w)) (same_is q r e) ∙ and_twice w (stored_mask r)
    by false e = refl

other_register : (q r : Register) → (side q ≡ side r → ⊥) → same_register q r ≡ false
other_register q r other = elim (cases_Bool (same_register q r)) [
  | inl e ↦ absurd (other (ap side (same_is q r e)))
  | inr e ↦ e
]

module _ (q r : Register) (w : ℕ) (b : BoardState) where
  -- the word of each register after a write
  word_after : written_word q (written r w b) ≡ cond (same_register q r) (stored r w) (written_word q b)
  unfolding written
  word_after = by (side q) (side r) refl refl
    where
      by : (x y : Side) → side q ≡ x → side r ≡ y
          → stored q (word_on x q (written_on y r w b).panel.written (written_on y r w b).camera.written)
          ≡ cond (same_register q r) (stored r w) (stored q (word_on x q b.panel.written b.camera.written))
      by Panel Panel e f =
          ap (stored q) (panel_word_of (replaced r (stored r w) (λ p. panel_word p b.panel.written)) q e)
          ∙ own_or_other q r w (panel_word q b.panel.written)
      by Camera Camera e f =
          ap (stored q) (camera_word_of (replaced r (stored r w) (λ p. camera_word p b.camera.written)) q e)
          ∙ own_or_other q r w (camera_word q b.camera.written)
      by Panel Camera e f =
          sym (ap (λ t. cond t (stored r w) (stored q (panel_word q b.panel.written))) (other_register q r (λ h. apart (sym e ∙ h ∙ f))))
      by Camera Panel e f =
          sym (ap (λ t. cond t (stored r w) (stored q (camera_word q b.camera.written))) (other_register q r (λ h. apart (sym f ∙ sym h ∙ e))))

  -- without update what is in force stays
  force_after : (requested r w).update ≡ false → word_in_force q (written r w b) ≡ word_in_force q b
  unfolding written
  force_after none = by (side r)
    where
      by : (y : Side) → stored q (word_on (side q) q (written_on y r w b).panel.in_force (written_on y r w b).camera.in_force) ≡ word_in_force q b
      by Panel =
          ap (λ u. stored q (word_on (side q) q (cond u (with_panel_word r (stored r w) b.panel.written) b.panel.in_force) b.camera.in_force)) none
      by Camera =
          ap (λ u. stored q (word_on (side q) q b.panel.in_force (cond u (with_camera_word r (stored r w) b.camera.written) b.camera.in_force))) none

-- roles that differ are of two fields
not_that : (g f : Field) → stores (place g).role ≡ true → stores (place f).role ≡ false → g ≡ f → ⊥
not_that g f kept none e = false≢true (sym none ∙ sym (ap (λ x. stores (place x).role) e) ∙ kept)

differ : (g f : Field) → eqb (number fields.enum g) (number fields.enum f) ≡ false → g ≡ f → ⊥
differ g f none e = false≢true (sym none ∙ eq-eqb _ _ (ap (number fields.enum) e))

-- a setting is read as it was written
read_field : (g : Field) (r : Register) (b : BoardState) → (place g).register ≡ r → stores (place g).role ≡ true
    → field g (read r b) ≡ field g (written_word r b)
unfolding read
read_field g LcdUser b e kept = (put_law LcdStart (bit b.panel.control.start) (written_word LcdUser b)).others_stay g e (not_that g LcdStart kept refl)
read_field g CamCtrl1 b e kept = (put_law CamStart (bit b.camera.control.start) (written_word CamCtrl1 b)).others_stay g e (not_that g CamStart kept refl)
read_field g _ b e kept = refl

-- what is read back asks for no update, unless that field is put
no_update : (f : Field) (v : ℕ) (r : Register) (b : BoardState) → (place f).register ≡ r → ((place f).role ≡ Update → ⊥)
    → (requested r (put f v (read r b))).update ≡ false
unfolding read
no_update f v LcdUser b e other =
    ap (λ n. eqb n 1)
    ((put_law f v (read LcdUser b)).others_stay LcdUpdate (sym e) (λ h. other (sym (ap (λ x. (place x).role) h)))
    ∙ (put_law LcdStart (bit b.panel.control.start) (written_word LcdUser b)).others_stay LcdUpdate refl (differ LcdUpdate LcdStart refl)
    ∙ field_stored LcdUpdate _)
no_update f v CamCtrl b e other =
    ap (λ n. eqb n 1)
    ((put_law f v (read CamCtrl b)).others_stay CamUpdate (sym e) (λ h. other (sym (ap (λ x. (place x).role) h)))
    ∙ field_stored CamUpdate _)
no_update f v LcdClock b e other = refl
no_update f v LcdMisc b e other = refl
no_update f v LcdCtrl b e other = refl
no_update f v LcdCtrl1 b e other = refl
no_update f v LcdCtrl2 b e other = refl
no_update f v LcdRgbYuv b e other = refl
no_update f v LcdDlyMode b e other = refl
no_update f v LcdDataDoutMode b e other = refl
no_update f v CamCtrl1 b e other = refl
no_update f v CamRgbYuv b e other = refl

-- every other field stays
pub others : (f : Field) (v : ℕ) (b : BoardState) (g : Field) → (g ≡ f → ⊥) → written_field g (modified f v b) ≡ written_field g b
others f v b g ne = ap (field g) (word_after (place g).register (place f).register (put f v (read (place f).register b)) b) ∙ by (same_register (place g).register (place f).register) refl
  where
    kept_or_not : (t : Bool) → stores (place g).role ≡ t → (place g).register ≡ (place f).register
        → cond t (field g (put f v (read (place f).register b))) 0 ≡ written_field g b
    kept_or_not true kept same =
        (put_law f v (read (place f).register b)).others_stay g same ne
        ∙ read_field g (place f).register b same kept
        ∙ ap (λ x. field g (written_word x b)) (sym same)
    kept_or_not false none same =
        let words = word_on (side (place g).register) (place g).register b.panel.written b.camera.written in
        sym (field_stored g words ∙ ap (λ t. cond t (field g words) 0) none)

    by : (t : Bool) → same_register (place g).register (place f).register ≡ t
        → field g (cond t (stored (place f).register (put f v (read (place f).register b))) (written_word (place g).register b)) ≡ written_field g b
    by true e =
        let same = same_is (place g).register (place f).register e in
        ap (λ x. field g (stored x (put f v (read (place f).register b)))) (sym same)
        ∙ field_stored g (put f v (read (place f).register b))
        ∙ kept_or_not (stores (place g).role) refl same
    by false e = refl

pub sources : (f : Field) (v : ℕ) (b : BoardState) → (modified f v b).sources ≡ b.sources
unfolding written
sources f v b = by (side (place f).register)
  where
    by : (y : Side) → (written_on y (place f).register (put f v (read (place f).register b)) b).sources ≡ b.sources
    by Panel = refl
    by Camera = refl

-- a setting has the value, cut to the field
pub value_put : (f : Field) (v : ℕ) (b : BoardState)
    → IsTrue (stores (place f).role) → written_field f (modified f v b) ≡ v % 2 ^ (place f).width
value_put f v b kept =
    let r = (place f).register in
    let w = put f v (read r b) in
    ap (field f) (word_after r r w b ∙ ap (λ t. cond t (stored r w) (written_word r b)) (eq-eqb (index r) (index r) refl))
    ∙ field_stored f w ∙ ap (λ t. cond t (field f w) 0) kept ∙ (put_law f v (read r b)).reads_back

-- what is in force stays, but for update
pub force_stays : (f : Field) (v : ℕ) (b : BoardState)
    → ((place f).role ≢ Update) → (g : Field) → field_in_force g (modified f v b) ≡ field_in_force g b
force_stays f v b other g =
    let r = (place f).register in
    let w = put f v (read r b) in
    ap (field g) (force_after (place g).register r w b (no_update f v r b refl other))

-- the four of `ModifyLaw`
pub ruleset modify_law = (value_put, others, force_stays, sources)
