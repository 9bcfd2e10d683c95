-- A clean image stays clean, reads as it is, and words of no register are kept.
use Rattle.std.proofs.Common.{◌≡◌, ℕ, zero, suc, ◌+◌, ◌*◌, ◌/◌, ◌%◌, ◌^◌, ◌<◌, ◌≤◌, Bool, true, false, cond, eqb, ◌⊎◌, List, [], ◌∷◌, length, get_or, sym, refl, ap, ◌∙◌, ap₂, inl, inr, ⊎_elim, le_of_suc-le-suc, not-suc-le-zero, zero-add, mod-eq_of_lt, arith, map, drop, set}
use mathlib.Core.Path.{fun_ext}
use lib.Bits.{bit_and, and_mask}
use Rattle.std.proofs.lemmas.Nat.{mod_below, field_of}
use Rattle.std.proofs.lemmas.Bool.{eqb-true, ne_eqb}
use Rattle.std.proofs.lemmas.Bool.Decides.{nat_tests}
use Rattle.std.proofs.lemmas.List.{get_or-map, get_or-take, get_or-drop}
use Rattle.std.proofs.lemmas.List.FromFn.{get_or-range_with_len}
use Rattle.std.specs.List.{range_with_len}
use Rattle.board.proofs.Images.{in_force_more, kept_mask}
use Rattle.board.proofs.ImageBoards.{same_side}
use Rattle.board.proofs.ImageWrites.{stored_at, update_leaves, index_small, mark_large}
use Rattle.board.proofs.Masks.{and_twice, and_unseen, passes_bit, put_back, and_with_bit}
use Rattle.board.proofs.Parts.{put_reads_back}
use Rattle.board.proofs.Variants.{each}
use Rattle.board.specs.Fields.{part, put_part, bit, flag, stored, stored_mask}
use Rattle.board.specs.Images.{n_in_force, mark_place, start_in, control_in, stored_from, image, masks, read_mask, masked, cleaned, marks, control_after, image_written, KeptPlace, KeepsTheRest}
use Rattle.board.specs.Registers.{index, side, first, side_registers}
use Rattle.board.specs.States.{with_start, read_on}
use Rattle.board.specs.Table.{registers}
use Rattle.board.specs.contracts.register.Register as regs
use Rattle.board.specs.Words.{panel_words, camera_words}
use Rattle.board.specs.declared.control.Control.{Control}
use Rattle.board.specs.declared.field.Field.TheVariants.{LcdStart, CamStart}
use Rattle.board.specs.declared.register.Register.{Register}
use Rattle.board.specs.declared.register.Register.TheVariants.{LcdClock, LcdUser, CamCtrl1}
use Rattle.board.specs.declared.register.Side.{Side}
use Rattle.board.specs.declared.register.Side.TheVariants.{Panel, Camera}
use Rattle.board.specs.declared.sources.Sources.{Sources}

-- a word with start in its place passes the mask of its register
word_passes : (r : Register) (b : Bool) (w : ℕ) → bit_and (with_start r b (stored r w)) (read_mask r) ≡ with_start r b (stored r w)
word_passes LcdUser b w = passes_bit 27 (stored_mask LcdUser) refl (bit b) w
word_passes CamCtrl1 b w = passes_bit 29 (stored_mask CamCtrl1) refl (bit b) w
word_passes _ b w = and_twice w _

read_mask_at : (r : Register) → get_or masks (index r) 0 ≡ read_mask r
read_mask_at r = eqb-true _ _ (each regs.enum (λ q. eqb (get_or masks (index q) 0) (read_mask q)) refl r)

stored_mask_at : (r : Register) → get_or masks (16 + index r) 0 ≡ stored_mask r
stored_mask_at r = eqb-true _ _ (each regs.enum (λ q. eqb (get_or masks (16 + index q) 0) (stored_mask q)) refl r)

marks_pass : (c : Control) → bit_and (marks c) 3 ≡ marks c
marks_pass c = by c.reset c.afifo_reset
  where
    by : (a b : Bool) → bit_and (bit a + 2 * bit b) 3 ≡ bit a + 2 * bit b
    by true true = refl
    by true false = refl
    by false true = refl
    by false false = refl

mark_mask : (s : Side) → get_or masks (mark_place s) 0 ≡ 3
mark_mask Panel = refl
mark_mask Camera = refl

-- the word of a register, and the marks, at their places
pub stored_passes : (r : Register) (b : Bool) (w : ℕ) → bit_and (with_start r b (stored r w)) (get_or masks (index r) 0) ≡ with_start r b (stored r w)
stored_passes r b w = ap (λ m. bit_and (with_start r b (stored r w)) m) (read_mask_at r) ∙ word_passes r b w

pub marks_pass_there : (r : Register) (c : Control) → bit_and (marks c) (get_or masks (mark_place (side r)) 0) ≡ marks c
marks_pass_there r c = ap (λ m. bit_and (marks c) m) (mark_mask (side r)) ∙ marks_pass c

-- the registers stand at their places, all of them and those of a side
place_is : (i : ℕ) → i < 12 → index (get_or registers i LcdClock) ≡ i
place_is i h =
    let counted : map index registers ≡ range_with_len 0 12 = refl in
    sym (get_or-map index registers i LcdClock 0 h) ∙ get_or-range_with_len 0 12 i 0 h ∙ zero-add i

place_on : (s : Side) (i : ℕ) → i < length (side_registers s) → index (get_or (side_registers s) i LcdClock) ≡ first s + i
place_on Panel i h = ap index (get_or-take 9 registers i LcdClock h) ∙ place_is i (omega arith) ∙ sym (zero-add i)
place_on Camera i h = ap index (get_or-take 3 (drop 9 registers) i LcdClock h ∙ get_or-drop 9 registers i LcdClock) ∙ place_is (9 + i) (omega arith)

side_ends : (s : Side) → first s + length (side_registers s) ≤ 12
side_ends Panel = omega arith
side_ends Camera = omega arith

-- one register more of a side is put in force
pub one_more_in_force : (s : Side) (i : ℕ) (ws now : List ℕ) → i < length (side_registers s) → now ≡ n_in_force i (first s) ws
    → set now (16 + index (get_or (side_registers s) i LcdClock))
    (stored (get_or (side_registers s) i LcdClock) (get_or now (index (get_or (side_registers s) i LcdClock)) 0))
    ≡ n_in_force (i + 1) (first s) ws
one_more_in_force s i ws now h same =
    let r = get_or (side_registers s) i LcdClock in
    ap (λ m. set now (16 + index r) (bit_and (get_or now (index r) 0) m)) (sym (stored_mask_at r))
    ∙ ap (λ k. set now (16 + k) (bit_and (get_or now k 0) (get_or masks (16 + k) 0))) (place_on s i h)
    ∙ in_force_more i (first s) ws now (omega (arith, side_ends s)) same

pub in_force_passes : (r : Register) (w : ℕ) → bit_and (stored r w) (get_or masks (16 + index r) 0) ≡ stored r w
in_force_passes r w = ap (λ m. bit_and (stored r w) m) (stored_mask_at r) ∙ and_twice w (stored_mask r)

-- each word of a clean image passes its mask
clean_at : (ms ws : List ℕ) (k : ℕ) → length ms ≡ length ws → masked ms ws ≡ ws → k < length ws → bit_and (get_or ws k 0) (get_or ms k 0) ≡ get_or ws k 0
clean_at [] [] k same clean h = absurd (not-suc-le-zero h)
clean_at [] (w ∷ ws) k same clean h = absurd (omega arith)
clean_at (m ∷ ms) [] k same clean h = absurd (omega arith)
clean_at (m ∷ ms) (w ∷ ws) zero same clean h = cc
clean_at (m ∷ ms) (w ∷ ws) (suc k) same clean h =
    let rest : masked ms ws ≡ ws = cc in
    clean_at ms ws k (omega arith) rest (le_of_suc-le-suc h)

bit_of : (n : ℕ) → n < 2 → bit (eqb n 1) ≡ n
bit_of n h = grind (arith, nat_tests)

bit_part : (low w : ℕ) → bit (eqb (part low 1 w) 1) ≡ part low 1 w
bit_part low w = bit_of (part low 1 w) (mod_below (w / 2 ^ low) 2 (omega arith))

clean_twice : (ws : List ℕ) (k m : ℕ) → bit_and (get_or ws k 0) m ≡ get_or ws k 0 → get_or ws k 0 ≡ bit_and (bit_and (get_or ws k 0) m) m
clean_twice ws k m e = sym (and_twice (get_or ws k 0) m ∙ e)

-- a word of a clean image is what a read answers
pub read_is : (s : Sources) (r : Register) (ws : List ℕ) → length ws ≡ 34 → masked masks ws ≡ ws → get_or ws (index r) 0 ≡ read_on r (image s ws)
read_is s LcdUser ws whole clean =
    sym (put_back 27 (stored_mask LcdUser) refl _ (get_or ws 1 0) (clean_at masks ws 1 (sym whole) clean (omega arith)) (bit_part 27 (get_or ws 1 0)))
    ∙ ap (λ w. put_part 27 1 (bit (flag LcdStart (get_or ws 1 0))) w) (sym (and_twice (get_or ws 1 0) (stored_mask LcdUser)))
read_is s CamCtrl1 ws whole clean =
    sym (put_back 29 (stored_mask CamCtrl1) refl _ (get_or ws 10 0) (clean_at masks ws 10 (sym whole) clean (omega arith)) (bit_part 29 (get_or ws 10 0)))
    ∙ ap (λ w. put_part 29 1 (bit (flag CamStart (get_or ws 10 0))) w) (sym (and_twice (get_or ws 10 0) (stored_mask CamCtrl1)))
read_is s r ws whole clean = clean_twice ws (index r) (stored_mask r) (clean_at masks ws (index r) (sym whole) clean (omega arith))

-- words of no register stay through a write
pub write_keeps : (r : Register) (w : ℕ) (ws : List ℕ) → length ws ≡ 34 → (k : ℕ) → KeptPlace k → get_or (image_written r w ws) k 0 ≡ get_or ws k 0
write_keeps r w ws whole k place =
    let large : 32 ≤ mark_place (side r) = mark_large (side r) in
    let outside : (k < 16) ⊎ (28 ≤ k) = ⊎_elim (λ p. inl p.1) (λ p. inr p.0) place in
    let no_mark : k ≡ mark_place (side r) → ⊥ = λ e. ⊎_elim (λ p. omega (arith, p.1)) (λ p. omega (arith, p.1)) place in
    let no_word : k ≡ index r → ⊥ = λ e. ⊎_elim (λ p. omega (arith, p.0, index_small r)) (λ p. omega (arith, p.0, index_small r)) place in
    update_leaves r w ws whole k outside
    ∙ stored_at r w ws whole k
    ∙ ap₂ (λ a b. cond a (marks (control_after r w ws)) (cond b (with_start r (control_after r w ws).start (stored r w)) (get_or ws k 0)))
    (ne_eqb _ _ no_mark) (ne_eqb _ _ no_word)

-- each word of a cleaned image
masked_at : (ms ws : List ℕ) (k : ℕ) → length ms ≡ length ws → get_or (masked ms ws) k 0 ≡ bit_and (get_or ws k 0) (get_or ms k 0)
masked_at [] [] k same = refl
masked_at [] (w ∷ ws) k same = absurd (omega arith)
masked_at (m ∷ ms) [] k same = absurd (omega arith)
masked_at (m ∷ ms) (w ∷ ws) zero same = refl
masked_at (m ∷ ms) (w ∷ ws) (suc k) same = masked_at ms ws k (omega arith)

-- cleaning keeps words of no register
pub clean_keeps : (ws : List ℕ) → length ws ≡ 34 → ((i : ℕ) → get_or ws i 0 < 2 ^ 32) → KeepsTheRest ws (masked masks ws)
clean_keeps ws whole fits k place =
    masked_at masks ws k (sym whole)
    ∙ ap (λ m. bit_and (get_or ws k 0) m) (kept_mask k place)
    ∙ and_mask (get_or ws k 0) 32
    ∙ mod-eq_of_lt (fits k)

-- cleaning twice is cleaning once
pub masked_twice : (ms ws : List ℕ) → masked ms (masked ms ws) ≡ masked ms ws
masked_twice [] ws = refl
masked_twice (m ∷ ms) [] = refl
masked_twice (m ∷ ms) (w ∷ ws) = ap₂ (λ x xs. x ∷ xs) (and_twice w m) (masked_twice ms ws)

pub cleaned_twice : (ws : List ℕ) → cleaned (cleaned ws) ≡ cleaned ws
unfolding cleaned
cleaned_twice ws = masked_twice masks ws

-- what a register stores passes the mask of its word
stored_under : (r : Register) (w : ℕ) → stored r (bit_and w (read_mask r)) ≡ stored r w
stored_under LcdUser w = ap (stored LcdUser) (and_with_bit 27 (stored_mask LcdUser) refl w) ∙ and_unseen 27 1 (part 27 1 w) (stored LcdUser w) (stored_mask LcdUser) refl ∙ and_twice w _
stored_under CamCtrl1 w = ap (stored CamCtrl1) (and_with_bit 29 (stored_mask CamCtrl1) refl w) ∙ and_unseen 29 1 (part 29 1 w) (stored CamCtrl1 w) (stored_mask CamCtrl1) refl ∙ and_twice w _
stored_under _ w = and_twice w _

start_under : (low m w : ℕ) → part low 1 m ≡ 0 → eqb (part low 1 (bit_and w (put_part low 1 1 m))) 1 ≡ eqb (part low 1 w) 1
start_under low m w beside =
    ap (λ n. eqb (part low 1 n) 1) (and_with_bit low m beside w)
    ∙ ap (λ n. eqb n 1) (put_reads_back low 1 (part low 1 w) (bit_and w m) ∙ omega (arith, mod_below (w / 2 ^ low) 2 (omega arith)))

module _ (s : Sources) (ws : List ℕ) (whole : length ws ≡ 34) where
  abbrev clean : List ℕ
  clean = masked masks ws

  word_at : (k : ℕ) → get_or clean k 0 ≡ bit_and (get_or ws k 0) (get_or masks k 0)
  word_at k = masked_at masks ws k (sym whole)

  written_same : (q : Register) → stored_from 0 clean q ≡ stored_from 0 ws q
  written_same q =
      ap (λ k. stored q (get_or clean k 0)) (zero-add (index q))
      ∙ ap (stored q) (word_at (index q) ∙ ap (λ m. bit_and (get_or ws (index q) 0) m) (read_mask_at q))
      ∙ stored_under q (get_or ws (index q) 0)
      ∙ ap (λ k. stored q (get_or ws k 0)) (sym (zero-add (index q)))

  force_same : (q : Register) → stored_from 16 clean q ≡ stored_from 16 ws q
  force_same q =
      ap (stored q) (word_at (16 + index q) ∙ ap (λ m. bit_and (get_or ws (16 + index q) 0) m) (stored_mask_at q))
      ∙ and_twice (get_or ws (16 + index q) 0) (stored_mask q)

  mark_same : (x : Side) → get_or clean (mark_place x) 0 ≡ get_or ws (mark_place x) 0 % 4
  mark_same x = word_at (mark_place x) ∙ ap (λ m. bit_and (get_or ws (mark_place x) 0) m) (mark_mask x) ∙ and_mask (get_or ws (mark_place x) 0) 2

  start_same : (x : Side) → start_in x clean ≡ start_in x ws
  start_same Panel = ap (flag LcdStart) (word_at 1) ∙ start_under 27 (stored_mask LcdUser) (get_or ws 1 0) refl
  start_same Camera = ap (flag CamStart) (word_at 10) ∙ start_under 29 (stored_mask CamCtrl1) (get_or ws 10 0) refl

  control_same : (x : Side) → control_in x clean ≡ control_in x ws
  control_same x =
      let m = get_or ws (mark_place x) 0 in
      let low : m % 4 % 2 ≡ m % 2 = omega arith in
      let high : m % 4 / 2 % 2 ≡ m / 2 % 2 = ap (λ n. n % 2) (field_of m 1 1) ∙ omega arith in
      ap₂ (λ b n. record { start = b; reset = eqb (n % 2) 1; afifo_reset = eqb (n / 2 % 2) 1 }) (start_same x) (mark_same x)
      ∙ ap₂ (λ a b. record { start = start_in x ws; reset = eqb a 1; afifo_reset = eqb b 1 }) low high

  -- cleaning changes nothing of the board that an image holds
  pub clean_holds : image s clean ≡ image s ws
  clean_holds =
      ap₂ (λ p k. record { sources = s; panel = p; camera = k })
      (same_side (ap panel_words (fun_ext written_same)) (ap panel_words (fun_ext force_same)) (control_same Panel))
      (same_side (ap camera_words (fun_ext written_same)) (ap camera_words (fun_ext force_same)) (control_same Camera))

pub image_cleaned : (s : Sources) (ws : List ℕ) → length ws ≡ 34 → image s (cleaned ws) ≡ image s ws
unfolding cleaned
image_cleaned s ws whole = clean_holds s ws whole
