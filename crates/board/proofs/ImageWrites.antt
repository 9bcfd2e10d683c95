-- A write to an image is a write to the board that it holds.
use Rattle.std.proofs.Common.{◌≡◌, ℕ, zero, suc, ◌+◌, ◌*◌, ◌/◌, ◌%◌, ◌<◌, ◌≤◌, Bool, true, false, cond, ◌&&◌, eqb, ltb, leb, ◌≢◌, ◌⊎◌, List, length, get_or, set, Some, None, Option, sym, refl, ap, ◌∙◌, subst, ap₂, inl, inr, ⊎_elim, zero-add, arith}
use lib.Bits.{bit_and}
use Rattle.std.proofs.lemmas.List.{get_or-set_same, get_or-set_other, length-set}
use Rattle.std.proofs.lemmas.Bool.{cases_eq, cases_Bool, eq-eqb, ne_eqb, ltb-true, and_parts, leb-true, eqb-true}
use Rattle.board.proofs.Images.{in_force_below}
use Rattle.board.proofs.Masks.{and_twice, and_unseen}
use Rattle.board.proofs.Parts.{put_reads_back}
use Rattle.board.proofs.Variants.{each, number, number_one}
use Rattle.board.specs.Controls.{requested, marked, started, controlled}
use Rattle.board.specs.Fields.{part, put_part, bit, flag, stored, stored_mask}
use Rattle.board.specs.Images.{mark_place, start_in, control_in, endless_side, stored_from, masks, marks, n_in_force, put_in_force, stored_in, updated_in, control_after, image_written}
use Rattle.board.specs.Registers.{index, side, first, count, same_register}
use Rattle.board.specs.States.{left_after, side_written, with_start}
use Rattle.board.specs.States.Polls.{ending, endless}
use Rattle.board.specs.Words.{replaced}
use Rattle.board.specs.contracts.register.Register as regs
use Rattle.board.specs.declared.control.Control.{Control}
use Rattle.board.specs.declared.control.Request.{Request}
use Rattle.board.specs.declared.field.Field.TheVariants.{LcdStart, CamStart}
use Rattle.board.specs.declared.register.Register.{Register}
use Rattle.board.specs.declared.register.Register.TheVariants.{LcdClock, LcdUser, LcdMisc, LcdCtrl, LcdCtrl1, LcdCtrl2, LcdRgbYuv, LcdDlyMode, LcdDataDoutMode, CamCtrl, CamCtrl1, CamRgbYuv}
use Rattle.board.specs.declared.register.Side.{Side}
use Rattle.board.specs.declared.register.Side.TheVariants.{Panel, Camera}

-- a word of a list with one replaced
pub at_set : (ws : List ℕ) (i v k : ℕ) → i < length ws → get_or (set ws i v) k 0 ≡ cond (eqb k i) v (get_or ws k 0)
at_set ws i v k h = elim (cases_eq k i) [
  | inl same ↦ ap (λ j. get_or (set ws i v) j 0) same ∙ get_or-set_same ws i v 0 h ∙ sym (ap (λ b. cond b v (get_or ws k 0)) (eq-eqb k i same))
  | inr differ ↦ get_or-set_other ws i k v 0 differ ∙ sym (ap (λ b. cond b v (get_or ws k 0)) (ne_eqb k i differ))
]

length-in_force : (n from : ℕ) (ws : List ℕ) → length (n_in_force n from ws) ≡ length ws
length-in_force zero from ws = refl
length-in_force (suc n) from ws = length-set (n_in_force n from ws) _ _ ∙ length-in_force n from ws

-- the words that are put in force
in_force_at : (n from : ℕ) (ws : List ℕ) → length ws ≡ 34 → from + n ≤ 16 → (j : ℕ) → from ≤ j → j < from + n
    → get_or (n_in_force n from ws) (16 + j) 0 ≡ bit_and (get_or ws j 0) (get_or masks (16 + j) 0)
in_force_at zero from ws whole within j low high = absurd (omega arith)
in_force_at (suc n) from ws whole within j low high = elim (cases_eq j (from + n)) [
  | inl here ↦
      ap (λ k. get_or (n_in_force (suc n) from ws) (16 + k) 0) here
      ∙ get_or-set_same (n_in_force n from ws) (16 + (from + n)) _ 0 (omega (arith, length-in_force n from ws))
      ∙ ap (λ k. bit_and (get_or ws k 0) (get_or masks (16 + k) 0)) (sym here)
  | inr there ↦
      let differ : 16 + j ≢ 16 + (from + n) = omega arith in
      get_or-set_other (n_in_force n from ws) (16 + (from + n)) (16 + j) _ 0 differ
      ∙ in_force_at n from ws whole (omega arith) j low (omega arith)
]

-- the words in force before and after those stay
in_force_beside : (n from : ℕ) (ws : List ℕ) (k : ℕ) → (k < 16 + from) ⊎ (16 + (from + n) ≤ k)
    → get_or (n_in_force n from ws) k 0 ≡ get_or ws k 0
in_force_beside zero from ws k h = refl
in_force_beside (suc n) from ws k h =
    let differ : k ≢ 16 + (from + n) = λ e. ⊎_elim (λ p. omega arith) (λ p. omega arith) h in
    get_or-set_other (n_in_force n from ws) (16 + (from + n)) k _ 0 differ
    ∙ in_force_beside n from ws k (⊎_elim (λ p. inl p) (λ p. inr (omega arith)) h)

-- a register's place is within its side
placed : (q : Register) → (first (side q) ≤ index q) × (index q < first (side q) + count (side q))
placed q =
    let p = and_parts _ _ (each regs.enum (λ r. leb (first (side r)) (index r) && ltb (index r) (first (side r) + count (side r))) refl q) in
    (leb-true _ _ p.0, ltb-true _ _ p.1)

pub index_small : (q : Register) → index q < 12
index_small q = ltb-true _ _ (each regs.enum (λ r. ltb (index r) 12) refl q)

pub index_within : (q : Register) → index q < 34
index_within q = omega (arith, index_small q)

pub mark_within : (q : Register) → mark_place (side q) < 34
mark_within q = ltb-true _ _ (each regs.enum (λ r. ltb (mark_place (side r)) 34) refl q)

pub same_is : (q r : Register) → same_register q r ≡ true → q ≡ r
same_is q r e =
    let counts : (x : Register) → number regs.enum x ≡ index x =
    λ x. eqb-true _ _ (each regs.enum (λ y. eqb (number regs.enum y) (index y)) refl x) in
    number_one regs.enum refl q r (counts q ∙ eqb-true (index q) (index r) e ∙ sym (counts r))

-- start lies beside what its register stores
pub stored_start : (r : Register) (b : Bool) (w : ℕ) → stored r (with_start r b (stored r w)) ≡ stored r w
stored_start LcdUser b w = and_unseen 27 1 (bit b) (stored LcdUser w) _ refl ∙ and_twice w _
stored_start CamCtrl1 b w = and_unseen 29 1 (bit b) (stored CamCtrl1 w) _ refl ∙ and_twice w _
stored_start _ b w = and_twice w _

pub marks_reset : (c : Control) → eqb (marks c % 2) 1 ≡ c.reset
marks_reset c = of c.reset c.afifo_reset
  where
    of : (a b : Bool) → eqb ((bit a + 2 * bit b) % 2) 1 ≡ a
    of true true = refl
    of true false = refl
    of false true = refl
    of false false = refl

pub marks_afifo : (c : Control) → eqb (marks c / 2 % 2) 1 ≡ c.afifo_reset
marks_afifo c = of c.reset c.afifo_reset
  where
    of : (a b : Bool) → eqb ((bit a + 2 * bit b) / 2 % 2) 1 ≡ b
    of true true = refl
    of true false = refl
    of false true = refl
    of false false = refl

-- what is left of an endless run follows start
left_follows : (q : Option Bool) (c : Control) → left_after q c endless (cond c.start endless (ending 0)) ≡ cond (started q c).start endless (ending 0)
left_follows None c = refl
left_follows (Some false) c = refl
left_follows (Some true) c = of c.start c.reset c.afifo_reset
  where
    of : (s r a : Bool) →
        let c : Control = record { start = s; reset = r; afifo_reset = a } in
        left_after (Some true) c endless (cond c.start endless (ending 0)) ≡ cond (started (Some true) c).start endless (ending 0)
    of true r a = refl
    of false true true = refl
    of false true false = refl
    of false false a = refl

pub written_endless : {Words : Type 0} (words w i : Words) (q : Request) (c : Control)
    → side_written words q (endless_side w i c) ≡ endless_side words (cond q.update words i) (controlled q c)
written_endless words w i q c =
    ap (λ l. record { written = words; in_force = cond q.update words i; control = controlled q c; left = l; span = endless })
    (left_follows q.start (marked q c))

-- a place on one side lies beside the other side's
beside : (x y : Side) → (x ≡ y → ⊥) → (j : ℕ) → first x ≤ j → j < first x + count x → (j < first y) ⊎ (first y + count y ≤ j)
beside Panel Panel other j low high = absurd (other refl)
beside Panel Camera other j low high = inl high
beside Camera Panel other j low high = inr low
beside Camera Camera other j low high = absurd (other refl)

marks_apart : (x y : Side) → (x ≡ y → ⊥) → eqb (mark_place x) (mark_place y) ≡ false
marks_apart Panel Panel other = absurd (other refl)
marks_apart Panel Camera other = refl
marks_apart Camera Panel other = refl
marks_apart Camera Camera other = absurd (other refl)

pub mark_large : (s : Side) → 32 ≤ mark_place s
mark_large Panel = omega arith
mark_large Camera = omega arith

module _ (r : Register) (w : ℕ) (ws : List ℕ) (whole : length ws ≡ 34) where
  abbrev c : Control
  c = control_after r w ws

  abbrev now_stored : List ℕ
  now_stored = stored_in r w c ws

  abbrev now_written : List ℕ
  now_written = image_written r w ws

  abbrev word : ℕ
  word = with_start r c.start (stored r w)

  place_large : 32 ≤ mark_place (side r)
  place_large = leb-true _ _ (each regs.enum (λ q. leb 32 (mark_place (side q))) refl r)

  pub stored_whole : length now_stored ≡ 34
  stored_whole = length-set (set ws (index r) word) (mark_place (side r)) (marks c) ∙ length-set ws (index r) word ∙ whole

  -- the words after the register's word and the marks were written
  pub stored_at : (k : ℕ) → get_or now_stored k 0 ≡ cond (eqb k (mark_place (side r))) (marks c) (cond (eqb k (index r)) word (get_or ws k 0))
  stored_at k =
      at_set (set ws (index r) word) (mark_place (side r)) (marks c) k (omega (arith, mark_within r, length-set ws (index r) word))
      ∙ ap (λ n. cond (eqb k (mark_place (side r))) (marks c) n) (at_set ws (index r) word k (omega (arith, index_small r)))

  -- an update changes nothing outside the words in force
  pub update_leaves : (k : ℕ) → (k < 16) ⊎ (28 ≤ k) → get_or now_written k 0 ≡ get_or now_stored k 0
  update_leaves k h = by (requested r w).update
    where
      ends : first (side r) + count (side r) ≤ 12
      ends = leb-true _ _ (each regs.enum (λ q. leb (first (side q) + count (side q)) 12) refl r)

      outside : (k < 16 + first (side r)) ⊎ (16 + (first (side r) + count (side r)) ≤ k)
      outside = ⊎_elim (λ p. inl (omega arith)) (λ p. inr (omega (arith, ends))) h

      by : (u : Bool) → get_or (updated_in u (side r) now_stored) k 0 ≡ get_or now_stored k 0
      by true = in_force_beside (count (side r)) (first (side r)) now_stored k outside
      by false = refl

  -- the word of each register
  pub word_at : (q : Register) → get_or now_written (index q) 0 ≡ cond (same_register q r) word (get_or ws (index q) 0)
  word_at q =
      let differ : index q ≡ mark_place (side r) → ⊥ = λ e. omega (arith, index_small q, place_large) in
      update_leaves (index q) (inl (omega (arith, index_small q)))
      ∙ stored_at (index q)
      ∙ ap (λ b. cond b (marks c) (cond (same_register q r) word (get_or ws (index q) 0))) (ne_eqb _ _ differ)

  pub written_at : (q : Register) → stored_from 0 now_written q ≡ replaced r (stored r w) (stored_from 0 ws) q
  written_at q = ap (λ k. stored q (get_or now_written k 0)) (zero-add (index q)) ∙ ap (stored q) (word_at q) ∙ by (same_register q r) refl
    where
      by : (b : Bool) → same_register q r ≡ b
          → stored q (cond b word (get_or ws (index q) 0)) ≡ cond b (stored r w) (stored_from 0 ws q)
      by true e = ap (λ x. stored x word) (same_is q r e) ∙ stored_start r c.start w
      by false e = ap (λ k. stored q (get_or ws k 0)) (sym (zero-add (index q)))

  -- an unchanged word in force
  stored_beyond : (q : Register) → get_or now_stored (16 + index q) 0 ≡ get_or ws (16 + index q) 0
  stored_beyond q =
      let no_mark : 16 + index q ≡ mark_place (side r) → ⊥ = λ e. omega (arith, index_small q, place_large) in
      let no_word : 16 + index q ≡ index r → ⊥ = λ e. omega (arith, index_small r) in
      stored_at (16 + index q)
      ∙ ap₂ (λ a b. cond a (marks c) (cond b word (get_or ws (16 + index q) 0))) (ne_eqb _ _ no_mark) (ne_eqb _ _ no_word)

  -- the words in force of the register's side: the written ones where update asks for it
  pub in_force_of : (q : Register) → side q ≡ side r
      → stored_from 16 now_written q ≡ cond (requested r w).update (stored_from 0 now_written q) (stored_from 16 ws q)
  in_force_of q same = by (requested r w).update
    where
      in_side : (first (side r) ≤ index q) × (index q < first (side r) + count (side r))
      in_side = subst (λ x. (first x ≤ index q) × (index q < first x + count x)) same (placed q)

      within : first (side r) + count (side r) ≤ 16
      within = leb-true _ _ (each regs.enum (λ x. leb (first (side x) + count (side x)) 16) refl r)

      mask_is : get_or masks (16 + index q) 0 ≡ stored_mask q
      mask_is = eqb-true _ _ (each regs.enum (λ x. eqb (get_or masks (16 + index x) 0) (stored_mask x)) refl q)

      by : (u : Bool) → stored_from 16 (updated_in u (side r) now_stored) q
          ≡ cond u (stored_from 0 (updated_in u (side r) now_stored) q) (stored_from 16 ws q)
      by true =
          ap (stored q) (in_force_at (count (side r)) (first (side r)) now_stored stored_whole within (index q) in_side.0 in_side.1)
          ∙ ap (λ m. stored q (bit_and (get_or now_stored (index q) 0) m)) mask_is
          ∙ and_twice (get_or now_stored (index q) 0) (stored_mask q)
          ∙ ap (stored q) (sym (in_force_below (count (side r)) (first (side r)) now_stored (index q) (omega (arith, index_small q))))
          ∙ ap (λ k. stored q (get_or (put_in_force (side r) now_stored) k 0)) (sym (zero-add (index q)))
      by false = ap (stored q) (stored_beyond q)

  -- the words in force of the other side stay
  pub in_force_other : (q : Register) → (side q ≡ side r → ⊥) → stored_from 16 now_written q ≡ stored_from 16 ws q
  in_force_other q other = ap (stored q) (by (requested r w).update)
    where
      by : (u : Bool) → get_or (updated_in u (side r) now_stored) (16 + index q) 0 ≡ get_or ws (16 + index q) 0
      by true =
          in_force_beside (count (side r)) (first (side r)) now_stored (16 + index q)
          (⊎_elim (λ p. inl (omega arith)) (λ p. inr (omega arith)) (beside (side q) (side r) other (index q) (placed q).0 (placed q).1))
          ∙ stored_beyond q
      by false = stored_beyond q

  -- the marks of the register's side, and those of the other
  pub mark_at : get_or now_written (mark_place (side r)) 0 ≡ marks c
  mark_at =
      update_leaves (mark_place (side r)) (inr (omega (arith, place_large)))
      ∙ stored_at (mark_place (side r))
      ∙ ap (λ b. cond b (marks c) (cond (eqb (mark_place (side r)) (index r)) word (get_or ws (mark_place (side r)) 0))) (eq-eqb _ _ refl)

  mark_other : (s : Side) → (s ≡ side r → ⊥) → get_or now_written (mark_place s) 0 ≡ get_or ws (mark_place s) 0
  mark_other s other =
      let large : 32 ≤ mark_place s = mark_large s in
      let no_word : mark_place s ≡ index r → ⊥ = λ e. omega (arith, index_small r) in
      update_leaves (mark_place s) (inr (omega arith))
      ∙ stored_at (mark_place s)
      ∙ ap₂ (λ a b. cond a (marks c) (cond b word (get_or ws (mark_place s) 0))) (marks_apart s (side r) other) (ne_eqb _ _ no_word)

  pub not_same : (q : Register) → (side q ≡ side r → ⊥) → same_register q r ≡ false
  not_same q other = elim (cases_Bool (same_register q r)) [
    | inl e ↦ absurd (other (ap side (same_is q r e)))
    | inr e ↦ e
  ]

  start_other : (s : Side) → (s ≡ side r → ⊥) → start_in s now_written ≡ start_in s ws
  start_other Panel other = ap (flag LcdStart) (word_at LcdUser ∙ ap (λ b. cond b word (get_or ws 1 0)) (not_same LcdUser other))
  start_other Camera other = ap (flag CamStart) (word_at CamCtrl1 ∙ ap (λ b. cond b word (get_or ws 10 0)) (not_same CamCtrl1 other))

  pub control_other : (s : Side) → (s ≡ side r → ⊥) → control_in s now_written ≡ control_in s ws
  control_other s other =
      ap₂ (λ b m. record { start = b; reset = eqb (m % 2) 1; afifo_reset = eqb (m / 2 % 2) 1 })
      (start_other s other) (mark_other s other)

flag_put : (low b x : ℕ) → b % 2 ≡ b → part low 1 (put_part low 1 b x) ≡ b
flag_put low b x small = put_reads_back low 1 b x ∙ small

pub bit_small : (b : Bool) → bit b % 2 ≡ bit b
bit_small true = refl
bit_small false = refl

bit_flag : (b : Bool) → eqb (bit b) 1 ≡ b
bit_flag true = refl
bit_flag false = refl

pub start_put : (low : ℕ) (b : Bool) (x : ℕ) → eqb (part low 1 (put_part low 1 (bit b) x)) 1 ≡ b
start_put low b x = ap (λ n. eqb n 1) (flag_put low (bit b) x (bit_small b)) ∙ bit_flag b

-- start of the register's side
pub start_after : (r : Register) (w : ℕ) (ws : List ℕ) → length ws ≡ 34 → start_in (side r) (image_written r w ws) ≡ (control_after r w ws).start
start_after LcdUser w ws whole = ap (flag LcdStart) (word_at LcdUser w ws whole LcdUser) ∙ start_put 27 _ _
start_after CamCtrl1 w ws whole = ap (flag CamStart) (word_at CamCtrl1 w ws whole CamCtrl1) ∙ start_put 29 _ _
start_after LcdClock w ws whole = ap (flag LcdStart) (word_at LcdClock w ws whole LcdUser)
start_after LcdMisc w ws whole = ap (flag LcdStart) (word_at LcdMisc w ws whole LcdUser)
start_after LcdCtrl w ws whole = ap (flag LcdStart) (word_at LcdCtrl w ws whole LcdUser)
start_after LcdCtrl1 w ws whole = ap (flag LcdStart) (word_at LcdCtrl1 w ws whole LcdUser)
start_after LcdCtrl2 w ws whole = ap (flag LcdStart) (word_at LcdCtrl2 w ws whole LcdUser)
start_after LcdRgbYuv w ws whole = ap (flag LcdStart) (word_at LcdRgbYuv w ws whole LcdUser)
start_after LcdDlyMode w ws whole = ap (flag LcdStart) (word_at LcdDlyMode w ws whole LcdUser)
start_after LcdDataDoutMode w ws whole = ap (flag LcdStart) (word_at LcdDataDoutMode w ws whole LcdUser)
start_after CamCtrl w ws whole = ap (flag CamStart) (word_at CamCtrl w ws whole CamCtrl1)
start_after CamRgbYuv w ws whole = ap (flag CamStart) (word_at CamRgbYuv w ws whole CamCtrl1)
