-- A word under a mask: twice is once, and a value put into some bits of either.
use Rattle.std.proofs.Common.{◌≡◌, ℕ, zero, suc, ◌+◌, ◌*◌, ◌/◌, ◌%◌, ◌^◌, ◌<◌, ◌≤◌, min, sym, ap, ◌∙◌, ap₂, zero-mul, arith}
use lib.Bits.{bit_and, and_step, and_block, and_zero_l, and_zero_r, and_shr, and_mod, and_mask, and_comm}
use Rattle.std.proofs.lemmas.Nat.{mod_below, div-mul-add, mod-mul-add}
use Rattle.board.proofs.Parts.{split, put_above, put_below, put_reads_back, rest_below, low_below}
use Rattle.board.specs.Fields.{part, put_part}

-- what passes a mask passes it again
and_twice_upto : (k w m : ℕ) → w ≤ k → bit_and (bit_and w m) m ≡ bit_and w m
and_twice_upto zero w m h =
    let none : w ≡ 0 = omega arith in
    ap (λ n. bit_and (bit_and n m) m) none ∙ ap (λ n. bit_and n m) (and_zero_l m) ∙ ap (λ n. bit_and n m) (sym none)
and_twice_upto (suc k) w m h =
    let a = bit_and (w / 2) (m / 2) in
    let b = min (w % 2) (m % 2) in
    let small : b < 2 = omega (arith, mod_below w 2 (omega arith)) in
    let again : bit_and a (m / 2) ≡ a = and_twice_upto k (w / 2) (m / 2) (omega arith) in
    let once : bit_and w m ≡ a * 2 + b = and_step w m in
    let half : (a * 2 + b) / 2 ≡ a = div-mul-add a 2 b small in
    let odd : (a * 2 + b) % 2 ≡ b = mod-mul-add a 2 b small in
    let low : min b (m % 2) ≡ b = omega arith in
    ap (λ n. bit_and n m) once
    ∙ and_step (a * 2 + b) m
    ∙ ap₂ (λ x y. x * 2 + y) (ap (λ n. bit_and n (m / 2)) half ∙ again) (ap (λ n. min n (m % 2)) odd ∙ low)
    ∙ sym once

pub and_twice : (w m : ℕ) → bit_and (bit_and w m) m ≡ bit_and w m
and_twice w m = and_twice_upto w w m (omega arith)

-- some bits of what passes a mask
pub part_and : (low width w m : ℕ) → part low width (bit_and w m) ≡ bit_and (part low width w) (part low width m)
part_and low width w m =
    ap (λ n. n % 2 ^ width) (and_shr w m low) ∙ and_mod (w / 2 ^ low) (m / 2 ^ low) width

module _ (low width : ℕ) where
  -- two words under each other, above, in and below some bits
  and_split : (w m : ℕ) → bit_and w m ≡
      bit_and (w / 2 ^ (width + low)) (m / 2 ^ (width + low)) * 2 ^ (width + low)
      + (bit_and (part low width w) (part low width m) * 2 ^ low + bit_and (w % 2 ^ low) (m % 2 ^ low))
  and_split w m =
      ap₂ bit_and (split low width 0 w) (split low width 0 m)
      ∙ and_block (width + low) (w / 2 ^ (width + low)) (m / 2 ^ (width + low)) _ _ (inner_below w) (inner_below m)
      ∙ ap (λ n. bit_and (w / 2 ^ (width + low)) (m / 2 ^ (width + low)) * 2 ^ (width + low) + n)
      (and_block low (part low width w) (part low width m) (w % 2 ^ low) (m % 2 ^ low) (rest_below low width 0 w) (rest_below low width 0 m))
    where
      inner_below : (n : ℕ) → part low width n * 2 ^ low + n % 2 ^ low < 2 ^ (width + low)
      inner_below n = low_below low width (n / 2 ^ low) n

  -- a value that is put into some bits of a mask
  pub and_put : (v w m : ℕ) → bit_and w (put_part low width v m) + bit_and (part low width w) (part low width m) * 2 ^ low
      ≡ bit_and w m + bit_and (part low width w) (v % 2 ^ width) * 2 ^ low
  and_put v w m =
      let new = and_split w (put_part low width v m) in
      let old = and_split w m in
      let above = ap (λ n. bit_and (w / 2 ^ (width + low)) n * 2 ^ (width + low)) (put_above low width v m) in
      let inside = ap (λ n. bit_and (part low width w) n * 2 ^ low) (put_reads_back low width v m) in
      let below = ap (λ n. bit_and (w % 2 ^ low) n) (put_below low width v m) in
      omega arith

  -- bits that a mask does not pass may be anything
  pub and_unseen : (v w m : ℕ) → part low width m ≡ 0 → bit_and (put_part low width v w) m ≡ bit_and w m
  and_unseen v w m unseen =
      let p = and_put v m w in
      let left : bit_and (part low width m) (part low width w) ≡ 0 = ap (λ n. bit_and n (part low width w)) unseen ∙ and_zero_l (part low width w) in
      let right : bit_and (part low width m) (v % 2 ^ width) ≡ 0 = ap (λ n. bit_and n (v % 2 ^ width)) unseen ∙ and_zero_l (v % 2 ^ width) in
      let noleft = ap (λ n. n * 2 ^ low) left in
      let noright = ap (λ n. n * 2 ^ low) right in
      let zero_times = zero-mul (2 ^ low) in
      and_comm (put_part low width v w) m ∙ (omega arith) ∙ and_comm m w

-- one bit beside those of a mask, as start is beside what a register stores
module _ (low m : ℕ) (beside : part low 1 m ≡ 0) where
  none_there : (w : ℕ) → part low 1 (bit_and w m) ≡ 0
  none_there w =
      part_and low 1 w m ∙ ap (λ n. bit_and (part low 1 w) n) beside ∙ and_zero_r (part low 1 w)

  raised : (v w : ℕ) → put_part low 1 v (bit_and w m) ≡ bit_and w m + v % 2 * 2 ^ low
  raised v w =
      let none = ap (λ n. n * 2 ^ low) (none_there w) in
      let zero_times = zero-mul (2 ^ low) in
      omega arith

  -- the mask with the bit passes it
  pub passes_bit : (v w : ℕ) → bit_and (put_part low 1 v (bit_and w m)) (put_part low 1 1 m) ≡ put_part low 1 v (bit_and w m)
  passes_bit v w =
      let x = put_part low 1 v (bit_and w m) in
      let both = and_put low 1 1 x m in
      let nothing : bit_and (part low 1 x) (part low 1 m) ≡ 0 = ap (λ n. bit_and (part low 1 x) n) beside ∙ and_zero_r (part low 1 x) in
      let no = ap (λ n. n * 2 ^ low) nothing in
      let zero_times = zero-mul (2 ^ low) in
      let rest : bit_and x m ≡ bit_and w m = and_unseen low 1 v (bit_and w m) m beside ∙ and_twice w m in
      let bit_of : bit_and (part low 1 x) 1 ≡ v % 2 =
      and_mask (part low 1 x) 1 ∙ ap (λ n. n % 2) (put_reads_back low 1 v (bit_and w m)) ∙ omega arith in
      let one = ap (λ n. n * 2 ^ low) bit_of in
      let is = raised v w in
      omega arith

  -- a word within the mask and the bit is what passes the mask, with its own bit put back
  pub put_back : (v w : ℕ) → bit_and w (put_part low 1 1 m) ≡ w → v ≡ part low 1 w → put_part low 1 v (bit_and w m) ≡ w
  put_back v w within same =
      let both = and_put low 1 1 w m in
      let nothing : bit_and (part low 1 w) (part low 1 m) ≡ 0 = ap (λ n. bit_and (part low 1 w) n) beside ∙ and_zero_r (part low 1 w) in
      let no = ap (λ n. n * 2 ^ low) nothing in
      let zero_times = zero-mul (2 ^ low) in
      let bit_of : bit_and (part low 1 w) 1 ≡ v % 2 = and_mask (part low 1 w) 1 ∙ ap (λ n. n % 2) (sym same) in
      let one = ap (λ n. n * 2 ^ low) bit_of in
      let is = raised v w in
      omega arith

  -- what passes the mask with the bit is what passes the mask, and the bit
  pub and_with_bit : (w : ℕ) → bit_and w (put_part low 1 1 m) ≡ put_part low 1 (part low 1 w) (bit_and w m)
  and_with_bit w =
      let both = and_put low 1 1 w m in
      let nothing : bit_and (part low 1 w) (part low 1 m) ≡ 0 = ap (λ n. bit_and (part low 1 w) n) beside ∙ and_zero_r (part low 1 w) in
      let no = ap (λ n. n * 2 ^ low) nothing in
      let zero_times = zero-mul (2 ^ low) in
      let bit_of : bit_and (part low 1 w) 1 ≡ part low 1 w % 2 = and_mask (part low 1 w) 1 in
      let one = ap (λ n. n * 2 ^ low) bit_of in
      let is = raised (part low 1 w) w in
      omega arith
