-- Some bits of a word, taken out and exchanged: over the width, for all fields at once.
use Rattle.std.proofs.Common.{◌≡◌, ℕ, ◌+◌, ◌-◌, ◌*◌, ◌/◌, ◌%◌, ◌^◌, ◌<◌, ◌≤◌, sym, ap, ◌∙◌, inl, inr, mul_comm, arith}
use Rattle.std.proofs.lemmas.Nat.{pow_pos, shr_split, mod-pow-add, mod_below, mul-add-lt, shr_below, shr_high, mod_low, field_of, shr-shr, pow-add}
use Rattle.board.specs.Fields.{part, put_part}
use Rattle.board.specs.FieldLaws.{Apart}

module _ (low width value word : ℕ) where
  -- a word is what lies above the part, the part, and what lies below it
  pub split : word ≡ word / 2 ^ (width + low) * 2 ^ (width + low) + (part low width word * 2 ^ low + word % 2 ^ low)
  split = omega (arith, shr_split word (width + low), mod-pow-add word width low)

  pub part_within : part low width word * 2 ^ low ≤ word
  part_within = omega (arith, split)

  pub put_split : put_part low width value word ≡ word / 2 ^ (width + low) * 2 ^ (width + low) + (value % 2 ^ width * 2 ^ low + word % 2 ^ low)
  put_split = omega (arith, split)

  pub value_below : value % 2 ^ width < 2 ^ width
  value_below = mod_below value (2 ^ width) (pow_pos width)

  pub rest_below : word % 2 ^ low < 2 ^ low
  rest_below = mod_below word (2 ^ low) (pow_pos low)

  -- what lies in and below the part is smaller than the part's end
  pub low_below : value % 2 ^ width * 2 ^ low + word % 2 ^ low < 2 ^ (width + low)
  low_below =
      omega (arith, pow-add 2 width low, mul_comm (2 ^ width) (2 ^ low), mul-add-lt (value % 2 ^ width) (2 ^ low) (word % 2 ^ low) (2 ^ width) value_below rest_below)

  -- what lies above it stays
  pub put_above : put_part low width value word / 2 ^ (width + low) ≡ word / 2 ^ (width + low)
  put_above = ap (λ n. n / 2 ^ (width + low)) put_split ∙ shr_high (word / 2 ^ (width + low)) (width + low) _ low_below

  -- what lies in and below it
  put_lower : put_part low width value word % 2 ^ (width + low) ≡ value % 2 ^ width * 2 ^ low + word % 2 ^ low
  put_lower = ap (λ n. n % 2 ^ (width + low)) put_split ∙ mod_low (word / 2 ^ (width + low)) (width + low) _ low_below

  -- what was put is read
  pub put_reads_back : part low width (put_part low width value word) ≡ value % 2 ^ width
  put_reads_back =
      sym (field_of (put_part low width value word) width low)
      ∙ ap (λ n. n / 2 ^ low) put_lower
      ∙ shr_high (value % 2 ^ width) low (word % 2 ^ low) rest_below

  -- what lies below it stays
  pub put_below : put_part low width value word % 2 ^ low ≡ word % 2 ^ low
  put_below =
      omega (arith, mod-pow-add (put_part low width value word) width low, put_lower, ap (λ n. n * 2 ^ low) put_reads_back)

  -- the word stays within its bits
  pub put_fits : (bits : ℕ) → width + low ≤ bits → word < 2 ^ bits → put_part low width value word < 2 ^ bits
  put_fits bits within fits =
      let spare = bits - (width + low) in
      let all : 2 ^ bits ≡ 2 ^ spare * 2 ^ (width + low) = ap (λ n. 2 ^ n) (omega arith) ∙ pow-add 2 spare (width + low) in
      let above : word / 2 ^ (width + low) < 2 ^ spare =
      shr_below word spare (width + low) (omega (arith, all, pow-add 2 spare (width + low))) in
      omega (arith, put_split, all, mul_comm (2 ^ spare) (2 ^ (width + low)), mul-add-lt (word / 2 ^ (width + low)) (2 ^ (width + low)) (value % 2 ^ width * 2 ^ low + word % 2 ^ low) (2 ^ spare) above low_below)

-- bits above a place depend on what lies above it alone
part_above : (from low width m n : ℕ) → from ≤ low → m / 2 ^ from ≡ n / 2 ^ from → part low width m ≡ part low width n
part_above from low width m n le same =
    let beyond : (k : ℕ) → k / 2 ^ low ≡ k / 2 ^ from / 2 ^ (low - from) =
    λ k. ap (λ j. k / 2 ^ j) (omega arith) ∙ sym (shr-shr k from (low - from)) in
    ap (λ k. k % 2 ^ width) (beyond m ∙ ap (λ k. k / 2 ^ (low - from)) same ∙ sym (beyond n))

-- bits below a place depend on what lies below it alone
part_below : (end low width m n : ℕ) → width + low ≤ end → m % 2 ^ end ≡ n % 2 ^ end → part low width m ≡ part low width n
part_below end low width m n le same =
    let here : (k : ℕ) → part low width k ≡ k % 2 ^ end % 2 ^ (width + low) / 2 ^ low =
    λ k. sym (field_of k width low) ∙ ap (λ j. j / 2 ^ low) (sym (cut k)) in
    here m ∙ ap (λ k. k % 2 ^ (width + low) / 2 ^ low) same ∙ sym (here n)
  where
    cut : (k : ℕ) → k % 2 ^ end % 2 ^ (width + low) ≡ k % 2 ^ (width + low)
    cut k =
        let spare = end - (width + low) in
        ap (λ e. k % 2 ^ e % 2 ^ (width + low)) (omega arith)
        ∙ ap (λ j. j % 2 ^ (width + low)) (mod-pow-add k spare (width + low))
        ∙ mod_low (k / 2 ^ (width + low) % 2 ^ spare) (width + low) (k % 2 ^ (width + low)) (mod_below k (2 ^ (width + low)) (pow_pos (width + low)))

-- bits that are apart from the part stay
pub put_leaves : (low width value word low' width' : ℕ) → Apart low' width' low width → part low' width' (put_part low width value word) ≡ part low' width' word
put_leaves low width value word low' width' (inl below) =
    part_below low low' width' _ _ (omega arith) (put_below low width value word)
put_leaves low width value word low' width' (inr above) =
    part_above (width + low) low' width' _ _ (omega arith) (put_above low width value word)
