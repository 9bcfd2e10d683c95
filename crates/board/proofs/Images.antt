-- Words of an image one by one: cleaned, and put in force.
use Rattle.std.proofs.Common.{◌≡◌, ℕ, zero, suc, ◌+◌, ◌-◌, ◌^◌, ◌<◌, ◌≤◌, ◌≢◌, List, [], ◌∷◌, ◌++◌, length, get_or, take, drop, set, sym, refl, ap, ◌∙◌, inl, inr, le_of_suc-le-suc, not-suc-le-zero, add-one, arith}
use lib.Bits.{bit_and}
use Rattle.std.proofs.lemmas.List.{get_or-set_other, get_or-drop, take_all, drop_all, append-nil}
use Rattle.board.specs.Images.{masked, masks, n_in_force, KeptPlace}

-- one word more is cleaned
pub masked_more : (ms ws : List ℕ) (i : ℕ) → length ms ≡ length ws → i < length ws
    → set (take i (masked ms ws) ++ drop i ws) i (bit_and (get_or (take i (masked ms ws) ++ drop i ws) i 0) (get_or ms i 0))
    ≡ take (suc i) (masked ms ws) ++ drop (suc i) ws
masked_more [] [] i same h = absurd (not-suc-le-zero h)
masked_more [] (w ∷ ws) i same h = absurd (omega arith)
masked_more (m ∷ ms) [] i same h = absurd (omega arith)
masked_more (m ∷ ms) (w ∷ ws) zero same h = refl
masked_more (m ∷ ms) (w ∷ ws) (suc i) same h =
    ap (λ xs. bit_and w m ∷ xs) (masked_more ms ws i (omega arith) (le_of_suc-le-suc h))

pub length-masked : (ms ws : List ℕ) → length ms ≡ length ws → length (masked ms ws) ≡ length ws
length-masked [] [] same = refl
length-masked [] (w ∷ ws) same = absurd (omega arith)
length-masked (m ∷ ms) [] same = absurd (omega arith)
length-masked (m ∷ ms) (w ∷ ws) same = ap suc (length-masked ms ws (omega arith))

-- a word in the mask of its place leaves a clean image clean
pub masked_set : (ms ws : List ℕ) (i v : ℕ) → masked ms ws ≡ ws → bit_and v (get_or ms i 0) ≡ v → masked ms (set ws i v) ≡ set ws i v
masked_set [] [] i v clean within = refl
masked_set [] (w ∷ ws) i v clean within = absurd (omega (arith, ap length clean))
masked_set (m ∷ ms) [] i v clean within = refl
masked_set (m ∷ ms) (w ∷ ws) zero v clean within =
    let rest : masked ms ws ≡ ws = cc in
    cc
masked_set (m ∷ ms) (w ∷ ws) (suc i) v clean within =
    let here : bit_and w m ≡ w = cc in
    let rest : masked ms ws ≡ ws = cc in
    let step = masked_set ms ws i v rest within in
    cc

module _ (ws : List ℕ) (whole : length ws ≡ 34) where
  pub cleaned_more : (i : ℕ) (now : List ℕ) → i < 34 → now ≡ take i (masked masks ws) ++ drop i ws
      → set now i (bit_and (get_or now i 0) (get_or masks i 0)) ≡ take (i + 1) (masked masks ws) ++ drop (i + 1) ws
  cleaned_more i now h same =
      ap (λ xs. set xs i (bit_and (get_or xs i 0) (get_or masks i 0))) same
      ∙ masked_more masks ws i (sym whole) (omega arith)
      ∙ ap (λ j. take j (masked masks ws) ++ drop j ws) (sym (add-one i))

  pub cleaned_all : (i : ℕ) → 34 ≤ i → take i (masked masks ws) ++ drop i ws ≡ masked masks ws
  cleaned_all i h =
      let long : length (masked masks ws) ≤ i = omega (arith, length-masked masks ws (sym whole)) in
      let short : length ws ≤ i = omega arith in
      let front = take_all i (masked masks ws) long in
      let back = drop_all i ws short in
      let none = append-nil (masked masks ws) in
      cc

-- a word of no register passes its mask whole
first_four : (x : ℕ) (rest : List ℕ) (j : ℕ) → j < 4 → get_or (x ∷ (x ∷ (x ∷ (x ∷ rest)))) j 0 ≡ x
first_four x rest zero h = refl
first_four x rest (suc zero) h = refl
first_four x rest (suc (suc zero)) h = refl
first_four x rest (suc (suc (suc zero))) h = refl
first_four x rest (suc (suc (suc (suc j)))) h = absurd (omega arith)

pub kept_mask : (k : ℕ) → KeptPlace k → get_or masks k 0 ≡ 2 ^ 32 - 1
kept_mask k (inl p) =
    let is : k ≡ 12 + (k - 12) = omega (arith, p.0) in
    ap (λ n. get_or masks n 0) is
    ∙ sym (get_or-drop 12 masks (k - 12) 0) ∙ first_four (2 ^ 32 - 1) (drop 16 masks) (k - 12) (omega (arith, p.0, p.1))
kept_mask k (inr p) =
    let is : k ≡ 28 + (k - 28) = omega (arith, p.0) in
    ap (λ n. get_or masks n 0) is
    ∙ sym (get_or-drop 28 masks (k - 28) 0) ∙ first_four (2 ^ 32 - 1) (drop 32 masks) (k - 28) (omega (arith, p.0, p.1))

-- the words below 16 stay
pub in_force_below : (n from : ℕ) (ws : List ℕ) (k : ℕ) → k < 16 → get_or (n_in_force n from ws) k 0 ≡ get_or ws k 0
in_force_below zero from ws k h = refl
in_force_below (suc n) from ws k h =
    let apart : k ≢ 16 + (from + n) = omega arith in
    get_or-set_other (n_in_force n from ws) (16 + (from + n)) k _ 0 apart ∙ in_force_below n from ws k h

-- one word more is put in force
pub in_force_more : (i from : ℕ) (ws now : List ℕ) → from + i < 16 → now ≡ n_in_force i from ws
    → set now (16 + (from + i)) (bit_and (get_or now (from + i) 0) (get_or masks (16 + (from + i)) 0)) ≡ n_in_force (i + 1) from ws
in_force_more i from ws now h same =
    let old : get_or now (from + i) 0 ≡ get_or ws (from + i) 0 =
    ap (λ xs. get_or xs (from + i) 0) same ∙ in_force_below i from ws (from + i) h in
    ap (λ xs. set xs (16 + (from + i)) (bit_and (get_or now (from + i) 0) (get_or masks (16 + (from + i)) 0))) same
    ∙ ap (λ v. set (n_in_force i from ws) (16 + (from + i)) (bit_and v (get_or masks (16 + (from + i)) 0))) old
    ∙ ap (λ j. n_in_force j from ws) (sym (add-one i))
