-- Bytes that are shown as they are, and numbers in hexadecimal digits.
use Rattle.std.proofs.Common.{◌≡◌, ℕ, zero, suc, ◌+◌, ◌-◌, ◌/◌, ◌%◌, ◌^◌, ◌<◌, ◌≤◌, Bool, true, false, cond, eqb, leb, List, [], ◌∷◌, ◌++◌, length, replicate, codes, sym, refl, ap, ◌∙◌, pow-suc, append-nil, arith}
use Rattle.std.proofs.Math.Nat.{sub-zero}
use lib.Utf8.{encode}
use Rattle.std.specs.Fmt.{digits, digits_onto, padded_integral, format_spec, char_count}
use Rattle.std.proofs.lemmas.Fmt.{hex_byte}
use Rattle.std.proofs.lemmas.Str.Ascii.{encode_ascii}
use Rattle.std.proofs.lemmas.Bool.{and_parts, leb-true, cond-true, cond-false, eqb-true, eqb-false}
use Rattle.job.specs.Hexadecimal.{hex_word}
use Rattle.job.specs.Quotes.{plain, hex, escaped_byte}

plain_small : (b : ℕ) → plain b ≡ true → b < 128
plain_small b e = omega (arith, leb-true b 126 (and_parts (leb 33 b) _ (and_parts _ _ e).0).1)

pub plain_shown : (b : ℕ) → true ≡ plain b → encode b ≡ escaped_byte b
unfolding escaped_byte
plain_shown b e = encode_ascii b (plain_small b (sym e)) ∙ sym (cond-true (plain b) _ _ (sym e))

pub other_shown : (b : ℕ) → b < 256 → false ≡ plain b
    → codes "\\x" ++ padded_integral (format_spec 32 0 4 2 (2 ^ 64 - 1)) false [] (digits 16 false b) ≡ escaped_byte b
unfolding escaped_byte
other_shown b small e =
    ap (λ (x : List ℕ). codes "\\x" ++ x) (hex_byte false b small) ∙ sym (cond-false (plain b) _ _ (sym e))

-- the last d digits of n, and then others
abbrev fixed : ℕ → ℕ → List ℕ → List ℕ
fixed zero n others = others
fixed (suc d) n others = fixed d (n / 16) (hex (n % 16) ∷ others)

onto_zero : (d : ℕ) (others : List ℕ) → replicate d 48 ++ (48 ∷ others) ≡ replicate (suc d) 48 ++ others
onto_zero zero others = refl
onto_zero (suc d) others = ap (λ (l : List ℕ). 48 ∷ l) (onto_zero d others)

zeros : (d : ℕ) (others : List ℕ) → fixed d 0 others ≡ replicate d 48 ++ others
zeros zero others = refl
zeros (suc d) others = zeros d (48 ∷ others) ∙ onto_zero d others

-- zeros before the digits of n fill them up to d
abbrev Filled : ℕ → ℕ → List ℕ → List ℕ → Type 0
Filled d n others shown = replicate (d + length others - length shown) 48 ++ shown ≡ fixed d n others

filled_last : (d n : ℕ) (others : List ℕ) → n / 16 ≡ 0 → Filled (suc d) n others (hex (n % 16) ∷ others)
filled_last d n others last =
    let rest : suc d + length others - length (hex (n % 16) ∷ others) ≡ d = omega arith in
    rw (rest, last) (sym (zeros d (hex (n % 16) ∷ others)))

filled_next : (k d n : ℕ) (others : List ℕ) → (n / 16 ≡ 0 → ⊥) → n < 16 ^ suc d
    → (0 < d → n / 16 < 16 ^ d → Filled d (n / 16) (hex (n % 16) ∷ others) (digits_onto k 16 false (n / 16) (hex (n % 16) ∷ others)))
    → Filled (suc d) n others (digits_onto k 16 false (n / 16) (hex (n % 16) ∷ others))
filled_next k zero n others more small rest = absurd (omega arith)
filled_next k (suc d) n others more small rest =
    let front : n / 16 < 16 ^ suc d = omega (arith, pow-suc 16 (suc d)) in
    let shown = digits_onto k 16 false (n / 16) (hex (n % 16) ∷ others) in
    let same : suc d + length (hex (n % 16) ∷ others) - length shown ≡ suc (suc d) + length others - length shown = omega arith in
    ap (λ (m : ℕ). replicate m 48 ++ shown) (sym same) ∙ rest (omega arith) front

filled : (k d n : ℕ) (others : List ℕ) → d ≤ k → 0 < d → n < 16 ^ d → Filled d n others (digits_onto k 16 false n others)
filled k zero n others le some small = absurd (omega arith)
filled zero (suc d) n others le some small = absurd (omega arith)
filled (suc k) (suc d) n others le some small =
    by_test (eqb (n / 16) 0) refl (filled k d (n / 16) (hex (n % 16) ∷ others) (omega arith)) where
      by_test : (t : Bool) → eqb (n / 16) 0 ≡ t
          → (0 < d → n / 16 < 16 ^ d → Filled d (n / 16) (hex (n % 16) ∷ others) (digits_onto k 16 false (n / 16) (hex (n % 16) ∷ others)))
          → Filled (suc d) n others (cond t (hex (n % 16) ∷ others) (digits_onto k 16 false (n / 16) (hex (n % 16) ∷ others)))
      by_test true e rest = filled_last d n others (eqb-true _ _ e)
      by_test false e rest = filled_next k d n others (eqb-false _ _ e) small rest

digits_are : (base n : ℕ) → digits base false n ≡ digits_onto 64 base false n []
unfolding digits
digits_are base n = refl

padded : (xs : List ℕ) → padded_integral (format_spec 32 0 4 8 (2 ^ 64 - 1)) false [] xs ≡ replicate (8 - length xs) 48 ++ xs
unfolding padded_integral char_count
padded xs = rw (sub-zero, sub-zero, append-nil) refl

eight : (w : ℕ) → w < 2 ^ 32 → fixed 8 w [] ≡ hex_word w
eight w small =
    let e7 : w / 16 / 16 / 16 / 16 / 16 / 16 / 16 % 16 ≡ w / 16777216 / 16 = omega arith in
    let e6 : w / 16 / 16 / 16 / 16 / 16 / 16 % 16 ≡ w / 16777216 % 16 = omega arith in
    let e5 : w / 16 / 16 / 16 / 16 / 16 % 16 ≡ w / 65536 % 256 / 16 = omega arith in
    let e4 : w / 16 / 16 / 16 / 16 % 16 ≡ w / 65536 % 256 % 16 = omega arith in
    let e3 : w / 16 / 16 / 16 % 16 ≡ w / 256 % 256 / 16 = omega arith in
    let e2 : w / 16 / 16 % 16 ≡ w / 256 % 256 % 16 = omega arith in
    let e1 : w / 16 % 16 ≡ w % 256 / 16 = omega arith in
    let e0 : w % 16 ≡ w % 256 % 16 = omega arith in
    λ i. hex (e7 i) ∷ (hex (e6 i) ∷ (hex (e5 i) ∷ (hex (e4 i) ∷ (hex (e3 i) ∷ (hex (e2 i) ∷ (hex (e1 i) ∷ (hex (e0 i) ∷ [])))))))

pub word_shown : (w : ℕ) → w < 2 ^ 32
    → padded_integral (format_spec 32 0 4 8 (2 ^ 64 - 1)) false [] (digits 16 false w) ≡ hex_word w
word_shown w small =
    padded (digits 16 false w)
    ∙ ap (λ (xs : List ℕ). replicate (8 - length xs) 48 ++ xs) (digits_are 16 w)
    ∙ filled 64 8 w [] (omega arith) (omega arith) (omega arith)
    ∙ eight w small
