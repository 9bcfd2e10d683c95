-- The words of a line, by the spaces before a word and the bytes of it.
use Rattle.std.proofs.Common.{◌≡◌, ℕ, zero, suc, ◌+◌, ◌<◌, Bool, true, false, cond, not, List, [], ◌∷◌, ◌++◌, length, take, drop, sym, refl, ap, ◌∙◌, append_assoc, append-nil, length-append, arith}
use Rattle.std.specs.List.{prefix_len}
use Rattle.job.specs.Words.{words_after, words, is_space, is_other}

-- a space brings no word
pub space_first : (b : ℕ) (bs : List ℕ) → is_space b ≡ true → words (b ∷ bs) ≡ words bs
unfolding words
space_first b bs e = rw e refl

-- nor do the spaces before a line, k of them
after_first : (b : ℕ) (bs : List ℕ) (k : ℕ) (s : Bool) → is_space b ≡ s → suc k ≡ cond s (1 + prefix_len is_space bs) 0
    → (k ≡ prefix_len is_space bs → words (drop k bs) ≡ words bs) → words (drop k bs) ≡ words (b ∷ bs)
after_first b bs k true e is rest = rest (omega arith) ∙ sym (space_first b bs e)
after_first b bs k false e is rest = absurd (omega arith)

after_spaces : (bs : List ℕ) (k : ℕ) → k ≡ prefix_len is_space bs → words (drop k bs) ≡ words bs
after_spaces [] zero is = refl
after_spaces [] (suc k) is = refl
after_spaces (b ∷ bs) zero is = refl
after_spaces (b ∷ bs) (suc k) is = after_first b bs k (is_space b) refl is (after_spaces bs k)

-- where no word follows them, there is none
none_first : (b : ℕ) (bs : List ℕ) (s : Bool) → is_space b ≡ s → 0 ≡ cond s (1 + prefix_len is_space bs) 0
    → cond (not s) (1 + prefix_len is_other bs) 0 ≡ 0 → words (b ∷ bs) ≡ []
none_first b bs true e is none = absurd (omega arith)
none_first b bs false e is none = absurd (omega arith)

none_after : (b : ℕ) (bs : List ℕ) (k : ℕ) (s : Bool) → is_space b ≡ s → suc k ≡ cond s (1 + prefix_len is_space bs) 0
    → (k ≡ prefix_len is_space bs → words bs ≡ []) → words (b ∷ bs) ≡ []
none_after b bs k true e is rest = space_first b bs e ∙ rest (omega arith)
none_after b bs k false e is rest = absurd (omega arith)

pub no_word : (bs : List ℕ) (k : ℕ) → prefix_len is_other (drop k bs) ≡ 0 → k ≡ prefix_len is_space bs → words bs ≡ []
no_word [] k none is = nil where
  nil : words [] ≡ []
  nil = unfold words in refl
no_word (b ∷ bs) zero none is = none_first b bs (is_space b) refl is none
no_word (b ∷ bs) (suc k) none is = none_after b bs k (is_space b) refl is (no_word bs k none)

-- what has been read of a word goes on up to the next space
abbrev pub Goes : List ℕ → List ℕ → ℕ → Type 0
Goes w bs n = words_after w bs ≡ (w ++ take n bs) ∷ words (drop n bs)

ends_here : (w : List ℕ) (b : ℕ) (bs : List ℕ) (s : Bool) → 0 < length w → is_space b ≡ s
    → 0 ≡ cond (not s) (1 + prefix_len is_other bs) 0 → Goes w (b ∷ bs) 0
unfolding words
ends_here [] b bs s some e is = absurd (omega arith)
ends_here (c ∷ w) b bs true some e is = rw (e, append-nil) refl
ends_here (c ∷ w) b bs false some e is = absurd (omega arith)

goes_on : (w : List ℕ) (b : ℕ) (bs : List ℕ) (n : ℕ) (s : Bool) → is_space b ≡ s
    → suc n ≡ cond (not s) (1 + prefix_len is_other bs) 0
    → (n ≡ prefix_len is_other bs → Goes (w ++ (b ∷ [])) bs n) → Goes w (b ∷ bs) (suc n)
goes_on w b bs n true e is rest = absurd (omega arith)
goes_on w b bs n false e is rest =
    let step : words_after w (b ∷ bs) ≡ words_after (w ++ (b ∷ [])) bs = rw e refl in
    let joined : (w ++ (b ∷ [])) ++ take n bs ≡ w ++ (b ∷ take n bs) = append_assoc w (b ∷ []) (take n bs) in
    step ∙ rest (omega arith) ∙ ap (λ (x : List ℕ). x ∷ words (drop n bs)) joined

pub goes : (w bs : List ℕ) (n : ℕ) → n ≡ prefix_len is_other bs → 0 < length w + n → Goes w bs n
unfolding words
goes [] [] n is some = absurd (omega arith)
goes (c ∷ w) [] zero is some = rw append-nil refl
goes (c ∷ w) [] (suc n) is some = absurd (omega arith)
goes w (b ∷ bs) zero is some = ends_here w b bs (is_space b) (omega arith) refl is
goes w (b ∷ bs) (suc n) is some = goes_on w b bs n (is_space b) refl is (λ same. goes (w ++ (b ∷ [])) bs n same (omega (arith, length-append w (b ∷ []))))

-- the first word of a line that begins with k spaces has n bytes
pub word_cut : (bs : List ℕ) (k n : ℕ) → k ≡ prefix_len is_space bs → n ≡ prefix_len is_other (drop k bs) → 0 < n
    → take n (drop k bs) ∷ words (drop n (drop k bs)) ≡ words bs
unfolding words
word_cut bs k n spaces len some = sym (goes [] (drop k bs) n len (omega (arith, some))) ∙ after_spaces bs k spaces
