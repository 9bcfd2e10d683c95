-- The words of a line: the runs of bytes other than a space.
use Rattle.std.specs.Prelude.{ℕ, Bool, cond, not, List, [], ◌∷◌, ◌++◌, ◌==◌}

-- a space is the byte 32
abbrev pub is_space : ℕ → Bool
is_space b = b == 32

abbrev pub is_other : ℕ → Bool
is_other b = not (is_space b)

-- a word that ends stands before the words that follow, unless it is empty
abbrev pub ended : List ℕ → List (List ℕ) → List (List ℕ)
ended [] ws = ws
ended (b ∷ bs) ws = (b ∷ bs) ∷ ws

-- the words of the bytes to come, where `word` has been read of a word: a space ends it, another byte goes on
abbrev pub words_after : List ℕ → List ℕ → List (List ℕ)
words_after word [] = ended word []
words_after word (b ∷ bs) =
    cond (is_space b) (ended word (words_after [] bs)) (words_after (word ++ (b ∷ [])) bs)

unfoldable pub words : List ℕ → List (List ℕ)
words line = words_after [] line
