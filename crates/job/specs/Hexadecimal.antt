-- Words in hexadecimal digits.
use Rattle.std.specs.Prelude.{ℕ, ◌/◌, ◌%◌, List, [], ◌∷◌, ◌++◌}
use Rattle.job.specs.Quotes.{hex}

abbrev pub hex_byte : ℕ → List ℕ
hex_byte b = hex (b / 16) ∷ (hex (b % 16) ∷ [])

-- eight digits, the highest first
abbrev pub hex_word : ℕ → List ℕ
hex_word w =
    hex_byte (w / 16777216) ++ (hex_byte (w / 65536 % 256) ++ (hex_byte (w / 256 % 256) ++ hex_byte (w % 256)))
