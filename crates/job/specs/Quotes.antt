-- A word of the input in a message.
use Rattle.std.specs.Prelude.{ℕ, ◌+◌, ◌/◌, ◌%◌, Bool, cond, not, ◌&&◌, List, [], ◌∷◌, ◌++◌, length, take, codes, ◌==◌, nat_le, nat_lt}
use Rattle.std.specs.List.{flat_map}

-- printable ASCII, but no quote, 34, and no backslash, 92
abbrev pub plain : ℕ → Bool
plain b = (nat_le 33 b && nat_le b 126) && (not (b == 34) && not (b == 92))

-- a hexadecimal digit: 0 to 9, a to f
abbrev pub hex : ℕ → ℕ
hex n = cond (nat_lt n 10) (48 + n) (87 + n)

-- a byte as it is, or \x and two hexadecimal digits
unfoldable pub escaped_byte : ℕ → List ℕ
escaped_byte b = cond (plain b) (b ∷ []) (codes "\\x" ++ (hex (b / 16) ∷ (hex (b % 16) ∷ [])))

abbrev pub escaped : List ℕ → List ℕ
escaped bs = flat_map escaped_byte bs

-- the first 32 bytes in quotes, and .. after them where the word is longer
abbrev pub quoted : List ℕ → List ℕ
quoted w =
    cond (nat_lt 32 (length w)) (codes "\"" ++ (escaped (take 32 w) ++ codes "\"..")) (codes "\"" ++ (escaped w ++ codes "\""))
