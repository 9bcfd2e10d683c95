-- The registers and sides that words name.
use Rattle.std.specs.Prelude.{ℕ, List, [], ◌∷◌, codes, Option}
use Rattle.std.specs.List.{find}
use Rattle.std.specs.Str.{bytes_eq}
use Rattle.board.specs.Registers.{name}
use Rattle.board.specs.declared.register.Register.{Register}
use Rattle.board.specs.declared.register.Side.{Side}
use Rattle.board.specs.declared.register.Side.TheVariants.{Panel, Camera}

-- the register among some that a word names
abbrev pub named : List Register → List ℕ → Option Register
named rs w = find (λ r. bytes_eq w (name r)) rs

abbrev pub side_name : Side → List ℕ
side_name Panel = codes "panel"
side_name Camera = codes "camera"

-- the side that a word names
abbrev pub side_named : List ℕ → Option Side
side_named w = find (λ s. bytes_eq w (side_name s)) (Panel ∷ (Camera ∷ []))
