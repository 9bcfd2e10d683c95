-- Reading a field of a word, putting a value into it, and what a register stores of a written word.
use Rattle.std.specs.Prelude.{ℕ, ◌+◌, ◌-◌, ◌*◌, ◌/◌, ◌%◌, ◌^◌, Bool, true, false, cond, ◌&&◌, List, [], ◌∷◌, ◌==◌, bit_and, nat_le}
use Rattle.board.specs.Registers.{same_register}
use Rattle.board.specs.Table.{place, fields_of}
use Rattle.board.specs.declared.field.Field.{Field}
use Rattle.board.specs.declared.field.Role.{Role}
use Rattle.board.specs.declared.field.Role.TheVariants.{Setting, ClockSetting, Update, Start, Reset, AfifoReset}
use Rattle.board.specs.declared.register.Register.{Register}

-- the number that some bits of a word write: `width` of them, from the bit `low` on
abbrev pub part : ℕ → ℕ → ℕ → ℕ
part low width word = word / 2 ^ low % 2 ^ width

-- the word with these bits exchanged for a value that is cut to them
abbrev pub put_part : ℕ → ℕ → ℕ → ℕ → ℕ
put_part low width value word = word - part low width word * 2 ^ low + value % 2 ^ width * 2 ^ low

abbrev pub field : Field → ℕ → ℕ
field f word = part (place f).low (place f).width word

abbrev pub put : Field → ℕ → ℕ → ℕ
put f value word = put_part (place f).low (place f).width value word

-- a field of one bit as a flag
abbrev pub flag : Field → ℕ → Bool
flag f word = field f word == 1

abbrev pub bit : Bool → ℕ
bit b = cond b 1 0

-- the settings are stored; what only acts reads as 0, and start is kept apart
abbrev pub stores : Role → Bool
stores Setting = true
stores ClockSetting = true
stores Update = false
stores Start = false
stores Reset = false
stores AfifoReset = false

-- the bits of a field, as a mask
abbrev pub mask : Field → ℕ
mask f = (2 ^ (place f).width - 1) * 2 ^ (place f).low

abbrev pub mask_of_stored : List Field → ℕ
mask_of_stored [] = 0
mask_of_stored (f ∷ fs) = cond (stores (place f).role) (mask f) 0 + mask_of_stored fs

abbrev pub stored_mask : Register → ℕ
stored_mask r = mask_of_stored (fields_of r)

-- what a register stores of a written word
abbrev pub stored : Register → ℕ → ℕ
stored r word = bit_and word (stored_mask r)

-- the fields of a register, from the bit `from` on: each belongs to it, has a bit or more, and begins where the one
-- before has ended or later, and the last ends within 32 bits
abbrev pub in_order : Register → ℕ → List Field → Bool
in_order r from [] = nat_le from 32
in_order r from (f ∷ fs) =
    same_register r (place f).register && nat_le from (place f).low && nat_le 1 (place f).width
    && in_order r ((place f).low + (place f).width) fs

abbrev pub all_in_order : List Register → Bool
all_in_order [] = true
all_in_order (r ∷ rs) = in_order r 0 (fields_of r) && all_in_order rs
