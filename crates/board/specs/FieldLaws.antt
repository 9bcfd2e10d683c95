-- What holds of the table of fields, and of a word that a field is put into.
use Rattle.std.specs.Prelude.{◌≡◌, ℕ, ◌+◌, ◌%◌, ◌^◌, ◌<◌, ◌≤◌, ◌⊎◌, ◌≢◌, IsTrue}
use Rattle.board.specs.Fields.{part, field, put, all_in_order}
use Rattle.board.specs.Table.{place, registers}
use Rattle.board.specs.declared.field.Field.{Field}
use Rattle.board.specs.declared.register.Register.{Register}

-- two ranges of bits have none in common
abbrev pub Apart : ℕ → ℕ → ℕ → ℕ → Type 0
Apart low width low' width' = (low + width ≤ low') ⊎ (low' + width' ≤ low)

-- the bits of a field lie within 32 bits, and two fields of one register have none in common
pub record TableLaw : Type 0 where
  pub computed : IsTrue (all_in_order registers)
  pub not_empty : (f : Field) → 1 ≤ (place f).width
  pub narrow : (f : Field) → (place f).width ≤ 16
  pub within_32 : (f : Field) → (place f).low + (place f).width ≤ 32
  pub no_overlap : (f g : Field) → (place f).register ≡ (place g).register → (f ≢ g)
      → Apart (place f).low (place f).width (place g).low (place g).width

-- a bit of a register that belongs to no field
abbrev pub Unnamed : Register → ℕ → Type 0
Unnamed r i = (f : Field) → (place f).register ≡ r → Apart i 1 (place f).low (place f).width

-- what a word is after a value was put into a field
pub record PutLaw (f : Field) (value word : ℕ) : Type 0 where
  pub reads_back : field f (put f value word) ≡ value % 2 ^ (place f).width
  pub others_stay : (g : Field) → (place g).register ≡ (place f).register → (g ≢ f)
      → field g (put f value word) ≡ field g word
  pub unnamed_stay_zero : (i : ℕ) → Unnamed (place f).register i → part i 1 word ≡ 0 → part i 1 (put f value word) ≡ 0
  pub fits : word < 2 ^ 32 → put f value word < 2 ^ 32
