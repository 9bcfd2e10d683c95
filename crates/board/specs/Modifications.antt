-- What users count on where one field is changed: read its register, put the value, write the register.
use Rattle.std.specs.Prelude.{◌≡◌, ℕ, ◌%◌, ◌^◌, ◌≢◌, IsTrue}
use Rattle.board.specs.Fields.{field, put, stores}
use Rattle.board.specs.States.{BoardState, read, written, written_word, word_in_force}
use Rattle.board.specs.Table.{place}
use Rattle.board.specs.declared.field.Field.{Field}
use Rattle.board.specs.declared.field.Role.TheVariants.{Update}

abbrev pub written_field : Field → BoardState → ℕ
written_field f b = field f (written_word (place f).register b)

abbrev pub field_in_force : Field → BoardState → ℕ
field_in_force f b = field f (word_in_force (place f).register b)

abbrev pub modified : Field → ℕ → BoardState → BoardState
modified f v b = written (place f).register (put f v (read (place f).register b)) b

-- a setting has the value, cut to the field; every other field of the board stays as it was written, and what is in
-- force stays too, unless the field is update
pub record ModifyLaw (f : Field) (v : ℕ) (b c : BoardState) : Type 0 where
  pub has_the_value : IsTrue (stores (place f).role) → written_field f c ≡ v % 2 ^ (place f).width
  pub others_stay : (g : Field) → (g ≢ f) → written_field g c ≡ written_field g b
  pub in_force_stays : ((place f).role ≢ Update) → (g : Field) → field_in_force g c ≡ field_in_force g b
  pub same_sources : c.sources ≡ b.sources
