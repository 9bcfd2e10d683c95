-- The table of fields: each field stands once in the row of its register, and the rows are in order.
use Rattle.std.proofs.Common.{◌≡◌, ℕ, ◌+◌, ◌≤◌, Bool, true, false, ◌||◌, eqb, leb, ◌⊎◌, List, [], ◌∷◌, sym, refl, ◌∙◌, subst, inl, inr, arith}
use mathlib.Core.List.{Memᴰ}
use Rattle.std.proofs.lemmas.Bool.{and_parts, or_cases, leb-true, eqb-true, false≢true}
use Rattle.board.proofs.Variants.{each, number, number_one}
use Rattle.board.specs.Fields.{in_order}
use Rattle.board.specs.FieldLaws.{Apart, TableLaw}
use Rattle.board.specs.Table.{place, fields_of}
use Rattle.board.specs.contracts.field.Field as fields
use Rattle.board.specs.contracts.register.Register as regs
use Rattle.board.specs.declared.field.Field.{Field}
use Rattle.board.specs.declared.register.Register.{Register}

abbrev listed : Field → List Field → Bool
listed f [] = false
listed f (g ∷ gs) = eqb (number fields.enum f) (number fields.enum g) || listed f gs

listed_member : (f : Field) (gs : List Field) → listed f gs ≡ true → Memᴰ f gs
listed_member f [] e = absurd (false≢true e)
listed_member f (g ∷ gs) e = elim (or_cases (eqb (number fields.enum f) (number fields.enum g)) (listed f gs) e) [
  | inl here ↦ Memᴰ.head (number_one fields.enum refl f g (eqb-true _ _ here))
  | inr there ↦ Memᴰ.tail (listed_member f gs there)
]

-- every field stands in the row of its register
member : (f : Field) → Memᴰ f (fields_of (place f).register)
member f = listed_member f _ (each fields.enum (λ g. listed g (fields_of (place g).register)) refl f)

row_in_order : (r : Register) → in_order r 0 (fields_of r) ≡ true
row_in_order r = each regs.enum (λ q. in_order q 0 (fields_of q)) refl r

-- what a row in order says of its first field, and of the rest
record First (r : Register) (from : ℕ) (g : Field) (gs : List Field) : Type 0 where
  begins : from ≤ (place g).low
  wide : 1 ≤ (place g).width
  rest : in_order r ((place g).low + (place g).width) gs ≡ true

first : (r : Register) (from : ℕ) (g : Field) (gs : List Field) → in_order r from (g ∷ gs) ≡ true → First r from g gs
first r from g gs e =
    let all = and_parts _ _ e in
    let three = and_parts _ _ all.0 in
    let two = and_parts _ _ three.0 in
    record { begins = leb-true _ _ two.1; wide = leb-true _ _ three.1; rest = all.1 }

end_of_row : (r : Register) (from : ℕ) (gs : List Field) → in_order r from gs ≡ true → from ≤ 32
end_of_row r from [] e = leb-true from 32 e
end_of_row r from (g ∷ gs) e =
    let h = first r from g gs e in
    omega (arith, h.begins, h.wide, end_of_row r ((place g).low + (place g).width) gs h.rest)

-- a field of a row in order begins where the row begins or later, and ends within 32 bits
within_row : (r : Register) (from : ℕ) (gs : List Field) → in_order r from gs ≡ true → (f : Field) → Memᴰ f gs
    → (from ≤ (place f).low) × (1 ≤ (place f).width) × ((place f).low + (place f).width ≤ 32)
within_row r from [] e f m = elim m [ ]
within_row r from (g ∷ gs) e f (Memᴰ.head same) =
    let h = first r from g gs e in
    subst (λ x. (from ≤ (place x).low) × (1 ≤ (place x).width) × ((place x).low + (place x).width ≤ 32)) (sym same)
    (h.begins, h.wide, end_of_row r ((place g).low + (place g).width) gs h.rest)
within_row r from (g ∷ gs) e f (Memᴰ.tail m) =
    let h = first r from g gs e in
    let t = within_row r ((place g).low + (place g).width) gs h.rest f m in
    (omega (arith, h.begins, t.0), t.1, t.2)

-- two fields of a row in order are the same, or have no bit in common
apart_in_row : (r : Register) (from : ℕ) (hs : List Field) → in_order r from hs ≡ true → (f g : Field)
    → Memᴰ f hs → Memᴰ g hs → (f ≡ g) ⊎ Apart (place f).low (place f).width (place g).low (place g).width
apart_in_row r from [] e f g m n = elim m [ ]
apart_in_row r from (h ∷ hs) e f g (Memᴰ.head a) (Memᴰ.head b) = inl (a ∙ sym b)
apart_in_row r from (h ∷ hs) e f g (Memᴰ.head a) (Memᴰ.tail n) =
    let t = within_row r ((place h).low + (place h).width) hs (first r from h hs e).rest g n in
    inr (subst (λ x. Apart (place x).low (place x).width (place g).low (place g).width) (sym a) (inl t.0))
apart_in_row r from (h ∷ hs) e f g (Memᴰ.tail m) (Memᴰ.head b) =
    let t = within_row r ((place h).low + (place h).width) hs (first r from h hs e).rest f m in
    inr (subst (λ x. Apart (place f).low (place f).width (place x).low (place x).width) (sym b) (inr t.0))
apart_in_row r from (h ∷ hs) e f g (Memᴰ.tail m) (Memᴰ.tail n) =
    apart_in_row r ((place h).low + (place h).width) hs (first r from h hs e).rest f g m n

pub table_law : TableLaw
table_law = record {
  computed = refl;
  not_empty = λ f. (within_row _ 0 _ (row_in_order (place f).register) f (member f)).1;
  narrow = λ f. leb-true _ _ (each fields.enum (λ g. leb (place g).width 16) refl f);
  within_32 = λ f. (within_row _ 0 _ (row_in_order (place f).register) f (member f)).2;
  no_overlap = λ f g same differ. elim (apart_in_row _ 0 _ (row_in_order (place f).register) f g (member f) (subst (λ r. Memᴰ g (fields_of r)) (sym same) (member g))) [
    | inl e ↦ absurd (differ e)
    | inr apart ↦ apart
  ];
}
