-- A value that is put into a field.
use Rattle.std.proofs.Common.{ℕ, ◌+◌, ◌≤◌, refl, ◌∙◌, arith}
use Rattle.board.proofs.Parts.{put_reads_back, put_leaves, put_fits}
use Rattle.board.proofs.Rows.{table_law}
use Rattle.board.specs.FieldLaws.{PutLaw}
use Rattle.board.specs.Table.{place}
use Rattle.board.specs.declared.field.Field.{Field}

pub put_law : (f : Field) (value word : ℕ) → PutLaw f value word
put_law f value word =
    let low = (place f).low in
    let width = (place f).width in
    let within : width + low ≤ 32 = omega (arith, table_law.within_32 f) in
    record {
      reads_back = put_reads_back low width value word;
      others_stay = λ g same differ. put_leaves low width value word _ _ (table_law.no_overlap g f same differ);
      unnamed_stay_zero = λ i unnamed zero. put_leaves low width value word i 1 (unnamed f refl) ∙ zero;
      fits = put_fits low width value word 32 within;
    }
