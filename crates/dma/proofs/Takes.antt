-- Calls of `take`, counted.
use Rattle.std.proofs.Common.{◌≡◌, ℕ, zero, suc, refl, ◌∙◌, arith}
use Rattle.std.proofs.lemmas.Bool.Decides.{nat_tests}
use Rattle.dma.specs.Strips.{after_takes, TakesLaw}
use Rattle.dma.specs.declared.strips.StripView.{StripView}

same_buffer : (n : ℕ) (v : StripView) → (after_takes n v).buffer ≡ v.buffer
same_buffer zero v = refl
same_buffer (suc n) v = same_buffer n v

pub takes_law : (v : StripView) → v.taken ≡ 0 → TakesLaw v
takes_law v e zero = e ∙ omega arith
takes_law v e (suc n) =
    let before = takes_law v e n in
    let same = same_buffer n v in
    grind (arith, nat_tests)
