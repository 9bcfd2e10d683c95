-- A packed setting reads back where its numbers fit their bits, and a packed refusal always.
use Rattle.std.proofs.Common.{◌≡◌, ℕ, ◌+◌, ◌-◌, ◌*◌, ◌/◌, ◌%◌, ◌^◌, ◌<◌, true, false, leb, sym, ap, ◌∙◌, mod-eq_of_lt, arith}
use Rattle.std.proofs.lemmas.Bool.{le-leb, lt-leb}
use Rattle.clock.specs.Laws.{FitsFields}
use Rattle.clock.specs.Packed.{lcd_cam_sources, packed, unpacked}
use Rattle.clock.specs.Search.{searched}
use Rattle.clock.specs.Search.Answer.{setting, refused}
use Rattle.clock.specs.declared.divider.ClockDivider.{ClockDivider}
use Rattle.clock.proofs.Sources.{search_law}

two_bits : (i : ℕ) → i < 3 → (i + 1) % 2 ^ 2 - 1 ≡ i
two_bits i lt = let whole : (i + 1) % 2 ^ 2 ≡ i + 1 = mod-eq_of_lt (omega arith) in omega arith

pub setting_reads : (i : ℕ) (d : ClockDivider) → i < 3 → FitsFields d → unpacked (packed (setting i d)) ≡ setting i d
setting_reads i d lt fits =
    let w = packed (setting i d) in
    let n = d.div_num in
    let b = d.div_b in
    let a = d.div_a in
    let hn = fits.num_fits in
    let hb = fits.b_fits in
    let ha = fits.a_fits in
    let test : leb (2 ^ 31) w ≡ false = lt-leb _ _ (omega arith) in
    let en : w % 2 ^ 8 ≡ n = omega arith in
    let above_n : w / 2 ^ 8 ≡ (i + 1) * 4096 + a * 64 + b = omega arith in
    let above_b : w / 2 ^ 14 ≡ (i + 1) * 64 + a = omega arith in
    let low_b : ((i + 1) * 4096 + a * 64 + b) % 2 ^ 6 ≡ b = omega arith in
    let low_a : ((i + 1) * 64 + a) % 2 ^ 6 ≡ a = omega arith in
    let eb : w / 2 ^ 8 % 2 ^ 6 ≡ b = ap (λ (q : ℕ). q % 2 ^ 6) above_n ∙ low_b in
    let ea : w / 2 ^ 14 % 2 ^ 6 ≡ a = ap (λ (q : ℕ). q % 2 ^ 6) above_b ∙ low_a in
    let above_a : w / 2 ^ 20 ≡ i + 1 = omega arith in
    let ei : w / 2 ^ 20 % 2 ^ 2 - 1 ≡ i = ap (λ (q : ℕ). q % 2 ^ 2 - 1) above_a ∙ two_bits i lt in
    rw test (λ k. setting (ei k) (record { div_num = en k; div_b = eb k; div_a = ea k }))

pub refused_reads : (n : ℕ) → unpacked (packed (refused n)) ≡ refused n
refused_reads n =
    let test : leb (2 ^ 31) (2 ^ 31 + n) ≡ true = le-leb _ _ (omega arith) in
    let en : 2 ^ 31 + n - 2 ^ 31 ≡ n = omega arith in
    rw test (ap refused en)

-- the setting that the rules give for three sources fits
pub three_fit : (r x y z i : ℕ) (d : ClockDivider) → setting i d ≡ searched r (lcd_cam_sources x y z) → (i < 3) × FitsFields d
three_fit r x y z i d e =
    let best = (search_law r (lcd_cam_sources x y z)).best i d (sym e) in
    (best.known_source, best.fits_the_fields)
