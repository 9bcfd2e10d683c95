-- Worked cases of the rules, each computed.
use Rattle.std.specs.Prelude.{ℕ, ◌*◌, Bool, true, false, ◌&&◌, List, [], ◌∷◌, ◌==◌, slice_index}
use Rattle.clock.specs.Divider.{hertz}
use Rattle.clock.specs.Search.{Answer, searched}
use Rattle.clock.specs.Search.Answer.{setting, refused}

-- a frequency and its sources, the answer that the rules give, and its whole hertz, 0 for a refusal
pub record Case : Type 0 where
  pub frequency : ℕ
  pub sources : List ℕ
  pub answer : Answer
  pub output : ℕ

-- the crystal, PLL_D2 and crypto clocks
abbrev pub usual : List ℕ
usual = 40000000 ∷ (240000000 ∷ (160000000 ∷ []))

abbrev pub one : ℕ → List ℕ
one s = s ∷ []

abbrev pub set_to : ℕ → ℕ → ℕ → ℕ → Answer
set_to i n b a = setting i (record { div_num = n; div_b = b; div_a = a })

abbrev pub worked_cases : List Case
worked_cases =
    record { frequency = 24000000; sources = usual; answer = set_to 1 10 0 0; output = 24000000 }
    ∷ (record { frequency = 26000000; sources = usual; answer = set_to 1 9 3 13; output = 26000000 }
    ∷ (record { frequency = 2 * 77821; sources = usual; answer = refused 3; output = 0 }
    ∷ (record { frequency = 2 * 77822; sources = usual; answer = set_to 0 0 1 1; output = 155642 }
    ∷ (record { frequency = 100; sources = one 201; answer = set_to 0 2 1 63; output = 99 }
    ∷ (record { frequency = 100; sources = one 299; answer = set_to 0 2 1 1; output = 99 }
    ∷ (record { frequency = 100; sources = one 199; answer = set_to 0 1 0 0; output = 99 }
    ∷ (record { frequency = 100; sources = one 200; answer = set_to 0 2 0 0; output = 100 }
    ∷ (record { frequency = 1; sources = one 256; answer = set_to 0 0 0 0; output = 1 }
    ∷ (record { frequency = 1; sources = one 257; answer = refused 3; output = 0 }
    ∷ (record { frequency = 2; sources = one 513; answer = set_to 0 0 1 2; output = 2 } ∷ []))))))))))

abbrev pub same_answer : Answer → Answer → Bool
same_answer (setting i d) (setting j e) =
    (i == j) && d.div_num == e.div_num && d.div_b == e.div_b && d.div_a == e.div_a
same_answer (setting i d) (refused n) = false
same_answer (refused n) (setting i d) = false
same_answer (refused n) (refused m) = n == m

abbrev pub output_of : List ℕ → Answer → ℕ
output_of ss (setting i d) = hertz (slice_index ss i) d
output_of ss (refused n) = 0

abbrev pub holds : Case → Bool
holds c =
    same_answer (searched c.frequency c.sources) c.answer
    && output_of c.sources (searched c.frequency c.sources) == c.output

abbrev pub all_hold : List Case → Bool
all_hold [] = true
all_hold (c ∷ cs) = holds c && all_hold cs
