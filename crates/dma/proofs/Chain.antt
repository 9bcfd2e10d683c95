-- Descriptors one by one: a load written into them, and read back.
use Rattle.std.proofs.Common.{◌≡◌, ℕ, zero, suc, ◌+◌, ◌-◌, ◌≤◌, Bool, List, [], ◌∷◌, length, min, not, take, refl, arith}
use Rattle.std.proofs.lemmas.List.{at_drop_more, at_drop_all}
use Rattle.std.proofs.lemmas.List.Sums.{prefix_len_is, prefix_len_passes, prefix_len_stops}
use Rattle.std.specs.List.{prefix_len}
use Rattle.std.proofs.lemmas.Bool.Decides.{nat_tests}
use Rattle.dma.specs.Chains.{is_dma, unlinked, chain_count, chain_owned, Chained, OneByOne, ReadsBack}
use Rattle.dma.specs.declared.table.Descriptor.{Descriptor}

-- a chain is read from the first descriptor on
pub one_by_one : (ds : List Descriptor) → OneByOne ds
one_by_one ds =
    record {
      counted = λ i d lt. at_drop_more chain_count ds i d lt;
      owned = λ i d lt. at_drop_more chain_owned ds i d lt;
      none_counted = λ i le. at_drop_all chain_count ds i le;
      none_owned = λ i le. at_drop_all chain_owned ds i le;
    }

-- a chain has one descriptor more than come before the first that is last, if there are so many
pub chain_counted : (ds : List Descriptor) →
    chain_count ds ≡ min (prefix_len (λ d. not d.last) ds + 1) (length ds)
chain_counted [] = refl
chain_counted (d ∷ ds) = let rest = chain_counted ds in grind (arith, nat_tests)

-- of a chain those belong to the DMA that are its own from the first on
pub chain_owned_first : (ds : List Descriptor) →
    chain_owned ds ≡ min (prefix_len (λ d. is_dma d.owner) ds) (chain_count ds)
chain_owned_first [] = refl
chain_owned_first (d ∷ ds) = let rest = chain_owned_first ds in grind (arith, nat_tests)

-- of the first n elements as many pass in front as of all, and n at most
pub prefix_within : {X : Type 0} (p : X → Bool) (xs : List X) (n : ℕ) → prefix_len p (take n xs) ≡ min (prefix_len p xs) n
prefix_within p [] zero = refl
prefix_within p [] (suc n) = omega arith
prefix_within p (x ∷ xs) zero = omega arith
prefix_within p (x ∷ xs) (suc n) = let rest = prefix_within p xs n in grind (arith, nat_tests)

-- a load that stands in the first descriptors is read from them
module _ (count owned : ℕ) (ds : List Descriptor) (chain : Chained count owned ds) (some : 1 ≤ count) (fits : count ≤ length ds) where
  one_is_last : prefix_len (λ d. not d.last) ds ≡ count - 1
  one_is_last =
      prefix_len_is (λ d. not d.last) ds (count - 1) unlinked (omega arith)
      (λ k lt. let here = chain k (omega arith) in grind (arith, nat_tests))
      (λ lt. let here = chain (count - 1) (omega arith) in grind (arith, nat_tests))

  some_are_owned : owned ≤ count → min (prefix_len (λ d. is_dma d.owner) ds) count ≡ owned
  some_are_owned within =
      let passes = prefix_len_passes (λ d. is_dma d.owner) ds owned unlinked in
      let stops = prefix_len_stops (λ d. is_dma d.owner) ds unlinked in
      let at_owned = chain owned in
      let at_stop = chain (prefix_len (λ d. is_dma d.owner) ds) in
      grind (arith, nat_tests)

  pub read_count : chain_count ds ≡ count
  read_count = omega (arith, chain_counted ds, one_is_last)

  pub read_owned : owned ≤ count → chain_owned ds ≡ owned
  read_owned within = omega (arith, chain_owned_first ds, read_count, some_are_owned within)

pub reads_back : (count owned : ℕ) (ds : List Descriptor) → ReadsBack count owned ds
reads_back count owned ds = record { counted = read_count count owned ds; owned_read = read_owned count owned ds }
