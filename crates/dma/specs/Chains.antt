-- What a list of descriptors says: the chain that it holds, and a load written into it.
use Rattle.std.specs.Prelude.{◌≡◌, ℕ, ◌+◌, ◌<◌, ◌≤◌, Bool, true, false, cond, List, [], ◌∷◌, length, get_or, drop, ◌==◌, nat_lt, slice_index_or}
use Rattle.dma.specs.declared.table.Descriptor.{Descriptor}
use Rattle.dma.specs.declared.table.Owner.{Owner}
use Rattle.dma.specs.declared.table.Owner.TheVariants.{Cpu, Dma}

-- the descriptors from the first through the first that is last
abbrev pub chain_count : List Descriptor → ℕ
chain_count [] = 0
chain_count (d ∷ ds) = cond d.last 1 (1 + chain_count ds)

abbrev pub is_dma : Owner → Bool
is_dma Cpu = false
is_dma Dma = true

-- n where the DMA is the owner, else 0
abbrev pub if_owned : Owner → ℕ → ℕ
if_owned Cpu n = 0
if_owned Dma n = n

-- how many of these, from the first on, belong to the DMA
abbrev pub chain_owned : List Descriptor → ℕ
chain_owned [] = 0
chain_owned (d ∷ ds) = if_owned d.owner (cond d.last 1 (1 + chain_owned ds))

-- a descriptor that was never written
abbrev pub unlinked : Descriptor
unlinked = record { owner = Cpu; last = true }

-- the descriptor at a place, from 0, of a chain
abbrev pub linked : ℕ → ℕ → ℕ → Descriptor
linked count owned place = record { owner = cond (nat_lt place owned) Dma Cpu; last = (place + 1 == count) }

-- what is left of a chain at a place, by the descriptor there, whatever stands for one past the end
pub record OneByOne (ds : List Descriptor) : Type 0 where
  pub counted : (i : ℕ) (d : Descriptor) → i < length ds →
      chain_count (drop i ds) ≡ cond (get_or ds i d).last 1 (1 + chain_count (drop (i + 1) ds))
  pub owned : (i : ℕ) (d : Descriptor) → i < length ds →
      chain_owned (drop i ds) ≡ if_owned (get_or ds i d).owner (cond (get_or ds i d).last 1 (1 + chain_owned (drop (i + 1) ds)))
  pub none_counted : (i : ℕ) → length ds ≤ i → chain_count (drop i ds) ≡ 0
  pub none_owned : (i : ℕ) → length ds ≤ i → chain_owned (drop i ds) ≡ 0

-- the first descriptors are those of a chain
abbrev pub Chained : ℕ → ℕ → List Descriptor → Type 0
Chained count owned ds = (k : ℕ) → k < count → slice_index_or ds k unlinked ≡ linked count owned k

-- a load is written into the first descriptors, and the others stay
pub record Written (count owned : ℕ) (before after : List Descriptor) : Type 0 where
  pub chain : Chained count owned after
  pub others : drop count after ≡ drop count before

-- a load of one descriptor or more that stands in the first descriptors is what they say
pub record ReadsBack (count owned : ℕ) (ds : List Descriptor) : Type 0 where
  pub counted : Chained count owned ds → 1 ≤ count → count ≤ length ds → chain_count ds ≡ count
  pub owned_read : Chained count owned ds → 1 ≤ count → count ≤ length ds → owned ≤ count → chain_owned ds ≡ owned
