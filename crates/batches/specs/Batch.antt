-- Octets in batches: how a batch is written, and what stands in octets that are read.
use Rattle.std.specs.Prelude.{◌≡◌, ◌++◌, ◌^◌, ◌<◌, ℕ, List, length}
use Rattle.std.specs.List.{flat_map, AllByRecursion}
use Rattle.cfd_bits.specs.Field.{octets}
use Rattle.crc.specs.declared.thirty_two.Crc32.TheVariants.{Castagnoli}
use Rattle.crc.specs.FileChecks.{crc32_of}

-- the length of a text in eight octets, its CRC-32C in four, and the text
abbrev pub batch : List ℕ → List ℕ
batch text = octets 8 (length text) ++ octets 4 (crc32_of Castagnoli text) ++ text

-- one batch after another
abbrev pub batches_of : List (List ℕ) → List ℕ
batches_of texts = flat_map batch texts

-- What has a batch: it isn't empty, and its length is a number of eight octets. So octets of zero
-- are no batch, such as a file may have at its end after a loss of power.
pub record FitsBatch (text : List ℕ) : Type 0 where
  pub some : 0 < length text
  pub short : length text < 2 ^ 64

-- No batch stands at their front.
abbrev pub BeginsWithNone : List ℕ → Type 0
BeginsWithNone bytes = (text rest : List ℕ) → FitsBatch text → bytes ≡ batch text ++ rest → ⊥

-- Octets are the batches of these texts, and a tail that begins with none.
pub record AreBatches (bytes : List ℕ) (texts : List (List ℕ)) (tail : List ℕ) : Type 0 where
  pub octets : bytes ≡ batches_of texts ++ tail
  pub fit : AllByRecursion FitsBatch texts
  pub none : BeginsWithNone tail
