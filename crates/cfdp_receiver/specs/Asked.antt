-- What one NAK asks for, as it lies in memory.
use Rattle.std.specs.Prelude.{◌≡◌, ℕ, ◌≤◌, ◌++◌, Bool, List, [], ◌∷◌, length, take, if◌then◌else◌}
use Rattle.std.specs.List.{AllByRecursion}
use Rattle.cfdp_directives.specs.Pdu.Codes.{file_size_octets, size_limit}
use Rattle.cfdp_directives.specs.Pdu.Pair.{IsPair}
use Rattle.cfdp_receiver.specs.declared.asked.Asked.{Asked}
use Rattle.cfdp_receiver.specs.State.{ReceiverState}
use Rattle.cfdp_receiver.specs.Missing.{asked, has_more, last_end, missing_pairs}

-- gaps, and Metadata before them if it is asked for
abbrev pub with_metadata : Bool → List (ℕ × ℕ) → List (ℕ × ℕ)
with_metadata metadata gaps = (if metadata then (0, 0) ∷ [] else []) ++ gaps

-- the pairs that count
abbrev pub pairs_of : Asked → List (ℕ × ℕ)
pairs_of a = take a.count a.pairs

-- It has so many pairs, and no more than one NAK has.
pub record IsFilled (a : Asked) : Type 0 where
  pub few : a.count ≤ 32
  pub len : length (pairs_of a) ≡ a.count

-- Its pairs can be written, by the large file flag.
pub record IsWritable (large : Bool) (a : Asked) : Type 0 where
  pub pairs : AllByRecursion (IsPair (file_size_octets large)) (pairs_of a)
  pub end : a.end ≤ size_limit large

-- It is what one NAK asks for, of all that is missing.
pub record AsksFor (all : List (ℕ × ℕ)) (a : Asked) : Type 0 where
  pub pairs : pairs_of a ≡ asked all
  pub end : a.end ≡ last_end 0 (asked all)
  pub more : a.more ≡ has_more all

-- It is what a receiver asks for by a NAK from an offset on, and can be written.
pub record IsAskedFrom (from : ℕ) (r : ReceiverState) (a : Asked) : Type 0 where
  pub asks : AsksFor (missing_pairs from r) a
  pub filled : IsFilled a
  pub writable : IsWritable r.large a
