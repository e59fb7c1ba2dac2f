-- What is staged for a transaction: octets by their offsets in its file.
use Rattle.std.specs.Prelude.{◌≡◌, ◌≢◌, ℕ, zero, suc, ◌+◌, ◌<◌, List, [], ◌∷◌, Option, IsSome, unwrap_or}
use Rattle.std.specs.Ordering.{nat_cmp}
use Rattle.std.specs.FinMap.{FinMap, empty, get, insert}
use Rattle.cfdp_header.specs.declared.value.TransactionId.{TransactionId}

-- octets by their offsets
abbrev pub OctetMap : Type 0
OctetMap = FinMap nat_cmp ℕ

-- what is staged once these octets are written from an offset on, over what stands there
unfoldable pub written : OctetMap → ℕ → List ℕ → OctetMap
written m at [] = m
written m at (x ∷ xs) = insert (written m (at + 1) xs) at x

-- so many octets from an offset on, each 0 if it isn't staged
unfoldable pub front_from : OctetMap → ℕ → ℕ → List ℕ
front_from m at zero = []
front_from m at (suc n) = unwrap_or (get m at) 0 ∷ front_from m (at + 1) n

-- the first `size` octets
abbrev pub front : OctetMap → ℕ → List ℕ
front m size = front_from m 0 size

-- each of the first `size` octets was written
abbrev pub Covers : ℕ → OctetMap → Type 0
Covers size m = (n : ℕ) → n < size → IsSome (get m n)

-- what is staged for a transaction; nothing if it isn't begun
abbrev pub staged_for : (TransactionId → Option OctetMap) → TransactionId → OctetMap
staged_for staged id = unwrap_or (staged id) empty

-- other transactions keep what is staged for them
abbrev pub OthersKeep : TransactionId → (old new : TransactionId → Option OctetMap) → Type 0
OthersKeep id old new = (other : TransactionId) → other ≢ id → new other ≡ old other
