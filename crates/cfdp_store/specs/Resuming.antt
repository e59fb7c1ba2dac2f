-- Inboxes that go on with the parts of files that an earlier run staged.
use Rattle.std.specs.Prelude.{◌≡◌, ◌-◌, ◌<◌, ℕ, ◌+◌, Bool, true, false, List, length, Result, Ok, Option, Some, None, IsSome, IsOk}
use Rattle.std.specs.FinMap.{get}
use Rattle.cfdp_header.specs.declared.value.TransactionId.{TransactionId}
use Rattle.cfdp_store.specs.declared.error.StoreError.{StoreError}
use Rattle.cfdp_store.specs.Staged.{OctetMap}

-- a call of such an inbox. A `Read` leaves these octets in the place of those that it borrowed
pub data PartCall : Type 0 where
  Adopt : (id : TransactionId) (end : ℕ) (answer : Result Bool StoreError) → PartCall
  Read : (id : TransactionId) (offset : ℕ) (answer : Result Bool StoreError) (left : List ℕ)
      → PartCall

-- Each of so many octets from an offset on is staged.
abbrev pub AreStaged : ℕ → ℕ → Option OctetMap → Type 0
AreStaged offset count None = ⊥
AreStaged offset count (Some m) = (k : ℕ) → k < count → IsSome (get m (offset + k))

-- Something is begun, and the octet before `end` is staged, if `end` isn't 0.
abbrev pub ReachesTo : ℕ → Option OctetMap → Type 0
ReachesTo end None = ⊥
ReachesTo end (Some m) = 0 < end → IsSome (get m (end - 1))

-- A call shows what is staged, and changes none of it. It never fails: it is refused exactly if the
-- part isn't there, or isn't long enough.
abbrev pub ShowsStaged : (staged now : TransactionId → Option OctetMap) → PartCall → Type 0
ShowsStaged staged now (Adopt id end answer) = (now ≡ staged) × IsOk answer
    × (answer ≡ Ok true → ReachesTo end (staged id))
    × (answer ≡ Ok false → ReachesTo end (staged id) → ⊥)
ShowsStaged staged now (Read id offset answer left) = (now ≡ staged) × IsOk answer
    × (answer ≡ Ok true → AreStaged offset (length left) (staged id))
    × (answer ≡ Ok false → AreStaged offset (length left) (staged id) → ⊥)
