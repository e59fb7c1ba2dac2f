-- What both kinds of stores are about: failures, and their numbers and names in reports.
use Rattle.std.specs.Prelude.{ℕ, Bool, List, ◌+◌, ◌-◌, ◌^◌, ◌≤◌, ◌<◌, min, max, codes, is_ok, if◌then◌else◌}
use Rattle.cfdp_store.specs.declared.error.StoreError.{StoreError}
use Rattle.cfdp_store.specs.declared.error.StoreError.TheVariants.{Device, Name, NoMemory}
use Rattle.cfdp_store.specs.declared.stored.Stored.{Stored}
use Rattle.cfdp_store.specs.declared.stored.Stored.TheVariants.{Done, Refused}
use Rattle.cfdp_store.specs.Calls.{Answer}

-- a count of failures after a call that was Ok or not. If it is the greatest u64, it stays so
abbrev pub failures_after : ℕ → Bool → ℕ
failures_after count ok = if ok then count else max count (min (count + 1) (2 ^ 64 - 1))

-- the number of an error in reports
abbrev pub refusal_number : StoreError → ℕ
refusal_number Device = 1
refusal_number Name = 2
refusal_number NoMemory = 3

-- its name there
abbrev pub refusal_name : StoreError → List ℕ
refusal_name Device = codes "Device"
refusal_name Name = codes "Name"
refusal_name NoMemory = codes "NoMemory"

-- true if a store did what one call asked of it
abbrev pub stored_by : Answer → Stored
stored_by answer = if is_ok answer then Done else Refused

-- If a store refused a step, it was counted: the failures rose, unless they were the greatest count
-- already. They never fall.
abbrev pub Counts : Stored → (before after : ℕ) → Type 0
Counts Done before after = before ≤ after
Counts Refused before after = (before ≤ after) × (before < 2 ^ 64 - 1 → before < after)
