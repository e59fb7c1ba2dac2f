-- Sets of transactions, kept as the numbers of each source.
use Rattle.std.specs.Prelude.{ℕ, ◌-◌, ◌^◌, ◌==◌, ◌&&◌, Bool, List, [], ◌∷◌, ◌++◌, map, get_or, if◌then◌else◌}
use Rattle.std.specs.Coded.{Coded}
use Rattle.std.specs.Map.{values_of}
use Rattle.std.specs.Ordering.{nat_cmp}
use Rattle.std.specs.FinSet as set
use Rattle.cfdp_header.specs.declared.value.TransactionId.{TransactionId}
use Rattle.cfdp_header.specs.contracts.value.TransactionId as id
use Rattle.cfdp_header.specs.Ids.{id_cmp}
use Rattle.cfdp_extents.specs.Offsets.{range}

-- a set of numbers
abbrev pub NumberSet : Type 0
NumberSet = set.FinSet nat_cmp

-- a set of transactions
abbrev pub IdSet : Type 0
IdSet = set.FinSet id_cmp

abbrev pub ids_code : Coded IdSet
ids_code = set.code (id.the_row).coded

-- the greatest number of a transaction
abbrev pub greatest_number : ℕ
greatest_number = 2 ^ 64 - 1

-- with the greatest number, or without
abbrev pub with_greatest : Bool → NumberSet → NumberSet
with_greatest greatest ns = if greatest then set.insert ns greatest_number else ns

-- without the greatest number
abbrev pub below_greatest : NumberSet → NumberSet
below_greatest ns = set.remove ns greatest_number

-- the transactions of a source with these numbers
abbrev pub ids_from : ℕ → List ℕ → List TransactionId
ids_from source ns = map (λ n. record { source = source; number = n }) ns

abbrev pub all_ids : List (ℕ × NumberSet) → List TransactionId
all_ids [] = []
all_ids (e ∷ es) = ids_from e.0 (set.items e.1) ++ all_ids es

-- the transactions of several sources, each with its numbers
unfoldable pub ids_of : List (ℕ × NumberSet) → IdSet
ids_of es = set.from_list (all_ids es)

-- the numbers of the source at an index
abbrev pub numbers_at : List (ℕ × NumberSet) → ℕ → NumberSet
numbers_at es place = get_or (values_of es) place set.empty

-- true if a transaction is of this source, and its number among these
abbrev pub is_of : TransactionId → ℕ × NumberSet → Bool
is_of q e = (q.source == e.0) && set.contains e.1 q.number

-- the transactions of a source whose numbers are `start` or more, and less than `end`
abbrev pub ids_in : ℕ → ℕ → ℕ → IdSet
ids_in source start end = ids_of ((source, range start end) ∷ [])
