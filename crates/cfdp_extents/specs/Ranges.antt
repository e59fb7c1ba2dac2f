-- Proof-only: how ranges are kept, by their ends, and what gaps between them are left to give.
use Rattle.std.specs.Prelude.{ℕ, ◌<◌, ◌++◌, nat_lt, nat_le, min, List, [], ◌∷◌, Option, None, Some, if◌then◌else◌}

-- entries, each an end with its start, as ranges
abbrev pub turned : List (ℕ × ℕ) → List (ℕ × ℕ)
turned [] = []
turned (e ∷ es) = (e.1, e.0) ∷ turned es

-- these entries, if any are looked at
abbrev pub others_of : Option (List (ℕ × ℕ)) → List (ℕ × ℕ)
others_of None = []
others_of (Some es) = turned es

-- ranges, and the greatest one after them, if there is one
abbrev pub with_last : List (ℕ × ℕ) → Option (ℕ × ℕ) → List (ℕ × ℕ)
with_last rs None = rs
with_last rs (Some last) = rs ++ (last ∷ [])

-- the first range that ends at an offset or after it
abbrev pub first_from : ℕ → List (ℕ × ℕ) → Option (ℕ × ℕ)
first_from offset [] = None
first_from offset (r ∷ rs) = if nat_lt r.1 offset then first_from offset rs else Some r

-- the ranges that end after an offset, if they ascend
abbrev pub behind : ℕ → List (ℕ × ℕ) → List (ℕ × ℕ)
behind offset [] = []
behind offset (r ∷ rs) = if nat_lt offset r.1 then r ∷ rs else behind offset rs

-- the first of them
abbrev pub first_behind : ℕ → List (ℕ × ℕ) → Option (ℕ × ℕ)
first_behind offset [] = None
first_behind offset (r ∷ rs) = if nat_lt offset r.1 then Some r else first_behind offset rs

-- an offset, or the start of the first range that ends there or after it, whichever is less
abbrev pub low_of : ℕ → List (ℕ × ℕ) → ℕ
low_of start [] = start
low_of start (r ∷ rs) = if nat_lt r.1 start then low_of start rs else min start r.0

-- the first range that ends at `end` or after it starts at `low` if `end` touches it; otherwise
-- there is one more range
abbrev pub put_in : ℕ → ℕ → List (ℕ × ℕ) → List (ℕ × ℕ)
put_in low end [] = (low, end) ∷ []
put_in low end (r ∷ rs) =
    if nat_lt r.1 end then r ∷ put_in low end rs
    else (if nat_le r.0 end then (low, r.1) ∷ rs else (low, end) ∷ r ∷ rs)

-- the end of the first range that ends at `end` or after it, if `end` touches it, otherwise `end`
abbrev pub key_at : ℕ → Option (ℕ × ℕ) → ℕ
key_at end None = end
key_at end (Some r) = if nat_le r.0 end then r.1 else end

-- no range, or one that starts after an offset
abbrev pub Untouched : ℕ → Option (ℕ × ℕ) → Type 0
Untouched end None = Unit {0}
Untouched end (Some r) = end < r.0

-- without the ranges that end at `start` or after it, and before `end`
abbrev pub outside : ℕ → ℕ → List (ℕ × ℕ) → List (ℕ × ℕ)
outside start end [] = []
outside start end (r ∷ rs) =
    if nat_lt r.1 start then r ∷ outside start end rs
    else (if nat_lt r.1 end then outside start end rs else r ∷ rs)

-- with one put in, and without the ranges that it covers
abbrev pub joined_in : ℕ → ℕ → ℕ → List (ℕ × ℕ) → List (ℕ × ℕ)
joined_in low start end rs = outside start end (put_in low end rs)

-- with one joined in, from an offset up to another
abbrev pub with_range : ℕ → ℕ → List (ℕ × ℕ) → List (ℕ × ℕ)
with_range start end rs = joined_in (low_of start rs) start end rs

-- the gaps from an offset up to a limit, before and between ranges that start after the offset
unfoldable pub gaps_between : ℕ → ℕ → List (ℕ × ℕ) → List (ℕ × ℕ)
gaps_between start limit [] = if nat_lt start limit then (start, limit) ∷ [] else []
gaps_between start limit (r ∷ rs) =
    if nat_lt start limit
    then (if nat_lt r.0 limit then (start, r.0) ∷ gaps_between r.1 limit rs
    else (start, limit) ∷ [])
    else []
