-- What a receiver misses, and how it asks for it (CCSDS 727.0-B-5, 4.6.4.3 and 5.2.6).
use Rattle.std.specs.Prelude.{ℕ, ◌==◌, ◌++◌, Bool, true, false, ◌&&◌, nat_lt, List, [], ◌∷◌, length, take, Option, Some, None, is_none, if◌then◌else◌}
use Rattle.cfdp_extents.specs.Offsets.{Offsets}
use Rattle.cfdp_extents.specs.Terms.{gaps_of, end_of}
use Rattle.cfdp_receiver.specs.declared.state.Ending.{Ending}
use Rattle.cfdp_receiver.specs.State.{ReceiverState}

-- up to which offset something can be missing: the EOF's size, or the held end if none was heard
abbrev pub limit_by : Option Ending → Offsets → ℕ
limit_by (Some ending) held = ending.size
limit_by None held = end_of held

abbrev pub scope_limit : ReceiverState → ℕ
scope_limit r = limit_by r.ending r.held

-- the pair (0, 0), which asks for Metadata: only if it wasn't heard, and only from offset 0 on
abbrev pub metadata_pair : ℕ → ReceiverState → List (ℕ × ℕ)
metadata_pair from r = if is_none r.metadata && (from == 0) then (0, 0) ∷ [] else []

-- all that is missing from an offset on, as a NAK names it
abbrev pub missing_pairs : ℕ → ReceiverState → List (ℕ × ℕ)
missing_pairs from r = metadata_pair from r ++ gaps_of r.held from (scope_limit r)

abbrev pub is_empty : List (ℕ × ℕ) → Bool
is_empty [] = true
is_empty (p ∷ ps) = false

-- the most pairs that one NAK names
abbrev pub most_pairs : ℕ
most_pairs = 32

-- the pairs of one NAK, of all that are missing
abbrev pub asked : List (ℕ × ℕ) → List (ℕ × ℕ)
asked pairs = take most_pairs pairs

-- `true` if more are missing than one NAK names
abbrev pub has_more : List (ℕ × ℕ) → Bool
has_more pairs = nat_lt most_pairs (length pairs)

-- the end of the last of these pairs
abbrev pub last_end : ℕ → List (ℕ × ℕ) → ℕ
last_end end [] = end
last_end end (p ∷ ps) = last_end p.1 ps

-- the end of the scope of a NAK that must name these: at its last pair's end if more are
-- missing, otherwise at the limit
abbrev pub scope_end : ℕ → List (ℕ × ℕ) → ℕ
scope_end limit pairs = if has_more pairs then last_end 0 (asked pairs) else limit

-- the offset from which the next NAK is due, if more are missing
abbrev pub next_cursor : List (ℕ × ℕ) → Option ℕ
next_cursor pairs = if has_more pairs then Some (last_end 0 (asked pairs)) else None

abbrev pub cursor_by : Option ℕ → ReceiverState → Option ℕ
cursor_by None r = None
cursor_by (Some from) r = if is_empty (missing_pairs from r) then None else Some from

-- a NAK that is due is over if nothing is missing from its cursor on
abbrev pub tidied : ReceiverState → ReceiverState
tidied r = record r { nak_cursor = cursor_by r.nak_cursor r }
