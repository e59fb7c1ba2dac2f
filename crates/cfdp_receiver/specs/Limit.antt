-- The limit of gaps: file data that would make one more gap are dropped as if they were lost.
use Rattle.std.specs.Prelude.{ℕ, ◌+◌, ◌≤◌, Bool, true, List, [], length, Option, None, Some, if◌then◌else◌}
use Rattle.cfdp_directives.specs.Pdu.Checksum.{Piece}
use Rattle.cfdp_extents.specs.Offsets.{Offsets}
use Rattle.cfdp_extents.specs.Count.{gap_count, admits}

-- `true` if a part may be held under a limit, if there is one: with it there are at most so many
-- gaps, or no more than without it
abbrev pub is_admitted : Option ℕ → Offsets → (start end : ℕ) → Bool
is_admitted None held start end = true
is_admitted (Some most) held start end = admits most held start end

-- what is held keeps the limit, if there is one
abbrev pub KeepsLimit : Option ℕ → Offsets → Type 0
KeepsLimit None held = Unit {0}
KeepsLimit (Some most) held = gap_count held ≤ most

-- the pieces, if file data are admitted; none otherwise
abbrev pub if_admitted : Option ℕ → Offsets → ℕ → List ℕ → List Piece → List Piece
if_admitted most held offset bytes pieces =
    if is_admitted most held offset (offset + length bytes) then pieces else []
