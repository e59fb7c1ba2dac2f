-- Which names a file may have.
use Rattle.std.specs.Prelude.{ℕ, ◌≤◌, Bool, List, length, nat_le, ◌&&◌}

-- A file may have this name: Metadata gives its length in one octet, and an empty name is none
-- (CCSDS 727.0-B-5, 5.2.5).
abbrev pub IsFileName : List ℕ → Type 0
IsFileName name = (1 ≤ length name) × (length name ≤ 255)

-- true if a file may have this name
abbrev pub is_file_name : List ℕ → Bool
is_file_name name = nat_le 1 (length name) && nat_le (length name) 255
