-- What a beacon is to other software.
use Rattle.std.specs.Prelude.{◌≡◌, ◌/◌, ◌%◌, ℕ, List, slice_index}

-- A frame of which nothing is used: its version is that of AOS frames, 01, and its virtual channel
-- 63, whose frames have only idle data (CCSDS 732.0-B-4, 4.1.2.2 and 4.1.2.3).
abbrev pub IsIdle : List ℕ → Type 0
IsIdle frame = (slice_index frame 0 / 64 ≡ 1) × (slice_index frame 1 % 64 ≡ 63)
