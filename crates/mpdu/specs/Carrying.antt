use Rattle.std.specs.Prelude.{◌≡◌, ℕ, zero, suc, ◌+◌, ◌*◌, ◌-◌, ◌%◌, ◌==◌, ◌<◌, ◌≤◌, Bool, true, false, not, slice_index_or, if◌then◌else◌, List, [], ◌∷◌, length}
use Rattle.aos_frame.specs.Counts.{frame_counts}
use Rattle.mpdu.specs.Stream.{stream, survivors}
use Rattle.mpdu.specs.Packing.{idle_packet, idle_len}

-- the marks of the first n frames, delivered or not, if these say which were struck
abbrev pub marks_of : ℕ → List Bool → List Bool
marks_of zero struck = []
marks_of (suc n) [] = true ∷ marks_of n []
marks_of (suc n) (b ∷ struck) = not b ∷ marks_of n struck

-- Fewer frames in a row are struck than there are counts: among so many frames one isn't.
abbrev pub AreFewInARow : List Bool → Type 0
AreFewInARow struck = (i : ℕ) → (k : ℕ) × (i ≤ k) × (k < i + frame_counts)
    × (slice_index_or struck k false ≡ false)

-- The packets are the survivors of the stream's whole zones, without the struck ones.
pub record AreSurvivors (ps : List (List ℕ)) (struck : List Bool) (size : ℕ)
    (out : List (List ℕ)) : Type 0 where
  pub frames : ℕ
  pub inside : frames * size ≤ length (stream ps)
  pub all : length (stream ps) < frames * size + size
  pub survive : out ≡ survivors size (marks_of frames struck) 0 ps

-- the idle packet that fills the last zone of these packets, if one is begun
abbrev pub fill_of : ℕ → List (List ℕ) → List (List ℕ)
fill_of z ps = if length (stream ps) % z == 0 then []
    else idle_packet (idle_len (z - length (stream ps) % z)) ∷ []
