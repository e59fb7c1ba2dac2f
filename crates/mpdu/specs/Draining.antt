-- Proof-only: what `carry` keeps between its zones. No public clause speaks of it.
use Rattle.std.specs.Prelude.{◌≡◌, ℕ, ◌+◌, ◌%◌, ◌==◌, ◌<◌, ◌≤◌, Bool, true, false, min, Option, None, IfSome, slice_index_or, List, [], length}
use Rattle.aos_frame.specs.Counts.{frame_counts, CountsFrame}
use Rattle.aos_frame.specs.declared.count.SeenCount.{SeenCount}
use Rattle.mpdu.specs.Stream.{begun, survivors}
use Rattle.mpdu.specs.Reading.{held_at}
use Rattle.mpdu.specs.Packing.{PackerState, IsAt}
use Rattle.mpdu.specs.Carrying.{marks_of}

-- So many frames were counted; the last `missed` of them were struck, and the one before them was
-- seen last.
pub record IsCounted (struck : List Bool) (taken missed next : ℕ) (last : Option SeenCount)
    (held : List ℕ) : Type 0 where
  pub counted : next ≡ taken % frame_counts
  pub within : missed ≤ taken
  pub run : (k : ℕ) → taken ≤ k + missed → k < taken → slice_index_or struck k false ≡ true
  pub seen : IfSome last (λ l. (n : ℕ) × CountsFrame true n l × (taken ≡ n + 1 + missed))
  pub unseen : last ≡ None → held ≡ []

-- All zones that were taken of the stream of these packets have been struck or read; `next` is the
-- count of the next frame, `last` the count seen last.
pub record IsCarried (ps : List (List ℕ)) (struck : List Bool) (size : ℕ) (packer : PackerState)
    (held : List ℕ) (next : ℕ) (last : Option SeenCount) (sent : ℕ)
    (out : List (List ℕ)) : Type 0 where
  pub taken : ℕ
  pub packed : IsAt packer ps taken
  pub sized : packer.size ≡ size
  pub next_mark : sent ≡ min taken (length struck)
  pub missed : ℕ
  pub counts : IsCounted struck taken missed next last held
  pub as_left : held_at (missed == 0) held ≡ begun size (marks_of taken struck) 0 ps
  pub given : out ≡ survivors size (marks_of taken struck) 0 ps
