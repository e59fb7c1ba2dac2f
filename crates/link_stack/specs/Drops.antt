-- What is dropped on the way up, and the counts of it.
use Rattle.std.specs.Prelude.{ℕ, ◌-◌, Option, Some, None, List, [], ◌∷◌, ◌==◌, if◌then◌else◌, codes, slice_index_or, slice_set}
use Rattle.cfd_bits.specs.Counting.{raised}
use Rattle.aos_frame.specs.declared.error.FrameError.{FrameError}
use Rattle.aos_frame.specs.Frame.{refusal_number, refusal_name}
use Rattle.link_stack.specs.declared.drops.LinkDrop.{LinkDrop}
use Rattle.link_stack.specs.declared.drops.LinkDrop.TheVariants.{Frame, Resync, BadPacket, OtherApid, Segmented, NoMemory}

-- the number of a drop, 1 to 12, and its name: if a frame was refused, they are the refusal's own
abbrev pub drop_number : LinkDrop → ℕ
drop_number (Frame error) = refusal_number error
drop_number Resync = 7
drop_number BadPacket = 8
drop_number OtherApid = 9
drop_number Segmented = 10
drop_number NoMemory = 11

abbrev pub drop_name : LinkDrop → List ℕ
drop_name (Frame error) = refusal_name error
drop_name Resync = codes "Resync"
drop_name BadPacket = codes "BadPacket"
drop_name OtherApid = codes "OtherApid"
drop_name Segmented = codes "Segmented"
drop_name NoMemory = codes "NoMemory"

-- why octets are no frame of the link, if that is the cause of the drop
abbrev pub drop_source : LinkDrop → Option FrameError
drop_source (Frame error) = Some error
drop_source _ = None

-- Counts stand in the order of their numbers, the count of number 1 first.
abbrev pub count_of : List ℕ → ℕ → ℕ
count_of counts number = if number == 0 then 0 else slice_index_or counts (number - 1) 0

-- the counts after one more drop, and after these
unfoldable pub counted : List ℕ → LinkDrop → List ℕ
counted counts drop = slice_set counts (drop_number drop - 1)
    (raised (slice_index_or counts (drop_number drop - 1) 0))

abbrev pub all_counted : List ℕ → List LinkDrop → List ℕ
all_counted counts [] = counts
all_counted counts (drop ∷ drops) = all_counted (counted counts drop) drops
