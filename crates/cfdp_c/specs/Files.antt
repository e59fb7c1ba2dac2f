-- What a caller reads of the published files, and which of them it drops.
use Rattle.std.specs.Prelude.{◌≡◌, ◌+◌, ℕ, Bool, true, false, List, length, take, drop, nat_le, Option, Some, None}
use Rattle.std.specs.FinMap.{entries}
use Rattle.cfdp_entity.specs.Entity.{with_table}
use Rattle.cfdp_entity.specs.Forgetting.{without_file}
use Rattle.cfdp_station.specs.Station.{StationState, KeepsLink}
use Rattle.cfdp_c.specs.Codes.{ok, bad_argument, no_room, nothing}
use Rattle.cfdp_c.specs.Told.{over}
use Rattle.cfdp_c.specs.declared.held.AnyStation.{AnyStation}
use Rattle.cfdp_c.specs.declared.held.AnyStation.TheVariants.{Memory, Folders}
use Rattle.cfdp_c.specs.declared.files.CfdpFile.{CfdpFile}

-- how many files are published, as far as they are in memory
abbrev pub files_told : AnyStation → ℕ
files_told (Memory s) = length (entries s.entity.state.table.files)
files_told (Folders s) = 0

abbrev pub NamesIf : Bool → (name octets : List ℕ) → ℕ → (out_before out_now : CfdpFile)
    → (room_before room_now : List ℕ) → Type 0
NamesIf true name octets answer out_before out_now room_before room_now =
    (answer ≡ ok) × (out_now ≡ record { name_len = length name; size = length octets })
    × (room_now ≡ over name room_before)
NamesIf false name octets answer out_before out_now room_before room_now =
    (answer ≡ no_room) × (out_now ≡ out_before) × (room_now ≡ room_before)

-- The name and the size of this file were reported, if there is one, and room for its name.
abbrev pub NamesFile : Option (List ℕ × List ℕ) → ℕ → (out_before out_now : CfdpFile)
    → (room_before room_now : List ℕ) → Type 0
NamesFile None answer out_before out_now room_before room_now =
    (answer ≡ nothing) × (out_now ≡ out_before) × (room_now ≡ room_before)
NamesFile (Some f) answer out_before out_now room_before room_now =
    NamesIf (nat_le (length f.0) (length room_before)) f.0 f.1 answer out_before out_now
    room_before room_now

abbrev pub ReadsIf : Bool → (octets : List ℕ) → (offset answer : ℕ)
    → (room_before room_now : List ℕ) → Type 0
ReadsIf true octets offset answer room_before room_now =
    (answer ≡ ok) × (room_now ≡ take (length room_before) (drop offset octets))
ReadsIf false octets offset answer room_before room_now =
    (answer ≡ bad_argument) × (room_now ≡ room_before)

-- The room was filled with octets of this file, from an offset on, if it has them all.
abbrev pub ReadsFile : Option (List ℕ × List ℕ) → (offset answer : ℕ)
    → (room_before room_now : List ℕ) → Type 0
ReadsFile None offset answer room_before room_now = (answer ≡ nothing) × (room_now ≡ room_before)
ReadsFile (Some f) offset answer room_before room_now =
    ReadsIf (nat_le (offset + length room_before) (length f.1)) f.1 offset answer
    room_before room_now

-- The file of this name left the inbox, if there is one, and all else stayed.
abbrev pub RemovesFile : Option (List ℕ) → (name : List ℕ) → (answer : ℕ)
    → (old new : StationState) → Type 0
RemovesFile None name answer old new = (answer ≡ nothing) × (new ≡ old)
RemovesFile (Some octets) name answer old new = (answer ≡ ok)
    × (new.entity ≡ record old.entity {
      state = with_table old.entity.state (without_file name old.entity.state.table);
    })
    × KeepsLink old new
