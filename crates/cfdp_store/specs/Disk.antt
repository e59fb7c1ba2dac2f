-- What the files of a folder have, by what the system did with them.
use Rattle.std.specs.Prelude.{ℕ, ◌+◌, List, [], ◌∷◌, Option, Some, None, length, max, if◌then◌else◌}
use Rattle.std.specs.Option.{option_map}
use Rattle.std.specs.FinMap.{empty, insert}
use Rattle.cfdp_header.specs.Files.{FileMap}
use Rattle.cfdp_header.specs.Ids.{same_id}
use Rattle.cfdp_header.specs.declared.value.TransactionId.{TransactionId}
use Rattle.cfdp_store.specs.Staged.{OctetMap, written, front}
use Rattle.cfdp_store.specs.declared.parts.Done.{Done}
use Rattle.cfdp_store.specs.declared.parts.Done.TheVariants.{Made, Found, Wrote, Read, Cut, Named, Lost}

-- ---- part files

-- the octets of a part file that were written or read, by their offsets, and how many it has: at
-- least so many, if it was found
pub record Part : Type 0 where
  pub octets : OctetMap
  pub len : ℕ

-- how many octets a file has once some are written from an offset on
abbrev pub len_with : ℕ → ℕ → List ℕ → ℕ
len_with len at [] = len
len_with len at (x ∷ xs) = max len (at + length (x ∷ xs))

abbrev pub made : Part
made = record { octets = empty; len = 0 }

-- found, with at least so many octets, none of which is known
abbrev pub found : ℕ → Part
found end = record { octets = empty; len = end }

abbrev pub part_with : Part → ℕ → List ℕ → Part
part_with p at xs = record { octets = written p.octets at xs; len = len_with p.len at xs }

-- cut to a length, or filled up to it with zeros: each of its octets is then known
abbrev pub cut_to : ℕ → Part → Part
cut_to size p = record { octets = written empty 0 (front p.octets size); len = size }

-- what a file has: 0 if none was written. If it was found, all of its octets must have been read or
-- written
abbrev pub contents : Part → List ℕ
contents p = front p.octets p.len

-- ---- a folder

pub record Disk : Type 0 where
  -- the part file of a transaction, if it is known what it has
  pub parts : TransactionId → Option Part
  -- the part files that have a name
  pub files : FileMap

abbrev pub no_files : Disk
no_files = record { parts = λ _. None; files = empty }

-- one part file is another; the others stay
abbrev pub with_part : TransactionId → Option Part → Disk → Disk
with_part id part d = record { parts = λ other. if same_id id other then part else d.parts other; files = d.files }

-- a file in place of the one of that name
abbrev pub with_file : List ℕ → Option Part → FileMap → FileMap
with_file name None files = files
with_file name (Some p) files = insert files name (contents p)

-- a folder after one of these
abbrev pub disk_after : Disk → Done → Disk
disk_after d (Made id) = with_part id (Some made) d
disk_after d (Found id end) = with_part id (Some (found end)) d
disk_after d (Read id at octets) = with_part id (option_map (λ p. part_with p at octets) (d.parts id)) d
disk_after d (Wrote id at octets) = with_part id (option_map (λ p. part_with p at octets) (d.parts id)) d
disk_after d (Cut id size) = with_part id (option_map (cut_to size) (d.parts id)) d
disk_after d (Named id name) = record (with_part id None d) { files = with_file name (d.parts id) d.files }
disk_after d (Lost id) = with_part id None d

-- a folder after these, in turn
unfoldable pub disk_from : Disk → List Done → Disk
disk_from d [] = d
disk_from d (e ∷ es) = disk_from (disk_after d e) es

-- a folder, of whose files nothing was known at first
abbrev pub disk_of : List Done → Disk
disk_of es = disk_from no_files es

-- the files that were given a name
abbrev pub published_by : List Done → FileMap
published_by es = (disk_of es).files

-- the octets of a transaction's part file
abbrev pub staged_by : List Done → TransactionId → Option OctetMap
staged_by es id = option_map (λ p. p.octets) ((disk_of es).parts id)
