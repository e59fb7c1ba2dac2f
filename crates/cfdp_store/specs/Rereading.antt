-- What a call of an outbox may show of its files.
use Rattle.std.specs.Prelude.{◌≡◌, ◌≢◌, ℕ, Bool, true, false, List, length, IsTrue}
use Rattle.std.specs.Option.{option_map}
use Rattle.std.specs.FinMap.{get}
use Rattle.cfdp_header.specs.Files.{FileMap}

-- Octets of a file were read. Each name has a file as long as before, if it had one. If the files
-- stand after that, they stood before, and have the octets that they had.
pub record Rereads (stand stand_now : Bool) (files now : FileMap) : Type 0 where
  pub lens : (name : List ℕ) → option_map length (get now name)
      ≡ option_map length (get files name)
  pub stood : IsTrue stand_now → IsTrue stand × (now ≡ files)

-- That is so if some were read; otherwise the files are as they were.
abbrev pub RereadsIf : (reads : Bool) → (stand stand_now : Bool) → (files now : FileMap) → Type 0
RereadsIf true stand stand_now files now = Rereads stand stand_now files now
RereadsIf false stand stand_now files now = (stand_now ≡ stand) × (now ≡ files)

-- The file of a name was looked for: it is another one now, or there is none now, or it is as it
-- was. The others are as they were. If the files stand after that, they stood before.
pub record LooksFor (name : List ℕ) (stand stand_now : Bool) (files now : FileMap) : Type 0 where
  pub others : (other : List ℕ) → other ≢ name → get now other ≡ get files other
  pub stood : IsTrue stand_now → IsTrue stand
