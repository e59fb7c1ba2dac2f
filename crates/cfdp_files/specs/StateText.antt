-- What a file of reserved numbers says.
use Rattle.std.specs.Prelude.{◌≡◌, ℕ, ◌^◌, ◌<◌, List, ◌++◌, ◌⊎◌, Option, Some, None, IfSome, codes, decimal}
use Rattle.crc.specs.FileChecks.{crc32_of}
use Rattle.crc.specs.declared.thirty_two.Crc32.TheVariants.{Ieee}
use Rattle.cfdp_report.specs.Numbers.{hex_number_text}
use Rattle.cfdp_files.specs.declared.reserving.Reserved.{Reserved}

-- the first line, and with it how far the peer's secured frames were accepted, if they ever were
abbrev pub first_text : Option ℕ → List ℕ
first_text None = codes "cfdp_node station 1\n"
first_text (Some number) = codes "cfdp_node station 2\naccepted " ++ (decimal number ++ codes "\n")

-- the lines of the numbers
abbrev pub lines_text : Reserved → List ℕ
lines_text r = first_text r.accepted ++ (codes "numbers " ++ (decimal r.numbers
    ++ (codes "\nframes " ++ (decimal r.frames ++ codes "\n"))))

-- these lines, and after them their check, CRC-32 of IEEE 802.3, in hexadecimal digits
abbrev pub state_text : Reserved → List ℕ
state_text r = lines_text r
    ++ (codes "sum " ++ (hex_number_text (crc32_of Ieee (lines_text r)) ++ codes "\n"))

-- The text of a file that reserves these numbers. Older versions, which knew no secured frames,
-- wrote it without the check.
abbrev pub Says : List ℕ → Reserved → Type 0
Says text r = (text ≡ state_text r) ⊎ ((text ≡ lines_text r) × (r.accepted ≡ None))

-- the numbers are such as a file may have
pub record AreNumbers (r : Reserved) : Type 0 where
  pub numbers : r.numbers < 2 ^ 64
  pub frames : r.frames < 2 ^ 64
  pub accepted : IfSome r.accepted (λ number. number < 2 ^ 64)
