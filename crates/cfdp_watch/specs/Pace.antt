-- How far a file is that a station sends, how fast it goes, and how long that still takes.
use Rattle.std.specs.Prelude.{ℕ, ◌+◌, ◌*◌, ◌/◌, ◌%◌, ◌==◌, if◌then◌else◌, min, List, [], ◌++◌, codes, decimal}
use Rattle.cfdp_report.specs.Report.Name.{name_text}

-- what was sent of a file of so many octets, in percent
unfoldable pub percent_of : (octets size : ℕ) → ℕ
percent_of octets size = if size == 0 then 100 else min (100 * octets / size) 100

-- the octets of a second, if so many went in so many milliseconds
abbrev pub rate_of : (octets milliseconds : ℕ) → ℕ
rate_of octets milliseconds = if milliseconds == 0 then 0 else 1000 * octets / milliseconds

-- the seconds in which so many octets go at this rate, with the last one that is begun; 0 if nothing
-- goes
unfoldable pub seconds_of : (octets rate : ℕ) → ℕ
seconds_of octets rate = if rate == 0 then 0 else octets / rate + min 1 (octets % rate)

-- the rate, and the seconds in which the rest goes; nothing if nothing is left, or nothing goes
abbrev pub rest_text : (rate seconds : ℕ) → List ℕ
rest_text rate seconds =
    if seconds == 0 then []
    else codes ", " ++ decimal rate ++ codes " octets/s, " ++ decimal seconds ++ codes " s left"

-- how far a file of this name is: so many percent of its size were sent, and then the rest of the
-- line
abbrev pub sending_text : (name : List ℕ) → (percent size : ℕ) → (rest : List ℕ) → List ℕ
sending_text name percent size rest = name_text name ++ (codes ": " ++ (decimal percent
    ++ (codes " % of " ++ (decimal size ++ (codes " octets sent" ++ rest)))))
