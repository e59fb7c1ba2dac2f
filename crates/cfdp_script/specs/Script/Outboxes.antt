-- The files that a script gives its stations to send.
use Rattle.std.specs.Prelude.{ℕ, List, [], ◌∷◌, replicate}
use Rattle.std.specs.FinMap as map
use Rattle.cfdp_header.specs.Files.{FileMap}
use Rattle.station_pair.specs.declared.side.Side.{Side}
use Rattle.station_pair.specs.declared.side.Side.TheVariants.{One, Two}
use Rattle.cfdp_script.specs.declared.script.command.Contents.{Contents}
use Rattle.cfdp_script.specs.declared.script.command.Contents.TheVariants.{Text, Fill}
use Rattle.cfdp_script.specs.declared.script.command.FileLine.{FileLine}

-- what is in a file
abbrev pub octets_of : Contents → List ℕ
octets_of (Text text) = text
octets_of (Fill count octet) = replicate count octet

-- a station's files with one more, if it is for that station, in the place of one of its name
abbrev pub with_file : Side → Side → FileLine → FileMap → FileMap
with_file One One file files = map.insert files file.name (octets_of file.contents)
with_file Two Two file files = map.insert files file.name (octets_of file.contents)
with_file _ _ file files = files

-- a station's files with the files of these lines, in order
abbrev pub with_files : Side → FileMap → List FileLine → FileMap
with_files s files [] = files
with_files s files (file ∷ rest) = with_files s (with_file s file.at file files) rest

-- all files that a station can send
abbrev pub outbox_of : Side → List FileLine → FileMap
outbox_of s lines = with_files s map.empty lines
