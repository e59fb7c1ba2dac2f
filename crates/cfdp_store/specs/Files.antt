-- Files by their names: what a map of them lists, and the octets of one.
use Rattle.std.specs.Prelude.{ℕ, List, [], unwrap_or, map, Vec}
use Rattle.std.specs.Ordering.{nat_cmp}
use Rattle.std.specs.Cmp.Lexicographic.{slice_cmp}
use Rattle.std.specs.FinMap.{FinMap, from_entries, get}
use Rattle.cfdp_header.specs.Files.{FileMap}

module _ {Y Z : Type 0} where
  -- the files that these entries list, each a name and its octets
  abbrev pub files_of : List (Vec ℕ Y × Vec ℕ Z) → FileMap
  files_of entries = from_entries (map (λ e. (e.0.items, e.1.items)) entries)

module _ {Y V W : Type 0} where
  -- what these entries list: under each name what a function makes of the value that stands there
  abbrev pub listed : (V → W) → List (Vec ℕ Y × V) → FinMap (slice_cmp nat_cmp) W
  listed tells entries = from_entries (map (λ e. (e.0.items, tells e.1)) entries)

-- the octets of the file of a name; none if there is no such file
abbrev pub octets_in : FileMap → List ℕ → List ℕ
octets_in files name = unwrap_or (get files name) []
