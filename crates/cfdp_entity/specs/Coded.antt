-- How states are coded: the codes that `Prim.hlevel` looks through for an entity and all above it.
use Rattle.std.specs.Coded.{Coded, codes, coded_ℕ, coded_list}
use Rattle.std.specs.Ordering.{nat_cmp}
use Rattle.std.specs.FinMap as finmap
use Rattle.std.specs.FinSet as finset
use Rattle.cfdp_header.specs.Files.{FileMap}
use Rattle.cfdp_store.specs.Staged.{OctetMap}
use Rattle.cfdp_timers.specs.Armed.{armed_code}
use Rattle.cfdp_extents.specs.Forgotten.{ids_code}

abbrev pub offsets_code : Coded (finset.FinSet nat_cmp)
offsets_code = finset.code coded_ℕ

abbrev pub octets_code : Coded OctetMap
octets_code = finmap.code coded_ℕ coded_ℕ

abbrev pub files_code : Coded FileMap
files_code = finmap.code (coded_list coded_ℕ) (coded_list coded_ℕ)

pub ruleset state_codes = (codes, armed_code, offsets_code, octets_code, files_code, ids_code)
