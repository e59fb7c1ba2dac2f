-- What the files of a folder have, by what the system showed of them. Nobody can know what a file
-- has before it is read, so a list of what is expected stands beside it: what each look will find.
use Rattle.std.specs.Prelude.{◌≡◌, ℕ, ◌+◌, ◌==◌, Bool, true, false, ◌&&◌, List, [], ◌∷◌, ◌++◌, length, get_or, take, drop, replicate, bytes_eq, Some, IsTrue, if◌then◌else◌}
use Rattle.std.specs.Option.{option_map}
use Rattle.std.specs.Ordering.{nat_cmp}
use Rattle.std.specs.Cmp.Lexicographic.{slice_cmp}
use Rattle.std.specs.FinMap.{FinMap, empty, get, insert, remove}
use Rattle.cfdp_header.specs.Files.{FileMap}
use Rattle.cfdp_store.specs.Files.{octets_in}
use Rattle.cfdp_store.specs.declared.sources.Shown.{Shown}
use Rattle.cfdp_store.specs.declared.sources.Shown.TheVariants.{Found, Missing, Read}

-- ---- one file

-- what is expected, made as long as the file that was found: cut off, or filled up with zeros
abbrev pub fitted : ℕ → List ℕ → List ℕ
fitted len octets = take len (octets ++ replicate len 0)

-- what a file has if these octets were read
abbrev pub there : List ℕ → ℕ → List ℕ → List ℕ
there octets at file = take (length octets) (drop at file)

-- a file with these octets put over what it has there
abbrev pub put_over : List ℕ → ℕ → List ℕ → List ℕ
put_over octets at file = take at file ++ (octets ++ drop (at + length octets) file)

-- ---- a folder

-- what is known of a folder: the files that were found, whether all that was seen of them was what
-- was expected, and how many looks found a file
pub record Seen : Type 0 where
  pub files : FileMap
  pub stands : Bool
  pub looks : ℕ

abbrev pub nothing_seen : Seen
nothing_seen = record { files = empty; stands = true; looks = 0 }

-- a look found a file so long, if this was expected
abbrev pub with_found : List ℕ → ℕ → List ℕ → Seen → Seen
with_found name len octets s = record {
  files = insert s.files name (fitted len octets);
  stands = s.stands && (length octets == len);
  looks = s.looks + 1;
}

-- a read showed other octets than the file had
abbrev pub with_other : List ℕ → ℕ → List ℕ → Seen → Seen
with_other name at octets s = record {
  files = insert s.files name (put_over octets at (octets_in s.files name));
  stands = false;
  looks = s.looks;
}

-- a folder after one of these
abbrev pub shown_after : List (List ℕ) → Seen → Shown → Seen
shown_after expected s (Found name len) = with_found name len (get_or expected s.looks []) s
shown_after expected s (Missing name) = record s { files = remove s.files name }
shown_after expected s (Read name at octets) =
    if bytes_eq octets (there octets at (octets_in s.files name)) then s
    else with_other name at octets s

-- a folder after these, in turn
unfoldable pub seen_from : List (List ℕ) → Seen → List Shown → Seen
seen_from expected s [] = s
seen_from expected s (e ∷ es) = seen_from expected (shown_after expected s e) es

-- a folder, of which nothing was seen at first
abbrev pub seen_by : List (List ℕ) → List Shown → Seen
seen_by expected es = seen_from expected nothing_seen es

-- These octets are what is expected of one of the looks; nothing is, after the last.
abbrev pub IsExpected : List (List ℕ) → List ℕ → Type 0
IsExpected expected octets = (look : ℕ) × (octets ≡ get_or expected look [])

-- If all that was seen was as expected, each file is one that is expected.
abbrev pub AreExpected : List (List ℕ) → Seen → Type 0
AreExpected expected s = IsTrue s.stands → (name octets : List ℕ)
    → get s.files name ≡ Some octets → IsExpected expected octets

-- ---- lengths that are kept

-- how long each of some files is, by its name
abbrev pub LenMap : Type 0
LenMap = FinMap (slice_cmp nat_cmp) ℕ

-- The length of each file is kept, and of no other name.
abbrev pub AreLens : LenMap → FileMap → Type 0
AreLens lens files = (name : List ℕ) → get lens name ≡ option_map length (get files name)
