-- Proof-only: how a zone is read after the begun packet. No public clause speaks of it.
use Rattle.std.specs.Prelude.{◌≡◌, ℕ, ◌<◌, ◌≤◌, ◌⊎◌, true, List, [], ◌++◌, length}
use Rattle.mpdu.specs.Stream.{header_len, header_ok}
use Rattle.mpdu.specs.Reading.{scan}

-- a packet's front: not all of it, going by its header
abbrev pub IsBegun : List ℕ → Type 0
IsBegun xs = 6 ≤ length xs → length xs < header_len xs

-- one whole packet, going by its header
pub record IsWhole (xs : List ℕ) : Type 0 where
  pub long : 6 ≤ length xs
  pub version : header_ok xs ≡ true
  pub size : header_len xs ≡ length xs

-- a packet that goes on after these octets, which are all that there is of it
pub record IsCut (xs rest : List ℕ) : Type 0 where
  pub version : 6 ≤ length xs → header_ok xs ≡ true
  pub begun : IsBegun xs
  pub last : rest ≡ []

-- What stands before the rest is nothing, a whole packet, or a begun one that ends with it.
abbrev pub Heads : List ℕ → List ℕ → Type 0
Heads xs rest = (xs ≡ []) ⊎ IsWhole xs ⊎ IsCut xs rest

-- Reading all gives some packets, and then what reading the rest gives after what is held.
pub record IsSplit (all rest held : List ℕ) (before between : List (List ℕ)) : Type 0 where
  pub given : List (List ℕ)
  pub appended : between ≡ before ++ given
  pub out : (scan (length all) all).out ≡ given ++ (scan (length rest) rest).out
  pub begun : (scan (length all) all).begun ≡ held ++ (scan (length rest) rest).begun
  pub bad : (scan (length all) all).bad ≡ (scan (length rest) rest).bad
