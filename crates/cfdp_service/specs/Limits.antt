-- What a station takes of its peer's files.
use Rattle.std.specs.Prelude.{ℕ, ◌-◌, ◌&&◌, ◌||◌, Bool, nat_lt, not}
use Rattle.cfdp_service.specs.declared.clerk.ClerkLimits.{ClerkLimits}

-- `true` if anything is limited: 0 stands for no limit
abbrev pub limits_files : ClerkLimits → Bool
limits_files l = nat_lt 0 l.most_size || nat_lt 0 l.most_open

-- `true` if a file with octets up to this offset is too long
abbrev pub is_too_long : ClerkLimits → (end : ℕ) → Bool
is_too_long l end = nat_lt 0 l.most_size && nat_lt l.most_size end

-- `true` if no further file may come beside so many
abbrev pub has_too_many : ClerkLimits → (beside : ℕ) → Bool
has_too_many l beside = nat_lt 0 l.most_open && not (nat_lt beside l.most_open)

-- `true` if PDUs were dropped since, though no file has as many gaps as this limit allows: 0 stands
-- for no limit
abbrev pub lacks_memory : (before now most limit : ℕ) → Bool
lacks_memory before now most limit =
    nat_lt before now && (not (nat_lt 0 limit) || nat_lt most limit)

-- `true` if the file with the most gaps is given up: if memory is short or all files have more gaps
-- than 2^22, and this one has 1,024 at least
abbrev pub gives_up : (short : Bool) → (all most : ℕ) → Bool
gives_up short all most = (short || nat_lt 4194304 all) && not (nat_lt most 1024)

-- how many of so many files are too many if no limit is set
abbrev pub beyond : (received : ℕ) → ℕ
beyond received = received - 3072
