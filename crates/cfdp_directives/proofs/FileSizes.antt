-- Exported: the greatest sizes of files, by the large file flag.
use Rattle.std.proofs.Common.{ℕ, ◌^◌, ◌<◌, ◌≤◌, Bool, true, false, ◌||◌, inl, inr, sym, subst, arith}
use Rattle.std.proofs.lemmas.Bool.{cases_lt, lt-ltb, le-ltb}
use Rattle.cfdp_directives.specs.Pdu.Codes.{file_size_octets, size_limit, is_large}

-- each fits a file-size field
pub limit_fits : (large : Bool) → size_limit large < 256 ^ file_size_octets large
unfolding size_limit
limit_fits true = omega arith
limit_fits false = omega arith

-- the size of a large file is the greatest
pub limit_most : (large : Bool) → size_limit large ≤ size_limit true
unfolding size_limit
limit_most true = omega arith
limit_most false = omega arith

-- the size of a file that isn't large is the least
pub limit_least : (large : Bool) → size_limit false ≤ size_limit large
unfolding size_limit
limit_least true = omega arith
limit_least false = omega arith

-- a flag that is added lowers none
pub limit_old : (a b : Bool) → size_limit a ≤ size_limit (a || b)
limit_old true b = omega arith
limit_old false b = limit_least b

pub limit_new : (a b : Bool) → size_limit b ≤ size_limit (a || b)
limit_new true b = limit_most b
limit_new false b = omega arith

-- and no sum with a PDU's octets is too great for 64 bits
pub limit_low : (large : Bool) → size_limit large ≤ 2 ^ 48
unfolding size_limit
limit_low true = omega arith
limit_low false = omega arith

-- so what is at most that fits too
pub number_fits : (large : Bool) (n : ℕ) → n ≤ size_limit large → n < 256 ^ file_size_octets large
number_fits large n low = omega (arith, low, limit_fits large)

-- a field has at most eight octets
pub octets_most : (large : Bool) → file_size_octets large ≤ 8
octets_most true = omega arith
octets_most false = omega arith

-- a file's own flag allows its size
pub own_allows : (size : ℕ) → size ≤ size_limit true → size ≤ size_limit (is_large size)
own_allows size low = elim (cases_lt (size_limit false) size) [
  | inl more ↦ subst (λ b. size ≤ size_limit b) (sym (lt-ltb (size_limit false) size more)) low
  | inr few ↦ subst (λ b. size ≤ size_limit b) (sym (le-ltb (size_limit false) size few)) few
]

-- and its fields hold it
pub own_fits : (size : ℕ) → size ≤ size_limit true → size < 256 ^ file_size_octets (is_large size)
own_fits size low = number_fits (is_large size) size (own_allows size low)
