-- Proof-only: the octets that the hashers of a key and of a MAC have hashed.
use Rattle.std.specs.Prelude.{ℕ, List, ◌++◌}
use Rattle.sha2.specs.declared.Sha256.{Sha256}
use Rattle.sha2.specs.Hashers.{Holds256}
use Rattle.hmac.specs.Hmac.{inner_block, outer_block}

-- each hasher of a key has hashed one of its two blocks
pub record IsBegun (key : List ℕ) (one two : Sha256) : Type 0 where
  pub inner : Holds256 one (inner_block key)
  pub outer : Holds256 two (outer_block key)

-- after its block, the inner hasher has hashed the message
pub record IsFed (key message : List ℕ) (one two : Sha256) : Type 0 where
  pub inner : Holds256 one (inner_block key ++ message)
  pub outer : Holds256 two (outer_block key)
