-- Exported: how long a MAC is.
use Rattle.std.proofs.Common.{◌≡◌, ℕ, List, ◌++◌, length}
use Rattle.sha2.specs.Sha256.{sha256}
use Rattle.sha2.proofs.Facts256.{length-sha256}
use Rattle.hmac.specs.Hmac.{hmac, inner_block, outer_block}

pub length-hmac : (key message : List ℕ) → length (hmac key message) ≡ 32
unfolding hmac
length-hmac key message = length-sha256 (outer_block key ++ sha256 (inner_block key ++ message))
