-- HMAC with SHA-256 (RFC 2104, section 2). B, the octets of a block, is 64, and L, the octets of a
-- digest, is 32.
use Rattle.std.specs.Prelude.{ℕ, ◌-◌, nat_le, if◌then◌else◌, List, [], ◌++◌, length, map, replicate, bit_xor}
use Rattle.sha2.specs.Sha256.{sha256}

-- the key as a block: padded with zeros; if the key is longer than a block, its digest takes its
-- place first
abbrev pub block_of : List ℕ → List ℕ
block_of key =
    if nat_le (length key) 64 then key ++ replicate (64 - length key) 0
    else sha256 key ++ replicate 32 0

-- the exclusive or of each octet with the octet of a pad
abbrev pub xored : ℕ → List ℕ → List ℕ
xored pad octets = map (λ octet. bit_xor octet pad) octets

-- K XOR ipad, and K XOR opad: the octet of ipad is 0x36, and of opad 0x5C
abbrev pub inner_block : List ℕ → List ℕ
inner_block key = xored 0x36 (block_of key)

abbrev pub outer_block : List ℕ → List ℕ
outer_block key = xored 0x5C (block_of key)

-- the MAC of a message under a key: H(K XOR opad, H(K XOR ipad, text))
unfoldable pub hmac : (key message : List ℕ) → List ℕ
hmac key message = sha256 (outer_block key ++ sha256 (inner_block key ++ message))

-- a MAC that is being computed: its key, and the message so far
pub record MacState : Type 0 where
  pub key : List ℕ
  pub message : List ℕ

abbrev pub begun : List ℕ → MacState
begun key = record { key = key; message = [] }
