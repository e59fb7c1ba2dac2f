use Rattle.std.proofs.Common.{◌≡◌, ◌∙◌, ℕ, ◌-◌, List, length, Bool, ap, ◌++◌, replicate, if◌then◌else◌, sym, arith}
use Rattle.std.proofs.lemmas.Bool.{le-leb, lt-leb}
use Rattle.sha2.specs.Sha256.{sha256}
use Rattle.sha2.proofs.Facts256.{length-sha256}
use Rattle.hmac.proofs.Octets.{padded}
use Rattle.hmac.proofs.key.block_of.Goals as goal

-- the block of a key, where this says whether the key is short
block_if : List ℕ → Bool → List ℕ
block_if key short = if short then key ++ replicate (64 - length key) 0 else sha256 key ++ replicate 32 0

pub returns-then-key-le-BLOCK_LEN : goal.returns-then-key-le-BLOCK_LEN
unfolding block_if
returns-then-key-le-BLOCK_LEN c =
    let key : List ℕ = c.args.key.now in
    let n : c.put_bytes.result ≡ length key = omega arith in
    padded c.put_bytes.new.out key c.put_bytes.result n c.put_bytes.ensures.front c.put_bytes.ensures.behind
    ∙ sym (ap (block_if key) (le-leb (length key) 64 c.if-key-le-BLOCK_LEN.true))

pub returns-else-key-le-BLOCK_LEN : goal.returns-else-key-le-BLOCK_LEN
unfolding block_if
returns-else-key-le-BLOCK_LEN c =
    let key : List ℕ = c.args.key.now in
    let put = c.put_bytes-else-key-le-BLOCK_LEN in
    let len : length c.digest.result ≡ 32 = ap length c.digest.ensures ∙ length-sha256 key in
    let n : put.result ≡ length c.digest.result = omega arith in
    padded put.new.out c.digest.result put.result n put.ensures.front put.ensures.behind
    ∙ ap (λ k. c.digest.result ++ replicate (64 - k) 0) len
    ∙ ap (λ text. text ++ replicate 32 0) c.digest.ensures
    ∙ sym (ap (block_if key) (lt-leb (length key) 64 c.if-key-le-BLOCK_LEN.false))
