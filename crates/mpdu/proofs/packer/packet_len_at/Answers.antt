use Rattle.std.proofs.Common.{◌≡◌, ℕ, ◌+◌, ◌<◌, ◌≤◌, List, [], ◌∷◌, length, get_or, take, drop, ◌∙◌, refl, add-one, arith, drop-cons}
use Rattle.mpdu.proofs.Scan.{header_len-same}
use Rattle.mpdu.proofs.packer.packet_len_at.Goals as goal

one_more : (xs : List ℕ) (n m : ℕ) → m ≡ n + 1 → n < length xs → drop n xs ≡ get_or xs n 0 ∷ drop m xs
one_more xs n m is inside = rw (is, add-one) (drop-cons xs n 0 inside)

-- the six octets of a header
six_at : (xs : List ℕ) (n : ℕ) → n + 6 ≤ length xs →
    take 6 (drop n xs) ≡ get_or xs n 0 ∷ get_or xs (n + 1) 0 ∷ get_or xs (n + 2) 0 ∷ get_or xs (n + 3) 0 ∷ get_or xs (n + 4) 0 ∷ get_or xs (n + 5) 0 ∷ []
six_at xs n inside =
    let s0 = one_more xs n (n + 1) (omega arith) (omega arith) in
    let s1 = one_more xs (n + 1) (n + 2) (omega arith) (omega arith) in
    let s2 = one_more xs (n + 2) (n + 3) (omega arith) (omega arith) in
    let s3 = one_more xs (n + 3) (n + 4) (omega arith) (omega arith) in
    let s4 = one_more xs (n + 4) (n + 5) (omega arith) (omega arith) in
    let s5 = one_more xs (n + 5) (n + 6) (omega arith) (omega arith) in
    rw (s0, s1, s2, s3, s4, s5) refl

pub returns-clause-told : goal.returns-clause-told
returns-clause-told c =
    let xs : List ℕ = c.args.octets.now.items in
    let n : ℕ = c.args.place in
    let read : take 6 (c.octet_at.result ∷ c.octet_at-2.result ∷ c.octet_at-3.result ∷ c.octet_at-4.result ∷ c.octet_at-5.result ∷ c.octet_at-6.result ∷ []) ≡ take 6 (drop n xs) =
    rw (c.octet_at.ensures, c.octet_at-2.ensures, c.octet_at-3.ensures, c.octet_at-4.ensures, c.octet_at-5.ensures, c.octet_at-6.ensures, six_at xs n c.requires.inside) refl in
    c.packet_len.ensures.told ∙ header_len-same _ (drop n xs) read
