-- Octets of which none differs so far; and octets put before zeros.
use Rattle.std.proofs.Common.{◌≡◌, ◌↔◌, ℕ, ◌+◌, ◌-◌, ◌<◌, List, ◌++◌, length, take, drop, replicate, get_or, sym, ap, ap₂, ◌∙◌, arith, take-append-drop}
use Rattle.std.specs.Int.Bits.{bit_xor, xor_self, xor_zero_r, xor_zero_l}
use Rattle.std.specs.Int.RustNames.{bit_or}
use Rattle.std.proofs.lemmas.Nat.{le_or_l, le_or_r}
use Rattle.std.proofs.lemmas.List.{take-take, get_or-take, take_more_same, drop-replicate}
use lib.Bits.{xor_assoc}

-- two octets are the same if their exclusive or is 0
pub same_where_none : (a b : ℕ) → bit_xor a b ≡ 0 → a ≡ b
same_where_none a b e =
    sym (xor_zero_r a) ∙ ap (bit_xor a) (sym (xor_self b)) ∙ sym (xor_assoc a b b) ∙ ap (λ n. bit_xor n b) e ∙ xor_zero_l b

pub none_where_same : (a b : ℕ) → a ≡ b → bit_xor a b ≡ 0
none_where_same a b e = ap (λ n. bit_xor n b) e ∙ xor_self b

-- one place more at which nothing differs
pub none_more : (xs ys : List ℕ) (i d : ℕ) → i < length xs → length xs ≡ length ys → (d ≡ 0) ↔ (take i xs ≡ take i ys) →
    (bit_or d (bit_xor (get_or xs i 0) (get_or ys i 0)) ≡ 0) ↔ (take (i + 1) xs ≡ take (i + 1) ys)
none_more xs ys i d lt len (there, back) =
    let x = bit_xor (get_or xs i 0) (get_or ys i 0) in
    let one : i < length ys = omega (arith, lt, len) in (
      λ e.
          let d0 : d ≡ 0 = omega (arith, le_or_l d x, e) in
          let x0 : x ≡ 0 = omega (arith, le_or_r d x, e) in
          take_more_same xs ys i 0 lt one (there d0) (same_where_none (get_or xs i 0) (get_or ys i 0) x0),
      λ e.
          let before : take i xs ≡ take i ys = sym (take-take i (i + 1) xs (omega arith)) ∙ ap (take i) e ∙ take-take i (i + 1) ys (omega arith) in
          let here : get_or xs i 0 ≡ get_or ys i 0 = sym (get_or-take (i + 1) xs i 0 (omega arith)) ∙ ap (λ l. get_or l i 0) e ∙ get_or-take (i + 1) ys i 0 (omega arith) in
          ap₂ bit_or (back before) (none_where_same (get_or xs i 0) (get_or ys i 0) here),
    )

-- octets before zeros
pub padded : (block text : List ℕ) (n : ℕ) → n ≡ length text → take n block ≡ text → drop n block ≡ drop n (replicate 64 0) → block ≡ text ++ replicate (64 - length text) 0
padded block text n len front behind =
    sym (take-append-drop n block) ∙ ap₂ (λ (a b : List ℕ). a ++ b) front (behind ∙ drop-replicate n 64 0 ∙ ap (λ k. replicate (64 - k) 0) len)
