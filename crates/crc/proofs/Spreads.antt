-- What the octets of a file leave, each moved by the octets after it.
use Rattle.std.proofs.Common.{◌≡◌, ℕ, suc, ◌+◌, ◌-◌, ◌^◌, ◌<◌, ◌≤◌, Bool, true, false, not, cond, leb, ltb, List, [], ◌∷◌, ◌++◌, length, take, drop, refl, sym, ap, ap₂, ◌∙◌, arith}
use Rattle.std.specs.Int.Bits.{bit_xor, xor_zero_r, xor_self}
use Rattle.std.proofs.lemmas.Nat.{xor_lt}
use Rattle.std.proofs.lemmas.List.{take-append-drop, length-take-le}
use Rattle.std.proofs.lemmas.Bool.{lt-leb, le-leb, lt-ltb, le-ltb}
use lib.Bits.{xor_assoc}
use Rattle.crc.specs.FileChecks.{left_behind, moved_octets}
use Rattle.crc.specs.Pieces.{Piece, IsOf, covers}
use Rattle.crc.specs.declared.thirty_two.Crc32.{Crc32}
use Rattle.crc.proofs.Xor.{xor_four}
use Rattle.crc.proofs.Joined.{AreOctets}
use Rattle.crc.proofs.Lefts.{none32, below32, moved_nothing, moved_twice, moved_sum, moved_fits, left_joined, left_begun}

-- one of both, and not both
abbrev pub odd : Bool → Bool → Bool
odd true b = not b
odd false b = b

pub none_left : (kind : Crc32) → left_behind kind 0 [] ≡ 0
none_left kind = sym (none32 kind 0 (omega arith))

module _ (kind : Crc32) (n : ℕ) where
  -- what octet b at offset o leaves of a file of n octets
  term : ℕ → ℕ → ℕ
  term o b = moved_octets kind (n - (o + 1)) (left_behind kind 0 (b ∷ []))

  term_below : (o b : ℕ) → term o b < 2 ^ 32
  unfolding term
  term_below o b = moved_fits kind (n - (o + 1)) (left_behind kind 0 (b ∷ [])) (below32 kind 0 (b ∷ []))

  -- the octets from offset o on that are counted
  pub spread : (ℕ → Bool) → ℕ → List ℕ → ℕ
  spread c o [] = 0
  spread c o (b ∷ bytes) = bit_xor (cond (c o) (term o b) 0) (spread c (o + 1) bytes)

  counted_below : (x : Bool) (m : ℕ) → m < 2 ^ 32 → cond x m 0 < 2 ^ 32
  counted_below true m h = h
  counted_below false m h = omega arith

  pub spread_below : (c : ℕ → Bool) (o : ℕ) (bytes : List ℕ) → spread c o bytes < 2 ^ 32
  unfolding spread
  spread_below c o [] = omega arith
  spread_below c o (b ∷ bytes) = xor_lt 32 (cond (c o) (term o b) 0) (spread c (o + 1) bytes) (counted_below (c o) (term o b) (term_below o b)) (spread_below c (o + 1) bytes)

  counted_odd : (x y : Bool) (m : ℕ) → cond (odd x y) m 0 ≡ bit_xor (cond x m 0) (cond y m 0)
  counted_odd true true m = sym (xor_self m)
  counted_odd true false m = sym (xor_zero_r m)
  counted_odd false true m = refl
  counted_odd false false m = refl

  pub spread_odd : (c e : ℕ → Bool) (o : ℕ) (bytes : List ℕ) → spread (λ i. odd (c i) (e i)) o bytes ≡ bit_xor (spread c o bytes) (spread e o bytes)
  unfolding spread
  spread_odd c e o [] = refl
  spread_odd c e o (b ∷ bytes) =
      ap₂ bit_xor (counted_odd (c o) (e o) (term o b)) (spread_odd c e (o + 1) bytes)
      ∙ xor_four (cond (c o) (term o b) 0) (cond (e o) (term o b) 0) (spread c (o + 1) bytes) (spread e (o + 1) bytes)

  pub spread_same : (c e : ℕ → Bool) (o : ℕ) (bytes : List ℕ) → ((i : ℕ) → o ≤ i → i < o + length bytes → c i ≡ e i) → spread c o bytes ≡ spread e o bytes
  unfolding spread
  spread_same c e o [] h = refl
  spread_same c e o (b ∷ bytes) h =
      ap₂ (λ x m. bit_xor (cond x (term o b) 0) m) (h o (omega arith) (omega arith)) (spread_same c e (o + 1) bytes (λ i low high. h i (omega arith) (omega arith)))

  pub spread_none : (c : ℕ → Bool) (o : ℕ) (bytes : List ℕ) → ((i : ℕ) → o ≤ i → i < o + length bytes → c i ≡ false) → spread c o bytes ≡ 0
  unfolding spread
  spread_none c o [] h = refl
  spread_none c o (b ∷ bytes) h =
      ap₂ (λ x m. bit_xor (cond x (term o b) 0) m) (h o (omega arith) (omega arith)) (spread_none c (o + 1) bytes (λ i low high. h i (omega arith) (omega arith)))

  spread_append : (c : ℕ → Bool) (o : ℕ) (a b : List ℕ) → spread c o (a ++ b) ≡ bit_xor (spread c o a) (spread c (o + length a) b)
  unfolding spread
  spread_append c o [] b = ap (λ k. spread c k b) (let e : o ≡ o + 0 = omega arith in e)
  spread_append c o (x ∷ a) b =
      let place : o + 1 + length a ≡ o + suc (length a) = omega arith in
      ap (bit_xor (cond (c o) (term o x) 0)) (spread_append c (o + 1) a b ∙ ap (λ k. bit_xor (spread c (o + 1) a) (spread c k b)) place)
      ∙ sym (xor_assoc (cond (c o) (term o x) 0) (spread c (o + 1) a) (spread c (o + suc (length a)) b))

  tail_octets : (x : ℕ) (bytes : List ℕ) → AreOctets (x ∷ bytes) → AreOctets bytes
  tail_octets x bytes h i inside = h (suc i) (omega arith)

  -- octets leave what each of them does
  pub spread_whole : (o : ℕ) (bytes : List ℕ) → AreOctets bytes → o + length bytes ≤ n → moved_octets kind (n - (o + length bytes)) (left_behind kind 0 bytes) ≡ spread (λ _. true) o bytes
  unfolding spread term
  spread_whole o [] bytes within = ap (moved_octets kind (n - (o + 0))) (none_left kind) ∙ moved_nothing kind (n - (o + 0))
  spread_whole o (b ∷ bytes) all within =
      let len : ℕ = length bytes in
      let rest : ℕ = n - (o + suc len) in
      let first : ℕ = left_behind kind 0 (b ∷ []) in
      let below : first < 2 ^ 32 = below32 kind 0 (b ∷ []) in
      let bytes_are : AreOctets bytes = tail_octets b bytes all in
      let cut : left_behind kind 0 (b ∷ bytes) ≡ bit_xor (moved_octets kind len first) (left_behind kind 0 bytes) =
      sym (left_joined kind 0 (b ∷ []) bytes (omega arith) bytes_are) ∙ left_begun kind first bytes below in
      let place : rest + len ≡ n - (o + 1) = omega arith in
      let end : rest ≡ n - (o + 1 + len) = omega arith in
      ap (moved_octets kind rest) cut
      ∙ moved_sum kind rest (moved_octets kind len first) (left_behind kind 0 bytes) (moved_fits kind len first below) (below32 kind 0 bytes)
      ∙ ap₂ bit_xor
      (moved_twice kind rest len first ∙ ap (λ k. moved_octets kind k first) place)
      (ap (λ k. moved_octets kind k (left_behind kind 0 bytes)) end ∙ spread_whole (o + 1) bytes bytes_are (omega arith))

  before_piece : (p : Piece) (i : ℕ) → i < p.offset → covers i p ≡ false
  before_piece p i h = let t : leb p.offset i ≡ false = lt-leb p.offset i h in rw t refl

  in_piece : (p : Piece) (i : ℕ) → p.offset ≤ i → i < p.offset + length p.bytes → covers i p ≡ true
  in_piece p i low high =
      let s : leb p.offset i ≡ true = le-leb p.offset i low in
      let t : ltb i (p.offset + length p.bytes) ≡ true = lt-ltb i (p.offset + length p.bytes) high in
      rw (s, t) refl

  after_piece : (p : Piece) (i : ℕ) → p.offset + length p.bytes ≤ i → covers i p ≡ false
  after_piece p i h =
      let s : leb p.offset i ≡ true = le-leb p.offset i (omega arith) in
      let t : ltb i (p.offset + length p.bytes) ≡ false = le-ltb i (p.offset + length p.bytes) h in
      rw (s, t) refl

  -- of the file the octets that are a piece's
  pub spread_piece : (file : List ℕ) (p : Piece) → IsOf file p → spread (λ i. covers i p) 0 file ≡ spread (λ _. true) p.offset p.bytes
  spread_piece file p is =
      let o : ℕ = p.offset in
      let len : ℕ = length p.bytes in
      let c : ℕ → Bool = λ i. covers i p in
      let inside : o + len ≤ length file = is.within in
      let front : List ℕ = take o file in
      let back : List ℕ = drop len (drop o file) in
      let front_len : length front ≡ o = length-take-le o file (omega arith) in
      let mid : p.bytes ++ back ≡ drop o file = ap (λ l. l ++ back) is.same ∙ take-append-drop len (drop o file) in
      let whole : front ++ (p.bytes ++ back) ≡ file = ap (λ l. front ++ l) mid ∙ take-append-drop o file in
      let one : spread c 0 front ≡ 0 = spread_none c 0 front (λ i low high. before_piece p i (omega (arith, front_len))) in
      let two : spread c o p.bytes ≡ spread (λ _. true) o p.bytes = spread_same c (λ _. true) o p.bytes (λ i low high. in_piece p i low high) in
      let three : spread c (o + len) back ≡ 0 = spread_none c (o + len) back (λ i low high. after_piece p i low) in
      let start : 0 + length front ≡ o = omega (arith, front_len) in
      ap (spread c 0) (sym whole)
      ∙ spread_append c 0 front (p.bytes ++ back)
      ∙ ap₂ bit_xor one (ap (λ k. spread c k (p.bytes ++ back)) start ∙ spread_append c o p.bytes back ∙ ap₂ bit_xor two three ∙ xor_zero_r (spread (λ _. true) o p.bytes))
