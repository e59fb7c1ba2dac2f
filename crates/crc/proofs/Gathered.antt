-- Pieces of a file, in whatever order they come, leave what the file does.
use Rattle.std.proofs.Common.{◌≡◌, ℕ, ◌+◌, ◌-◌, ◌^◌, ◌<◌, ◌≤◌, ⊎_elim, Bool, true, false, cond, leb, ltb, ◌&&◌, List, [], ◌∷◌, length, get_or, take, drop, min, max, refl, sym, ap, ap₂, ◌∙◌, arith, length-drop}
use Rattle.std.specs.Prelude.{fold, count_by}
use Rattle.std.specs.List.{AllByRecursion}
use Rattle.std.specs.Int.Bits.{bit_xor, xor_zero_r}
use Rattle.std.proofs.lemmas.Nat.{xor_lt, xor_comm}
use Rattle.std.proofs.lemmas.List.{take-append-drop, take_all, drop_all, get_or-take, get_or-drop}
use Rattle.std.proofs.lemmas.List.Sums.{sum_by-cons}
use Rattle.std.proofs.lemmas.Bool.{cases_lt, ltb-true}
use lib.Bits.{xor_assoc}
use Rattle.crc.specs.FileChecks.{left_behind, moved_octets, start32, written32, crc32_of}
use Rattle.crc.specs.Pieces.{Piece, IsOf, Cuts, covers, kept_with, kept_of, nothing_kept}
use Rattle.crc.specs.declared.thirty_two.Crc32.{Crc32}
use Rattle.crc.specs.declared.thirty_two.Crc32.TheVariants.{Proximity1, Castagnoli, Ieee}
use Rattle.crc.specs.declared.file_check.FileCheck.{FileCheck}
use Rattle.crc.proofs.Joined.{AreOctets}
use Rattle.crc.proofs.Lefts.{none32, below32, moved_by_none, moved_twice, moved_sum, moved_fits, left_joined, left_begun}
use Rattle.crc.proofs.Spreads.{odd, none_left, spread, spread_odd, spread_same, spread_none, spread_whole, spread_piece}

-- what is left once a piece came, of which n octets lie before the end
abbrev left_of : Crc32 → (left behind gap n : ℕ) → List ℕ → ℕ
left_of kind left behind gap n octets =
    left_behind kind (moved_octets kind gap (bit_xor left (moved_octets kind behind (left_behind kind 0 (take n octets))))) (drop n octets)

and_right : (a b : Bool) → (a && b) ≡ true → b ≡ true
and_right true true e = refl
and_right true false e = e
and_right false true e = refl
and_right false false e = e

covered : (p : Piece) (i : ℕ) → covers i p ≡ true → i < p.offset + length p.bytes
covered p i h = ltb-true i (p.offset + length p.bytes) (and_right (leb p.offset i) (ltb i (p.offset + length p.bytes)) h)

pub start_below : (k : Crc32) → start32 k < 2 ^ 32
start_below Proximity1 = omega arith
start_below Castagnoli = omega arith
start_below Ieee = omega arith

-- which octets were counted once pieces came: the octets that an odd number of them has, besides
after : (ℕ → Bool) → List Piece → (ℕ → Bool)
after c [] = c
after c (p ∷ pieces) = after (λ i. odd (covers i p) (c i)) pieces

abbrev pub mark : Bool → ℕ
mark b = cond b 1 0

pub count_more : (i : ℕ) (p : Piece) (pieces : List Piece) → count_by (covers i) (p ∷ pieces) ≡ mark (covers i p) + count_by (covers i) pieces
count_more i p pieces = sum_by-cons (λ (q : Piece). mark (covers i q)) p pieces

after_none : (c : ℕ → Bool) (pieces : List Piece) (i : ℕ) → count_by (covers i) pieces ≡ 0 → after c pieces i ≡ c i
unfolding after
after_none c [] i h = refl
after_none c (p ∷ pieces) i h = go (covers i p) refl (after_none (λ j. odd (covers j p) (c j)) pieces i)
  where
    go : (b : Bool) → covers i p ≡ b → (count_by (covers i) pieces ≡ 0 → after (λ j. odd (covers j p) (c j)) pieces i ≡ odd (covers i p) (c i)) → after (λ j. odd (covers j p) (c j)) pieces i ≡ c i
    go true e ih = absurd (omega (arith, h, count_more i p pieces, ap mark e))
    go false e ih = ih (omega (arith, h, count_more i p pieces)) ∙ ap (λ x. odd x (c i)) e

after_once : (c : ℕ → Bool) (pieces : List Piece) (i : ℕ) → c i ≡ false → count_by (covers i) pieces ≡ 1 → after c pieces i ≡ true
unfolding after
after_once c [] i none h = absurd (omega arith)
after_once c (p ∷ pieces) i none h = go (covers i p) refl (after_once (λ j. odd (covers j p) (c j)) pieces i)
  where
    go : (b : Bool) → covers i p ≡ b → (odd (covers i p) (c i) ≡ false → count_by (covers i) pieces ≡ 1 → after (λ j. odd (covers j p) (c j)) pieces i ≡ true)
        → after (λ j. odd (covers j p) (c j)) pieces i ≡ true
    go true e ih =
        let one : mark (covers i p) ≡ 1 = ap mark e in
        after_none (λ j. odd (covers j p) (c j)) pieces i (omega (arith, h, count_more i p pieces, one)) ∙ ap₂ odd e none
    go false e ih =
        let zero_more : mark (covers i p) ≡ 0 = ap mark e in
        ih (ap₂ odd e none) (omega (arith, h, count_more i p pieces, zero_more))

piece_octets : (file : List ℕ) (p : Piece) → AreOctets file → IsOf file p → AreOctets p.bytes
piece_octets file p bytes is i inside =
    let within : p.offset + length p.bytes ≤ length file = is.within in
    let there : get_or p.bytes i 0 ≡ get_or file (p.offset + i) 0 =
    ap (λ (l : List ℕ). get_or l i 0) is.same ∙ get_or-take (length p.bytes) (drop p.offset file) i 0 inside ∙ get_or-drop p.offset file i 0 in
    rw there (bytes (p.offset + i) (omega arith))

module _ (kind : Crc32) where
  -- a piece from the end on, or after it
  piece_behind : (size left end o : ℕ) (octets : List ℕ) → left < 2 ^ 32 → end ≤ o → o + length octets ≤ size
      → moved_octets kind (size - (o + length octets)) (left_of kind left 0 (o - end) 0 octets)
      ≡ bit_xor (moved_octets kind (size - end) left) (moved_octets kind (size - (o + length octets)) (left_behind kind 0 octets))
  piece_behind size left end o octets fits from within =
      let len : ℕ = length octets in
      let rest : ℕ = size - (o + len) in
      let gap : ℕ = o - end in
      let moved : ℕ = moved_octets kind gap left in
      let moved_is : moved < 2 ^ 32 = moved_fits kind gap left fits in
      let nothing : bit_xor left (moved_octets kind 0 (left_behind kind 0 [])) ≡ left =
      ap (bit_xor left) (moved_by_none kind (left_behind kind 0 []) ∙ none_left kind) ∙ xor_zero_r left in
      let place : rest + (len + gap) ≡ size - end = omega arith in
      ap (λ m. moved_octets kind rest (left_behind kind (moved_octets kind gap m) octets)) nothing
      ∙ ap (moved_octets kind rest) (left_begun kind moved octets moved_is)
      ∙ moved_sum kind rest (moved_octets kind len moved) (left_behind kind 0 octets) (moved_fits kind len moved moved_is) (below32 kind 0 octets)
      ∙ ap (λ m. bit_xor m (moved_octets kind rest (left_behind kind 0 octets)))
      (ap (moved_octets kind rest) (moved_twice kind len gap left) ∙ moved_twice kind rest (len + gap) left ∙ ap (λ k. moved_octets kind k left) place)

  -- a piece before the end
  piece_before : (size left end o : ℕ) (octets : List ℕ) → left < 2 ^ 32 → o + length octets ≤ end → end ≤ size
      → moved_octets kind (size - end) (left_of kind left (end - (o + length octets)) 0 (length octets) octets)
      ≡ bit_xor (moved_octets kind (size - end) left) (moved_octets kind (size - (o + length octets)) (left_behind kind 0 octets))
  piece_before size left end o octets fits upto within =
      let len : ℕ = length octets in
      let behind : ℕ = end - (o + len) in
      let piece : ℕ = left_behind kind 0 octets in
      let piece_is : piece < 2 ^ 32 = below32 kind 0 octets in
      let laid : ℕ = bit_xor left (moved_octets kind behind piece) in
      let moved_is : moved_octets kind behind piece < 2 ^ 32 = moved_fits kind behind piece piece_is in
      let laid_is : laid < 2 ^ 32 = xor_lt 32 left (moved_octets kind behind piece) fits moved_is in
      let place : size - end + behind ≡ size - (o + len) = omega arith in
      ap₂ (λ f b. moved_octets kind (size - end) (left_behind kind (moved_octets kind 0 (bit_xor left (moved_octets kind behind (left_behind kind 0 f)))) b))
      (take_all len octets (omega arith)) (drop_all len octets (omega arith))
      ∙ ap (moved_octets kind (size - end)) (ap (λ m. left_behind kind m []) (moved_by_none kind laid) ∙ sym (none32 kind laid laid_is))
      ∙ moved_sum kind (size - end) left (moved_octets kind behind piece) fits moved_is
      ∙ ap (bit_xor (moved_octets kind (size - end) left)) (moved_twice kind (size - end) behind piece ∙ ap (λ k. moved_octets kind k piece) place)

  -- a piece in which the end lies
  piece_across : (size left end o n : ℕ) (octets : List ℕ) → AreOctets octets → left < 2 ^ 32 → o + n ≡ end → n ≤ length octets → o + length octets ≤ size
      → moved_octets kind (size - (o + length octets)) (left_of kind left 0 0 n octets)
      ≡ bit_xor (moved_octets kind (size - end) left) (moved_octets kind (size - (o + length octets)) (left_behind kind 0 octets))
  piece_across size left end o n octets bytes fits seam few within =
      let len : ℕ = length octets in
      let rest : ℕ = size - (o + len) in
      let front : ℕ = left_behind kind 0 (take n octets) in
      let front_is : front < 2 ^ 32 = below32 kind 0 (take n octets) in
      let back : List ℕ = drop n octets in
      let back_len : length back ≡ len - n = length-drop n octets in
      let back_bytes : AreOctets back = λ i inside. rw get_or-drop (bytes (n + i) (omega (arith, back_len))) in
      let laid : ℕ = bit_xor left front in
      let laid_is : laid < 2 ^ 32 = xor_lt 32 left front fits front_is in
      let place : rest + length back ≡ size - end = omega (arith, back_len) in
      let A : ℕ = moved_octets kind (size - end) left in
      let B : ℕ = moved_octets kind (size - end) front in
      let C : ℕ = moved_octets kind rest (left_behind kind 0 back) in
      let parts : (s : ℕ) → s < 2 ^ 32 → moved_octets kind rest (left_behind kind s back) ≡ bit_xor (moved_octets kind (size - end) s) C =
      λ s h. ap (moved_octets kind rest) (left_begun kind s back h)
      ∙ moved_sum kind rest (moved_octets kind (length back) s) (left_behind kind 0 back) (moved_fits kind (length back) s h) (below32 kind 0 back)
      ∙ ap (λ m. bit_xor m C) (moved_twice kind rest (length back) s ∙ ap (λ k. moved_octets kind k s) place) in
      let whole : left_behind kind 0 octets ≡ left_behind kind front back =
      ap (left_behind kind 0) (sym (take-append-drop n octets)) ∙ sym (left_joined kind 0 (take n octets) back (omega arith) back_bytes) in
      ap (λ m. moved_octets kind rest (left_behind kind m back)) (moved_by_none kind (bit_xor left (moved_octets kind 0 front)) ∙ ap (bit_xor left) (moved_by_none kind front))
      ∙ parts laid laid_is
      ∙ ap (λ m. bit_xor m C) (moved_sum kind (size - end) left front fits front_is)
      ∙ xor_assoc A B C
      ∙ ap (bit_xor A) (sym (ap (moved_octets kind rest) whole ∙ parts front front_is))

  -- a piece, wherever the end is
  piece_left : (size left end o : ℕ) (octets : List ℕ) → AreOctets octets → left < 2 ^ 32 → end ≤ size → o + length octets ≤ size
      → moved_octets kind (size - max end (o + length octets))
      (left_of kind left (end - (o + min (length octets) (end - o))) (o + min (length octets) (end - o) - end) (min (length octets) (end - o)) octets)
      ≡ bit_xor (moved_octets kind (size - end) left) (moved_octets kind (size - (o + length octets)) (left_behind kind 0 octets))
  piece_left size left end o octets bytes fits most within =
      ⊎_elim
      (λ inside. ⊎_elim
      (λ far.
      let n : min (length octets) (end - o) ≡ end - o = omega arith in
      let behind : end - (o + min (length octets) (end - o)) ≡ 0 = omega arith in
      let gap : o + min (length octets) (end - o) - end ≡ 0 = omega arith in
      let last : max end (o + length octets) ≡ o + length octets = omega arith in
      let shape : left_of kind left (end - (o + min (length octets) (end - o))) (o + min (length octets) (end - o) - end) (min (length octets) (end - o)) octets ≡ left_of kind left 0 0 (end - o) octets =
      ap₂ (λ b g. left_of kind left b g (min (length octets) (end - o)) octets) behind gap ∙ ap (λ k. left_of kind left 0 0 k octets) n in
      ap₂ (λ e m. moved_octets kind (size - e) m) last shape ∙ piece_across size left end o (end - o) octets bytes fits (omega arith) (omega arith) within)
      (λ near.
      let n : min (length octets) (end - o) ≡ length octets = omega arith in
      let behind : end - (o + min (length octets) (end - o)) ≡ end - (o + length octets) = omega arith in
      let gap : o + min (length octets) (end - o) - end ≡ 0 = omega arith in
      let last : max end (o + length octets) ≡ end = omega arith in
      let shape : left_of kind left (end - (o + min (length octets) (end - o))) (o + min (length octets) (end - o) - end) (min (length octets) (end - o)) octets ≡ left_of kind left (end - (o + length octets)) 0 (length octets) octets =
      ap₂ (λ b g. left_of kind left b g (min (length octets) (end - o)) octets) behind gap ∙ ap (λ k. left_of kind left (end - (o + length octets)) 0 k octets) n in
      ap₂ (λ e m. moved_octets kind (size - e) m) last shape ∙ piece_before size left end o octets fits near most)
      (cases_lt end (o + length octets)))
      (λ from.
      let n : min (length octets) (end - o) ≡ 0 = omega arith in
      let behind : end - (o + min (length octets) (end - o)) ≡ 0 = omega arith in
      let gap : o + min (length octets) (end - o) - end ≡ o - end = omega arith in
      let last : max end (o + length octets) ≡ o + length octets = omega arith in
      let shape : left_of kind left (end - (o + min (length octets) (end - o))) (o + min (length octets) (end - o) - end) (min (length octets) (end - o)) octets ≡ left_of kind left 0 (o - end) 0 octets =
      ap₂ (λ b g. left_of kind left b g (min (length octets) (end - o)) octets) behind gap ∙ ap (λ k. left_of kind left 0 (o - end) k octets) n in
      ap₂ (λ e m. moved_octets kind (size - e) m) last shape ∙ piece_behind size left end o octets fits from within)
      (cases_lt o end)

  -- The octets counted by c came.
  record Gathers (file : List ℕ) (c : ℕ → Bool) (k : FileCheck) : Type 0 where
    pub of_kind : k.kind ≡ kind
    pub within : k.end ≤ length file
    pub below : k.left < 2 ^ 32
    pub reached : (i : ℕ) → i < length file → c i ≡ true → i < k.end
    pub left_is : moved_octets kind (length file - k.end) k.left ≡ bit_xor (moved_octets kind (length file) (start32 kind)) (spread kind (length file) c 0 file)

  gathers_more : (file : List ℕ) (p : Piece) (c : ℕ → Bool) (k : FileCheck) → AreOctets file → IsOf file p → Gathers file c k → Gathers file (λ i. odd (covers i p) (c i)) (kept_with k p)
  gathers_more file p c k bytes is g =
      let size : ℕ = length file in
      let o : ℕ = p.offset in
      let octets : List ℕ = p.bytes in
      let len : ℕ = length octets in
      let n : ℕ = min len (k.end - o) in
      let most : k.end ≤ size = g.within in
      let inside : o + len ≤ size = is.within in
      let piece_bytes : AreOctets octets = piece_octets file p bytes is in
      let S : ℕ = moved_octets kind size (start32 kind) in
      let came : ℕ = spread kind size c 0 file in
      let new : ℕ = spread kind size (λ i. covers i p) 0 file in
      let last : ℕ = max k.end (o + len) in
      let piece_is : moved_octets kind (size - (o + len)) (left_behind kind 0 octets) ≡ new =
      spread_whole kind size o octets piece_bytes inside ∙ sym (spread_piece kind size file p is) in
      record {
        of_kind = g.of_kind;
        within = omega arith;
        below = below32 k.kind _ _;
        reached = λ i low h. reach i low (covers i p) refl h;
        left_is =
            ap (λ q. moved_octets kind (size - last) (left_of q k.left (k.end - (o + n)) (o + n - k.end) n octets)) g.of_kind
            ∙ piece_left size k.left k.end o octets piece_bytes g.below most inside
            ∙ ap₂ bit_xor g.left_is piece_is
            ∙ xor_assoc S came new
            ∙ ap (bit_xor S) (xor_comm came new ∙ sym (spread_odd kind size (λ i. covers i p) c 0 file));
      }
    where
      reach : (i : ℕ) → i < length file → (b : Bool) → covers i p ≡ b → odd (covers i p) (c i) ≡ true → i < max k.end (p.offset + length p.bytes)
      reach i low true e h = omega (arith, covered p i e)
      reach i low false e h = omega (arith, g.reached i low (sym (ap (λ x. odd x (c i)) e) ∙ h))

  gathers_all : (file : List ℕ) (pieces : List Piece) (c : ℕ → Bool) (k : FileCheck) → AreOctets file → AllByRecursion (IsOf file) pieces → Gathers file c k
      → Gathers file (after c pieces) (fold kept_with k pieces)
  unfolding after
  gathers_all file [] c k bytes parts g = g
  gathers_all file (p ∷ pieces) c k bytes parts g =
      gathers_all file pieces (λ i. odd (covers i p) (c i)) (kept_with k p) bytes parts.1 (gathers_more file p c k bytes parts.0 g)

  gathers_none : (file : List ℕ) → Gathers file (λ _. false) (nothing_kept kind)
  gathers_none file =
      let size : ℕ = length file in
      let S : ℕ = moved_octets kind size (start32 kind) in
      let whole : size - 0 ≡ size = omega arith in
      record {
        of_kind = refl;
        within = omega arith;
        below = start_below kind;
        reached = λ i low h. absurd cc;
        left_is =
            ap (λ m. moved_octets kind m (start32 kind)) whole
            ∙ sym (xor_zero_r S)
            ∙ ap (bit_xor S) (sym (spread_none kind size (λ _. false) 0 file (λ i low high. refl)));
      }

  -- the law
  pub gathered : (file : List ℕ) (pieces : List Piece) → AreOctets file → Cuts file pieces → written32 kind (kept_of kind pieces).left ≡ crc32_of kind file
  gathered file pieces bytes cuts =
      let size : ℕ = length file in
      let c : ℕ → Bool = after (λ _. false) pieces in
      let k : FileCheck = kept_of kind pieces in
      let g : Gathers file c k = gathers_all file pieces (λ _. false) (nothing_kept kind) bytes cuts.parts (gathers_none file) in
      let most : k.end ≤ size = g.within in
      let each : (i : ℕ) → i < size → c i ≡ true = λ i low. after_once (λ _. false) pieces i refl (cuts.once i low) in
      let all : spread kind size c 0 file ≡ left_behind kind 0 file =
      spread_same kind size c (λ _. true) 0 file (λ i low high. each i (omega arith))
      ∙ sym (spread_whole kind size 0 file bytes (omega arith))
      ∙ ap (λ m. moved_octets kind m (left_behind kind 0 file)) (let e : size - (0 + size) ≡ 0 = omega arith in e)
      ∙ moved_by_none kind (left_behind kind 0 file) in
      let last : size - k.end ≡ 0 =
      ⊎_elim (λ some. omega (arith, g.reached (size - 1) (omega arith) (each (size - 1) (omega arith)))) (λ few. omega arith) (cases_lt 0 size) in
      let left : k.left ≡ left_behind kind (start32 kind) file =
      sym (moved_by_none kind k.left)
      ∙ ap (λ m. moved_octets kind m k.left) (sym last)
      ∙ g.left_is
      ∙ ap (bit_xor (moved_octets kind size (start32 kind))) all
      ∙ sym (left_begun kind (start32 kind) file (start_below kind)) in
      ap (written32 kind) left
