-- What is staged once the octets of file data that aren't held were written.
use Rattle.std.proofs.Common.{◌≡◌, ℕ, ◌+◌, ◌-◌, ◌<◌, ◌≤◌, Bool, true, false, not, ◌&&◌, ◌||◌, nat_le, nat_lt, List, [], ◌∷◌, length, get_or, take, drop, Option, Some, refl, sym, ap, ◌∙◌, inl, inr, arith, if◌then◌else◌, length-take, length-drop, get_or-drop}
use Rattle.std.specs.Prelude.{slice_get, slice_index}
use Rattle.std.specs.List.{All, AllByRecursion}
use Rattle.std.specs.FinMap as maps
use Rattle.std.specs.FinSet as set
use Rattle.std.specs.Ordering.{nat_cmp}
use Rattle.std.proofs.lemmas.Bool.{cases_lt, le-leb, lt-leb, lt-ltb, le-ltb, and_from, and_left, and_right}
use Rattle.std.proofs.lemmas.List.{get_or-take}
use Rattle.std.proofs.lemmas.List.Elements.{recursion_from_All}
use Rattle.std.proofs.lemmas.Option.{slice_get-get_or}
use Rattle.cfdp_extents.specs.Offsets.{Offsets, is_within, range, union_of, missing_from, LiesIn, AreRangesOf}
use Rattle.cfdp_extents.specs.Terms.{gaps_of}
use Rattle.cfdp_store.specs.Staged.{OctetMap, written}
use Rattle.cfdp_receiver.specs.Pieces.{piece_in, pieces_in, new_pieces, with_piece, staged_with}
use Rattle.cfdp_receiver.proofs.Facts.{RangesHold}

-- ---- what the laws of the crates below say
abbrev pub UnionsHold : Type 0
UnionsHold = (r : ℕ × ℕ) (rs : List (ℕ × ℕ)) (n : ℕ) →
    set.contains (union_of (r ∷ rs)) n ≡ (is_within r.0 r.1 n || set.contains (union_of rs) n)

abbrev pub DifferencesHold : Type 0
DifferencesHold = (a b : Offsets) (n : ℕ) → set.contains (set.difference a b) n ≡ (set.contains a n && not (set.contains b n))

abbrev pub GapsAre : Type 0
GapsAre = (held : Offsets) (start limit : ℕ) → AreRangesOf (missing_from held start limit) (gaps_of held start limit)

abbrev pub GapsLieIn : Type 0
GapsLieIn = (held : Offsets) (start limit : ℕ) → All (LiesIn start limit) (gaps_of held start limit)

-- what stands if octets were written
pub record OctetsStand : Type 0 where
  pub inside : (m : OctetMap) (at : ℕ) (xs : List ℕ) (n : ℕ) → at ≤ n → n < at + length xs → maps.get (written m at xs) n ≡ Some (slice_index xs (n - at))
  pub below : (m : OctetMap) (at : ℕ) (xs : List ℕ) (n : ℕ) → n < at → maps.get (written m at xs) n ≡ maps.get m n
  pub behind : (m : OctetMap) (at : ℕ) (xs : List ℕ) (n : ℕ) → at + length xs ≤ n → maps.get (written m at xs) n ≡ maps.get m n

-- ---- one piece
pub is_inside : (start end n : ℕ) → start ≤ n → n < end → is_within start end n ≡ true
is_inside start end n low high = and_from (nat_le start n) (nat_lt n end) (le-leb start n low) (lt-ltb n end high)

pub is_below : (start end n : ℕ) → n < start → is_within start end n ≡ false
is_below start end n low = and_left (nat_le start n) (nat_lt n end) (lt-leb start n low)

is_behind : (start end n : ℕ) → end ≤ n → is_within start end n ≡ false
is_behind start end n high = and_right (nat_le start n) (nat_lt n end) (le-ltb n end high)

pub part-len : (offset start end : ℕ) (bytes : List ℕ) → offset ≤ start → start < end → end ≤ offset + length bytes → length (take (end - start) (drop (start - offset) bytes)) ≡ end - start
part-len offset start end bytes low some high = omega (arith, length-take (end - start) (drop (start - offset) bytes), length-drop (start - offset) bytes)

part-octet : (offset start end n : ℕ) (bytes : List ℕ) → offset ≤ start → start ≤ n → n < end → end ≤ offset + length bytes
    → Some (slice_index (take (end - start) (drop (start - offset) bytes)) (n - start)) ≡ slice_get bytes (n - offset)
part-octet offset start end n bytes low from to high =
    let there : start - offset + (n - start) ≡ n - offset = omega arith in
    ap Some (get_or-take (end - start) (drop (start - offset) bytes) (n - start) 0 (omega arith) ∙ get_or-drop (start - offset) bytes (n - start) 0 ∙ ap (λ k. get_or bytes k 0) there)
    ∙ sym (slice_get-get_or bytes (n - offset) 0 (omega arith))

module _ (stand : OctetsStand) (offset : ℕ) (bytes : List ℕ) where
  one-piece : (m : OctetMap) (r : ℕ × ℕ) (n : ℕ) → LiesIn offset (offset + length bytes) r
      → maps.get (with_piece m (piece_in offset bytes r)) n ≡ (if is_within r.0 r.1 n then slice_get bytes (n - offset) else maps.get m n)
  one-piece m r n lies =
      let xs : List ℕ = take (r.1 - r.0) (drop (r.0 - offset) bytes) in
      let low : offset ≤ r.0 = lies.0 in
      let some : r.0 < r.1 = lies.1 in
      let high : r.1 ≤ offset + length bytes = lies.2 in
      let len : length xs ≡ r.1 - r.0 = part-len offset r.0 r.1 bytes low some high in
      let by : Bool → Option ℕ = λ b. if b then slice_get bytes (n - offset) else maps.get m n in
      elim (cases_lt n r.0) [
        | inl before ↦ stand.below m r.0 xs n before ∙ sym (ap by (is_below r.0 r.1 n before))
        | inr from ↦ elim (cases_lt n r.1) [
          | inl to ↦ stand.inside m r.0 xs n from (omega (arith, len)) ∙ part-octet offset r.0 r.1 n bytes low from to high ∙ sym (ap by (is_inside r.0 r.1 n from to))
          | inr past ↦ stand.behind m r.0 xs n (omega (arith, len)) ∙ sym (ap by (is_behind r.0 r.1 n past))
        ]
      ]

  by_both : (a b : Bool) (new old : Option ℕ) → (if b then new else (if a then new else old)) ≡ (if a || b then new else old)
  by_both true true new old = refl
  by_both true false new old = refl
  by_both false true new old = refl
  by_both false false new old = refl

  -- ---- pieces, one after another
  all-pieces : UnionsHold → (rs : List (ℕ × ℕ)) (m : OctetMap) (n : ℕ) → AllByRecursion (LiesIn offset (offset + length bytes)) rs
      → maps.get (staged_with m (pieces_in offset bytes rs)) n ≡ (if set.contains (union_of rs) n then slice_get bytes (n - offset) else maps.get m n)
  unfolding union_of
  all-pieces unions [] m n lie = sym (ap (λ b. if b then slice_get bytes (n - offset) else maps.get m n) (set.contains-empty nat_cmp n))
  all-pieces unions (r ∷ rs) m n lie =
      let new : Option ℕ = slice_get bytes (n - offset) in
      all-pieces unions rs (with_piece m (piece_in offset bytes r)) n lie.1
      ∙ ap (λ old. if set.contains (union_of rs) n then new else old) (one-piece m r n lie.0)
      ∙ by_both (is_within r.0 r.1 n) (set.contains (union_of rs) n) new (maps.get m n)
      ∙ sym (ap (λ b. if b then new else maps.get m n) (unions r rs n))

-- ---- the octets that aren't held
module _ (ranges : RangesHold) (unions : UnionsHold) (differences : DifferencesHold) (gaps : GapsAre) (lie : GapsLieIn) (stand : OctetsStand) where
  pub staged-new : (m : OctetMap) (held : Offsets) (offset : ℕ) (bytes : List ℕ) (n : ℕ) →
      maps.get (staged_with m (new_pieces held offset bytes)) n
      ≡ (if is_within offset (offset + length bytes) n && not (set.contains held n) then slice_get bytes (n - offset) else maps.get m n)
  staged-new m held offset bytes n =
      let end : ℕ = offset + length bytes in
      let rs : List (ℕ × ℕ) = gaps_of held offset end in
      let those : set.contains (union_of rs) n ≡ (is_within offset end n && not (set.contains held n)) =
      ap (λ s. set.contains s n) (gaps held offset end).union ∙ differences (range offset end) held n ∙ ap (λ b. b && not (set.contains held n)) (ranges offset end n) in
      all-pieces stand offset bytes unions rs m n (recursion_from_All (LiesIn offset end) rs (lie held offset end))
      ∙ ap (λ b. if b then slice_get bytes (n - offset) else maps.get m n) those
