-- What is kept for the checksum of a file of what is held of it.
use Rattle.std.proofs.Common.{◌≡◌, ◌⊎◌, inl, inr, ℕ, ◌+◌, ◌-◌, ◌<◌, ◌≤◌, Bool, true, false, not, ◌&&◌, ◌||◌, ◌==◌, min, nat_le, nat_lt, List, [], ◌∷◌, ◌++◌, length, take, drop, Option, Some, None, refl, sym, ap, ap₂, ◌∙◌, arith, if◌then◌else◌, length-take, length-drop}
use Rattle.std.specs.Prelude.{count_by}
use Rattle.std.specs.List.{AllByRecursion}
use Rattle.std.specs.FinSet as set
use Rattle.std.specs.Ordering.{nat_cmp}
use Rattle.std.proofs.lemmas.Bool.{false≢true, eq-eqb}
use Rattle.std.proofs.lemmas.List.{drop-take, drop-drop, take-take}
use Rattle.std.proofs.lemmas.List.Elements.{recursion_from_All}
use Rattle.std.proofs.lemmas.List.Sums.{sum_by-cons}
use Rattle.cfdp_directives.specs.declared.pdu.sums.Checksums.{Checksums}
use Rattle.cfdp_directives.specs.Pdu.Checksum.{Piece, IsOf, Cuts, covers, checksum_of}
use Rattle.cfdp_directives.specs.Pdu.Sums.{nothing_summed, wants, all_summed, sum_told, AreSumsOf}
use Rattle.cfdp_extents.specs.Offsets.{Offsets, is_within, range, union_of, LiesIn, StartBehind, AreApart}
use Rattle.cfdp_extents.specs.Terms.{gaps_of}
use Rattle.cfdp_receiver.specs.Pieces.{piece_in, pieces_in, new_pieces}
use Rattle.cfdp_receiver.specs.Sound.{CutsHeld, SumsHeld}
use Rattle.cfdp_receiver.proofs.Facts.{RangesHold}
use Rattle.cfdp_receiver.proofs.Held.{within_parts}
use Rattle.cfdp_receiver.proofs.FactsPieces.{UnionsHold, DifferencesHold, GapsAre, GapsLieIn, is_below, part-len}

-- what the law of unions says
abbrev pub SetsHold : Type 0
SetsHold = (a b : Offsets) (n : ℕ) → set.contains (set.union a b) n ≡ (set.contains a n || set.contains b n)

-- what the law of checksums says
pub record ChecksumsHold : Type 0 where
  pub none : (wanted : Option ℕ) → AreSumsOf wanted [] nothing_summed
  pub more : (wanted : Option ℕ) (front back : List Piece) (sums : Checksums) → AreSumsOf wanted front sums → AreSumsOf wanted (front ++ back) (all_summed wanted sums back)
  pub named : (kind : ℕ) (pieces : List Piece) (sums : Checksums) → AreSumsOf None pieces sums → AreSumsOf (Some kind) pieces sums
  pub told : (wanted : Option ℕ) (kind : ℕ) (file : List ℕ) (pieces : List Piece) (sums : Checksums) → AreSumsOf wanted pieces sums → wants wanted kind ≡ true → Cuts file pieces →
      sum_told kind sums ≡ checksum_of kind file

-- what the laws of sets and their gaps say
pub record SetLaws : Type 0 where
  pub ranges : RangesHold
  pub sets : SetsHold
  pub unions : UnionsHold
  pub differences : DifferencesHold
  pub gaps : GapsAre
  pub lie : GapsLieIn

abbrev mark : Bool → ℕ
mark b = if b then 1 else 0

-- ---- how often an offset is in the pieces
count-cons : (n : ℕ) (p : Piece) (ps : List Piece) → count_by (covers n) (p ∷ ps) ≡ mark (covers n p) + count_by (covers n) ps
count-cons n p ps = sum_by-cons (λ (q : Piece). mark (covers n q)) p ps

count-append : (n : ℕ) (xs ys : List Piece) → count_by (covers n) (xs ++ ys) ≡ count_by (covers n) xs + count_by (covers n) ys
count-append n [] ys = omega arith
count-append n (p ∷ xs) ys = omega (arith, count-cons n p (xs ++ ys), count-cons n p xs, count-append n xs ys)

all-append : {X : Type 0} (P : X → Type 0) (xs ys : List X) → AllByRecursion P xs → AllByRecursion P ys → AllByRecursion P (xs ++ ys)
all-append P [] ys h k = k
all-append P (x ∷ xs) ys h k = (h.0, all-append P xs ys h.1 k)

none_behind : UnionsHold → (e n : ℕ) (rs : List (ℕ × ℕ)) → AreApart rs → StartBehind e rs → n < e → set.contains (union_of rs) n ≡ false
unfolding union_of
none_behind unions e n [] apart behind low = set.contains-empty nat_cmp n
none_behind unions e n (r ∷ rs) apart behind low =
    let from : n < r.0 = omega (arith, behind, low) in
    unions r rs n ∙ ap₂ (λ a b. a || b) (is_below r.0 r.1 n from) (none_behind unions r.1 n rs apart.2 apart.1 (omega (arith, apart.0, from)))

in_one : (a b : Bool) → (a ≡ true → b ≡ false) → mark a + mark b ≡ mark (a || b)
in_one true true h = absurd (false≢true (sym (h refl)))
in_one true false h = refl
in_one false true h = refl
in_one false false h = refl

module _ (offset : ℕ) (bytes : List ℕ) where
  covered : (r : ℕ × ℕ) (n : ℕ) → LiesIn offset (offset + length bytes) r → covers n (piece_in offset bytes r) ≡ is_within r.0 r.1 n
  covered r n lies =
      let low : offset ≤ r.0 = lies.0 in
      let some : r.0 < r.1 = lies.1 in
      let high : r.1 ≤ offset + length bytes = lies.2 in
      let end : r.0 + length (take (r.1 - r.0) (drop (r.0 - offset) bytes)) ≡ r.1 = omega (arith, part-len offset r.0 r.1 bytes low some high) in
      ap (λ k. nat_le r.0 n && nat_lt n k) end

  counted : UnionsHold → (rs : List (ℕ × ℕ)) (n : ℕ) → AreApart rs → AllByRecursion (LiesIn offset (offset + length bytes)) rs → count_by (covers n) (pieces_in offset bytes rs) ≡ mark (set.contains (union_of rs) n)
  unfolding union_of
  counted unions [] n apart lie = ap mark (sym (set.contains-empty nat_cmp n))
  counted unions (r ∷ rs) n apart lie =
      let here : mark (covers n (piece_in offset bytes r)) ≡ mark (is_within r.0 r.1 n) = ap mark (covered r n lie.0) in
      let rest : count_by (covers n) (pieces_in offset bytes rs) ≡ mark (set.contains (union_of rs) n) = counted unions rs n apart.2 lie.1 in
      let apart_now : is_within r.0 r.1 n ≡ true → set.contains (union_of rs) n ≡ false = λ is. none_behind unions r.1 n rs apart.2 apart.1 (below r.0 r.1 n is) in
      count-cons n (piece_in offset bytes r) (pieces_in offset bytes rs)
      ∙ ap₂ (λ a b. a + b) here rest
      ∙ in_one (is_within r.0 r.1 n) (set.contains (union_of rs) n) apart_now
      ∙ ap mark (sym (unions r rs n))
    where
      below : (s e k : ℕ) → is_within s e k ≡ true → k < e
      below s e k is = (within_parts s e k is).1

  -- the pieces are the file's
  part-is : (file : List ℕ) (r : ℕ × ℕ) → bytes ≡ take (length bytes) (drop offset file) → LiesIn offset (offset + length bytes) r → IsOf file (piece_in offset bytes r)
  part-is file r truth lies =
      let low : offset ≤ r.0 = lies.0 in
      let some : r.0 < r.1 = lies.1 in
      let high : r.1 ≤ offset + length bytes = lies.2 in
      let n : ℕ = r.1 - r.0 in
      let k : ℕ = r.0 - offset in
      let rest : ℕ = length bytes - k in
      let len : length (take n (drop k bytes)) ≡ n = part-len offset r.0 r.1 bytes low some high in
      let whole : length bytes ≡ k + rest = omega arith in
      let place : offset + k ≡ r.0 = omega arith in
      let cut : drop k bytes ≡ take rest (drop r.0 file) =
      ap (drop k) (truth ∙ ap (λ m. take m (drop offset file)) whole)
      ∙ drop-take k rest (drop offset file)
      ∙ ap (take rest) (drop-drop k offset file ∙ ap (λ m. drop m file) place) in
      let few : n ≤ rest = omega arith in
      record {
        within = omega (arith, len, ap length truth, length-take (length bytes) (drop offset file), length-drop offset file);
        same = ap (take n) cut ∙ take-take n rest (drop r.0 file) few ∙ ap (λ m. take m (drop r.0 file)) (sym len);
      }

  parts-are : (file : List ℕ) (rs : List (ℕ × ℕ)) → bytes ≡ take (length bytes) (drop offset file) → AllByRecursion (LiesIn offset (offset + length bytes)) rs →
      AllByRecursion (IsOf file) (pieces_in offset bytes rs)
  parts-are file [] truth lie = tt
  parts-are file (r ∷ rs) truth lie = (part-is file r truth lie.0, parts-are file rs truth lie.1)

-- ---- what is held
either : (a b c : Bool) → c ≡ (b && not a) → mark a + mark c ≡ mark (a || b)
either true true c e = ap (λ x. 1 + mark x) e
either true false c e = ap (λ x. 1 + mark x) e
either false true c e = ap (λ x. 0 + mark x) e
either false false c e = ap (λ x. 0 + mark x) e

-- With file data of a file, what is kept is what is held.
pub sums-with : SetLaws → ChecksumsHold → (wanted : Option ℕ) (file : List ℕ) (held : Offsets) (sums : Checksums) (offset : ℕ) (bytes : List ℕ) → bytes ≡ take (length bytes) (drop offset file) →
    SumsHeld wanted held file sums
    → SumsHeld wanted (set.union held (range offset (offset + length bytes))) file (all_summed wanted sums (new_pieces held offset bytes))
sums-with sets law wanted file held sums offset bytes truth s =
    let end : ℕ = offset + length bytes in
    let rs : List (ℕ × ℕ) = gaps_of held offset end in
    let lie : AllByRecursion (LiesIn offset end) rs = recursion_from_All (LiesIn offset end) rs (sets.lie held offset end) in
    let all : Offsets = set.union held (range offset end) in
    record {
      pieces = s.pieces ++ new_pieces held offset bytes;
      cut = record {
        parts = all-append (IsOf file) s.pieces (new_pieces held offset bytes) s.cut.parts (parts-are offset bytes file rs truth lie);
        once = λ n inside.
            let was : Bool = set.contains held n in
            let comes : Bool = is_within offset end n in
            let new : set.contains (union_of rs) n ≡ (comes && not was) =
            ap (λ x. set.contains x n) (sets.gaps held offset end).union ∙ sets.differences (range offset end) held n ∙ ap (λ b. b && not was) (sets.ranges offset end n) in
            let now : set.contains all n ≡ (was || comes) = sets.sets held (range offset end) n ∙ ap (λ b. was || b) (sets.ranges offset end n) in
            count-append n s.pieces (new_pieces held offset bytes)
            ∙ ap₂ (λ a b. a + b) (s.cut.once n inside) (counted offset bytes sets.unions rs n (sets.gaps held offset end).apart lie)
            ∙ either was comes (set.contains (union_of rs) n) new
            ∙ ap mark (sym now);
      };
      are = law.more wanted s.pieces (new_pieces held offset bytes) sums s.are;
    }

-- Once the type is known, only its checksum matters.
pub sums-named : ChecksumsHold → (kind : ℕ) (file : List ℕ) (held : Offsets) (sums : Checksums) → SumsHeld None held file sums → SumsHeld (Some kind) held file sums
sums-named law kind file held sums s = record { pieces = s.pieces; cut = s.cut; are = law.named kind s.pieces sums s.are }

-- If all is held, it is the file's checksum.
pub sums-all : ChecksumsHold → (wanted : Option ℕ) (kind : ℕ) (file : List ℕ) (held : Offsets) (sums : Checksums) → wants wanted kind ≡ true → SumsHeld wanted held file sums →
    ((k : ℕ) → k < length file → set.contains held k ≡ true) → sum_told kind sums ≡ checksum_of kind file
sums-all law wanted kind file held sums its s all =
    law.told wanted kind file s.pieces sums s.are its (record { parts = s.cut.parts; once = λ n low. s.cut.once n low ∙ ap mark (all n low) })

-- Nothing held leaves nothing.
pub sums-none : ChecksumsHold → (wanted : Option ℕ) (file : List ℕ) → SumsHeld wanted set.empty file nothing_summed
sums-none law wanted file = record {
  pieces = [];
  cut = record { parts = tt; once = λ n _. ap mark (sym (set.contains-empty nat_cmp n)) };
  are = law.none wanted;
}

-- a type that was said is needed
pub wants-it : (kind other : ℕ) → kind ≡ other → wants (Some kind) other ≡ true
wants-it kind other e = eq-eqb kind other e
