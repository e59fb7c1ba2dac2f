-- What is kept of pieces, for the checksum of each type.
use Rattle.std.proofs.Common.{◌≡◌, ℕ, ◌+◌, ◌^◌, ◌<◌, Bool, true, false, ◌==◌, List, [], ◌∷◌, ◌++◌, length, Option, Some, None, refl, sym, subst, ap, ap₂, ◌∙◌, arith, if◌then◌else◌}
use Rattle.std.specs.Prelude.{fold}
use Rattle.std.proofs.lemmas.Bool.{eqb-true}
use Rattle.std.proofs.lemmas.List.Sums.{fold-append}
use Rattle.crc.specs.declared.thirty_two.Crc32.{Crc32}
use Rattle.crc.specs.declared.thirty_two.Crc32.TheVariants.{Proximity1, Castagnoli, Ieee}
use Rattle.crc.specs.declared.file_check.FileCheck.{FileCheck}
use Rattle.crc.specs.FileChecks.{written32, crc32_of}
use Rattle.crc.specs.Pieces.{Piece, Cuts, kept_of, kept_with, nothing_kept}
use Rattle.cfdp_directives.specs.declared.pdu.sums.Checksums.{Checksums}
use Rattle.cfdp_directives.specs.Pdu.Codes.{modular, proximity, castagnoli, ieee}
use Rattle.cfdp_directives.specs.Pdu.Checksum.{modular_checksum, checksum_of, sum_at, added}
use Rattle.cfdp_directives.specs.Pdu.Sums.{nothing_summed, wants, summed, all_summed, sum_told, AreSumsOf, SumsFit}
use Rattle.cfdp_directives.proofs.Sums.{sum_at-append, any_order, at_once}

-- one of the values, by its test
chain : (a b c d : Bool) (v w x y v' w' x' y' : ℕ) → (a ≡ true → v ≡ v') → (b ≡ true → w ≡ w') → (c ≡ true → x ≡ x') → (d ≡ true → y ≡ y')
    → (if a then v else (if b then w else (if c then x else (if d then y else 0)))) ≡ (if a then v' else (if b then w' else (if c then x' else (if d then y' else 0))))
chain true b c d v w x y v' w' x' y' one two three four = one refl
chain false true c d v w x y v' w' x' y' one two three four = two refl
chain false false true d v w x y v' w' x' y' one two three four = three refl
chain false false false true v w x y v' w' x' y' one two three four = four refl
chain false false false false v w x y v' w' x' y' one two three four = refl

-- a type that is wanted
its : (wanted : Option ℕ) (kind known : ℕ) → wants wanted kind ≡ true → (kind == known) ≡ true → wants wanted known ≡ true
its wanted kind known h e = subst (λ k. wants wanted k ≡ true) (eqb-true kind known e) h

-- what the crate of checks says
abbrev pub ChecksCut : Type 0
ChecksCut = (kind : Crc32) (file : List ℕ) (pieces : List Piece) → Cuts file pieces → written32 kind (kept_of kind pieces).left ≡ crc32_of kind file

abbrev pub ChecksWhole : Type 0
ChecksWhole = (kind : Crc32) (file : List ℕ) → written32 kind (kept_with (nothing_kept kind) (record { offset = 0; bytes = file })).left ≡ crc32_of kind file

abbrev pub ChecksMore : Type 0
ChecksMore = (kind : Crc32) (front back : List ℕ) →
    kept_with (kept_with (nothing_kept kind) (record { offset = 0; bytes = front })) (record { offset = length front; bytes = back })
    ≡ kept_with (nothing_kept kind) (record { offset = 0; bytes = front ++ back })

still_kind : (k : FileCheck) (pieces : List Piece) → (fold kept_with k pieces).kind ≡ k.kind
still_kind k [] = refl
still_kind k (p ∷ pieces) = still_kind (kept_with k p) pieces

-- ---- pieces in any order
check_told : ChecksCut → (kind : Crc32) (file : List ℕ) (pieces : List Piece) (k : FileCheck) → Cuts file pieces → k ≡ kept_of kind pieces → written32 k.kind k.left ≡ crc32_of kind file
check_told law kind file pieces k cuts is =
    ap (λ (x : FileCheck). written32 x.kind x.left) is
    ∙ ap (λ (x : Crc32). written32 x (kept_of kind pieces).left) (still_kind (nothing_kept kind) pieces)
    ∙ law kind file pieces cuts

pub told : ChecksCut → (wanted : Option ℕ) (kind : ℕ) (file : List ℕ) (pieces : List Piece) (sums : Checksums) → AreSumsOf wanted pieces sums → wants wanted kind ≡ true → Cuts file pieces →
    sum_told kind sums ≡ checksum_of kind file
unfolding sum_told
told law wanted kind file pieces sums are h cuts =
    chain (kind == modular) (kind == proximity) (kind == castagnoli) (kind == ieee)
    sums.modular (written32 sums.proximity.kind sums.proximity.left) (written32 sums.castagnoli.kind sums.castagnoli.left) (written32 sums.ieee.kind sums.ieee.left)
    (modular_checksum file) (crc32_of Proximity1 file) (crc32_of Castagnoli file) (crc32_of Ieee file)
    (λ e. are.words (its wanted kind modular h e) ∙ any_order file pieces cuts)
    (λ e. check_told law Proximity1 file pieces sums.proximity cuts (are.proximity (its wanted kind proximity h e)))
    (λ e. check_told law Castagnoli file pieces sums.castagnoli cuts (are.castagnoli (its wanted kind castagnoli h e)))
    (λ e. check_told law Ieee file pieces sums.ieee cuts (are.ieee (its wanted kind ieee h e)))

pub none_are : (wanted : Option ℕ) → AreSumsOf wanted [] nothing_summed
unfolding nothing_summed
none_are wanted = record { words = λ _. refl; proximity = λ _. refl; castagnoli = λ _. refl; ieee = λ _. refl }

pub named_are : (kind : ℕ) (pieces : List Piece) (sums : Checksums) → AreSumsOf None pieces sums → AreSumsOf (Some kind) pieces sums
named_are kind pieces sums are = record { words = λ _. are.words refl; proximity = λ _. are.proximity refl; castagnoli = λ _. are.castagnoli refl; ieee = λ _. are.ieee refl }

-- of each type by itself
folded : {K : Type 0} (of : Checksums → K) (step : K → Piece → K) (wanted : Option ℕ) → ((sums : Checksums) (p : Piece) → of (summed wanted sums p) ≡ step (of sums) p)
    → (pieces : List Piece) (sums : Checksums) → of (fold (summed wanted) sums pieces) ≡ fold step (of sums) pieces
folded of step wanted one [] sums = refl
folded of step wanted one (p ∷ pieces) sums = folded of step wanted one pieces (summed wanted sums p) ∙ ap (λ k. fold step k pieces) (one sums p)

more_folded : {K : Type 0} (of : Checksums → K) (step : K → Piece → K) (start : K) (wanted : Option ℕ) → ((sums : Checksums) (p : Piece) → of (summed wanted sums p) ≡ step (of sums) p)
    → (front back : List Piece) (sums : Checksums) → of sums ≡ fold step start front → of (fold (summed wanted) sums back) ≡ fold step start (front ++ back)
more_folded of step start wanted one front back sums is =
    folded of step wanted one back sums ∙ ap (λ k. fold step k back) is ∙ sym (fold-append step start front back)

by_choice : {K : Type 0} (b : Bool) (x y : K) → b ≡ true → (if b then x else y) ≡ x
by_choice b x y h = ap (λ c. if c then x else y) h

pub more_are : (wanted : Option ℕ) (front back : List Piece) (sums : Checksums) → AreSumsOf wanted front sums → AreSumsOf wanted (front ++ back) (all_summed wanted sums back)
unfolding summed
more_are wanted front back sums are = record {
  words = λ h. more_folded (λ (s : Checksums). s.modular) added 0 wanted (λ s p. by_choice (wants wanted modular) (added s.modular p) s.modular h) front back sums (are.words h);
  proximity = λ h. more_folded (λ (s : Checksums). s.proximity) kept_with (nothing_kept Proximity1) wanted
      (λ s p. by_choice (wants wanted proximity) (kept_with s.proximity p) s.proximity h) front back sums (are.proximity h);
  castagnoli = λ h. more_folded (λ (s : Checksums). s.castagnoli) kept_with (nothing_kept Castagnoli) wanted
      (λ s p. by_choice (wants wanted castagnoli) (kept_with s.castagnoli p) s.castagnoli h) front back sums (are.castagnoli h);
  ieee = λ h. more_folded (λ (s : Checksums). s.ieee) kept_with (nothing_kept Ieee) wanted (λ s p. by_choice (wants wanted ieee) (kept_with s.ieee p) s.ieee h) front back sums (are.ieee h);
}

-- ---- octets in their order
twice : {K : Type 0} (b : Bool) (step : K → Piece → K) (z : K) (p q r : Piece) → step (step z p) q ≡ step z r
    → (if b then step (if b then step z p else z) q else (if b then step z p else z)) ≡ (if b then step z r else z)
twice true step z p q r e = e
twice false step z p q r e = refl

all_same : (s t : Checksums) → s.modular ≡ t.modular → s.proximity ≡ t.proximity → s.castagnoli ≡ t.castagnoli → s.ieee ≡ t.ieee → s ≡ t
all_same s t one two three four =
    ap₂ (λ n a. record { modular = n; proximity = a; castagnoli = s.castagnoli; ieee = s.ieee }) one two
    ∙ ap₂ (λ b c. record { modular = t.modular; proximity = t.proximity; castagnoli = b; ieee = c }) three four

words_more : (front back : List ℕ) → added (added 0 (record { offset = 0; bytes = front })) (record { offset = length front; bytes = back }) ≡ added 0 (record { offset = 0; bytes = front ++ back })
words_more front back =
    let place : 0 + length front ≡ length front = omega arith in
    let behind : sum_at (0 + length front) back ≡ sum_at (length front) back = ap (λ n. sum_at n back) place in
    omega (arith, sum_at-append 0 front back, behind)

pub goes_on : ChecksMore → (wanted : Option ℕ) (front back : List ℕ) →
    summed wanted (summed wanted nothing_summed (record { offset = 0; bytes = front })) (record { offset = length front; bytes = back })
    ≡ summed wanted nothing_summed (record { offset = 0; bytes = front ++ back })
unfolding summed nothing_summed
goes_on law wanted front back =
    let p : Piece = record { offset = 0; bytes = front } in
    let q : Piece = record { offset = length front; bytes = back } in
    let r : Piece = record { offset = 0; bytes = front ++ back } in
    let check : (b : Bool) (kind : Crc32) → (if b then kept_with (if b then kept_with (nothing_kept kind) p else nothing_kept kind) q else (if b then kept_with (nothing_kept kind) p else nothing_kept kind))
    ≡ (if b then kept_with (nothing_kept kind) r else nothing_kept kind) = λ b kind. twice b kept_with (nothing_kept kind) p q r (law kind front back) in
    all_same (summed wanted (summed wanted nothing_summed p) q) (summed wanted nothing_summed r)
    (twice (wants wanted modular) added 0 p q r (words_more front back)) (check (wants wanted proximity) Proximity1) (check (wants wanted castagnoli) Castagnoli) (check (wants wanted ieee) Ieee)

abbrev pub ChecksNone : Type 0
ChecksNone = (kind : Crc32) → kept_with (nothing_kept kind) (record { offset = 0; bytes = [] }) ≡ nothing_kept kind

either_way : {K : Type 0} (b : Bool) (x y : K) → x ≡ y → (if b then x else y) ≡ y
either_way true x y e = e
either_way false x y e = refl

pub goes_from_none : ChecksNone → (wanted : Option ℕ) → summed wanted nothing_summed (record { offset = 0; bytes = [] }) ≡ nothing_summed
unfolding summed nothing_summed sum_at
goes_from_none law wanted =
    let p : Piece = record { offset = 0; bytes = [] } in
    all_same (summed wanted nothing_summed p) nothing_summed (either_way (wants wanted modular) (added 0 p) 0 refl)
    (either_way (wants wanted proximity) (kept_with (nothing_kept Proximity1) p) (nothing_kept Proximity1) (law Proximity1))
    (either_way (wants wanted castagnoli) (kept_with (nothing_kept Castagnoli) p) (nothing_kept Castagnoli) (law Castagnoli))
    (either_way (wants wanted ieee) (kept_with (nothing_kept Ieee) p) (nothing_kept Ieee) (law Ieee))

-- ---- thirty-two bits
one_fits : (a b c d : Bool) (v w x y : ℕ) → v < 2 ^ 32 → w < 2 ^ 32 → x < 2 ^ 32 → y < 2 ^ 32
    → (if a then v else (if b then w else (if c then x else (if d then y else 0)))) < 2 ^ 32
one_fits true b c d v w x y hv hw hx hy = hv
one_fits false true c d v w x y hv hw hx hy = hw
one_fits false false true d v w x y hv hw hx hy = hx
one_fits false false false true v w x y hv hw hx hy = hy
one_fits false false false false v w x y hv hw hx hy = omega arith

pub sums_fit : (sums : Checksums) → sums.modular < 2 ^ 32 → written32 sums.proximity.kind sums.proximity.left < 2 ^ 32 → written32 sums.castagnoli.kind sums.castagnoli.left < 2 ^ 32
    → written32 sums.ieee.kind sums.ieee.left < 2 ^ 32 → SumsFit sums
unfolding sum_told
sums_fit sums a b c d kind = one_fits (kind == modular) (kind == proximity) (kind == castagnoli) (kind == ieee) _ _ _ _ a b c d

check_whole : ChecksWhole → (kind : Crc32) (file : List ℕ) (b : Bool) → b ≡ true →
    written32 (if b then kept_with (nothing_kept kind) (record { offset = 0; bytes = file }) else nothing_kept kind).kind
    (if b then kept_with (nothing_kept kind) (record { offset = 0; bytes = file }) else nothing_kept kind).left ≡ crc32_of kind file
check_whole law kind file true h = law kind file
check_whole law kind file false h = absurd cc

pub whole_told : ChecksWhole → (wanted : Option ℕ) (kind : ℕ) (file : List ℕ) → wants wanted kind ≡ true →
    sum_told kind (summed wanted nothing_summed (record { offset = 0; bytes = file })) ≡ checksum_of kind file
unfolding sum_told summed nothing_summed
whole_told law wanted kind file h =
    chain (kind == modular) (kind == proximity) (kind == castagnoli) (kind == ieee) _ _ _ _
    (modular_checksum file) (crc32_of Proximity1 file) (crc32_of Castagnoli file) (crc32_of Ieee file)
    (λ e. by_choice (wants wanted modular) (added 0 (record { offset = 0; bytes = file })) 0 (its wanted kind modular h e) ∙ at_once file)
    (λ e. check_whole law Proximity1 file (wants wanted proximity) (its wanted kind proximity h e))
    (λ e. check_whole law Castagnoli file (wants wanted castagnoli) (its wanted kind castagnoli h e))
    (λ e. check_whole law Ieee file (wants wanted ieee) (its wanted kind ieee h e))
