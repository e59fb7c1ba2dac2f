-- What pieces leave, as one more is written.
use Rattle.std.proofs.Common.{◌≡◌, ℕ, ◌+◌, ◌-◌, ◌<◌, ◌≤◌, List, [], ◌∷◌, ◌++◌, length, length-append, get_or, take, Bool, true, false, if◌then◌else◌, Some, None, unwrap_or, refl, ap, ◌∙◌, sym, arith, inl, inr}
use Rattle.std.proofs.lemmas.Bool.{cases_lt}
use Rattle.std.proofs.lemmas.List.{take_more, same_lists, get_or_default, get_or_append_left, get_or-append_right}
use Rattle.std.specs.Ordering.{nat_cmp}
use Rattle.std.specs.Cmp.{nat_cmp_total}
use Rattle.std.specs.FinMap.{get, empty, get-empty, same_map, nat_cmp-IsAntisymmetric}
use Rattle.cfdp_store.proofs.Octets.{get-written_below, get-written_within, get-written_behind, length-front, get_or-front}
use Rattle.cfdp_store.specs.declared.pieces.Piece.{Piece}
use Rattle.cfdp_store.specs.Staged.{OctetMap, written, front}
use Rattle.cfdp_store.specs.Pieces.{laid_on, octets_of}

-- the newest piece is written last
pub laid_on-append : (m : OctetMap) (ps : List Piece) (p : Piece) → laid_on m (ps ++ p ∷ []) ≡ written (laid_on m ps) p.offset p.octets.items
unfolding laid_on
laid_on-append m [] p = refl
laid_on-append m (q ∷ ps) p = laid_on-append (written m q.offset q.octets.items) ps p

pub octets_of-none : (ps : List Piece) → ps ≡ [] → octets_of ps ≡ empty
unfolding laid_on
octets_of-none ps e = rw e refl

-- zeros stand for no octets
pub places-none : (xs : List ℕ) (k : ℕ) → get_or xs k 0 ≡ 0 → get_or xs k 0 ≡ unwrap_or (get (octets_of []) k) 0
unfolding laid_on
places-none xs k e = e ∙ ap (λ o. unwrap_or o 0) (sym (get-empty nat_cmp k))

module _ (m : OctetMap) (at : ℕ) (ys old new : List ℕ) where
  -- if a piece is copied over what stands, the octets are as written
  places_over :
      ((k : ℕ) → k < at → get_or new k 0 ≡ get_or old k 0)
      → ((k : ℕ) → at ≤ k → k < at + length ys → k < length old → get_or new k 0 ≡ get_or ys (k - at) 0)
      → ((k : ℕ) → at + length ys ≤ k → get_or new k 0 ≡ get_or old k 0)
      → (k : ℕ) → k < length old → get_or old k 0 ≡ unwrap_or (get m k) 0
      → get_or new k 0 ≡ unwrap_or (get (written m at ys) k) 0
  places_over below within behind k h was = elim (cases_lt k at) [
    | inl low ↦ below k low ∙ was ∙ ap (λ o. unwrap_or o 0) (sym (get-written_below m at ys k low))
    | inr from ↦ elim (cases_lt k (at + length ys)) [
      | inl low ↦ within k from low h ∙ ap (λ o. unwrap_or o 0) (sym (get-written_within m at ys k 0 from low))
      | inr past ↦ behind k past ∙ was ∙ ap (λ o. unwrap_or o 0) (sym (get-written_behind m at ys k past))
    ]
  ]

-- the same for the next of some pieces
pub places-next : (items : List Piece) (i : ℕ) (p : Piece) (ys old new : List ℕ) → i < length items → p ≡ get_or items i p → ys ≡ p.octets.items
    → ((k : ℕ) → k < p.offset → get_or new k 0 ≡ get_or old k 0)
    → ((k : ℕ) → p.offset ≤ k → k < p.offset + length ys → k < length old → get_or new k 0 ≡ get_or ys (k - p.offset) 0)
    → ((k : ℕ) → p.offset + length ys ≤ k → get_or new k 0 ≡ get_or old k 0)
    → (k : ℕ) → k < length old → get_or old k 0 ≡ unwrap_or (get (octets_of (take i items)) k) 0
    → get_or new k 0 ≡ unwrap_or (get (octets_of (take (i + 1) items)) k) 0
places-next items i p ys old new h is piece below within behind k low was =
    let more : take (i + 1) items ≡ take i items ++ p ∷ [] = take_more items i p h ∙ ap (λ q. take i items ++ q ∷ []) (sym is) in
    places_over (octets_of (take i items)) p.offset ys old new below within behind k low was
    ∙ ap (λ zs. unwrap_or (get (written (octets_of (take i items)) p.offset zs) k) 0) piece
    ∙ ap (λ m. unwrap_or (get m k) 0) (sym (laid_on-append empty (take i items) p) ∙ ap octets_of (sym more))

-- a run of octets that has what is staged at each offset is the front
pub places-front : (m : OctetMap) (xs : List ℕ) (size : ℕ) → length xs ≡ size → ((k : ℕ) → k < size → get_or xs k 0 ≡ unwrap_or (get m k) 0) → xs ≡ front m size
places-front m xs size len places =
    same_lists xs (front m size) (len ∙ sym (length-front m size)) (λ k d h.
    let low : k < size = omega (arith, h, len) in
    get_or_default xs k d 0 h ∙ places k low ∙ sym (get_or-front m size k d low))

-- octets written after others, as if both had been written at once
pub written-append : (m : OctetMap) (at : ℕ) (xs ys : List ℕ) → written m at (xs ++ ys) ≡ written (written m at xs) (at + length xs) ys
written-append m at xs ys = same_map nat_cmp_total nat_cmp-IsAntisymmetric _ _ (λ q. at_each q)
  where
    at_each : (q : ℕ) → get (written m at (xs ++ ys)) q ≡ get (written (written m at xs) (at + length xs) ys) q
    at_each q = elim (cases_lt q at) [
      | inl low ↦ get-written_below m at (xs ++ ys) q low
          ∙ sym (get-written_below m at xs q low)
          ∙ sym (get-written_below (written m at xs) (at + length xs) ys q (omega arith))
      | inr from ↦ elim (cases_lt q (at + length xs)) [
        | inl low ↦ get-written_within m at (xs ++ ys) q 0 from (omega (arith, length-append xs ys))
            ∙ ap Some (get_or_append_left xs ys 0 (q - at) (omega arith))
            ∙ sym (get-written_within m at xs q 0 from low)
            ∙ sym (get-written_below (written m at xs) (at + length xs) ys q low)
        | inr past ↦ elim (cases_lt q (at + length xs + length ys)) [
          | inl low ↦ get-written_within m at (xs ++ ys) q 0 from (omega (arith, length-append xs ys))
              ∙ ap Some (get_or-append_right xs ys (length xs) (q - at) 0 refl (omega arith) ∙ ap (λ j. get_or ys j 0) (omega arith))
              ∙ sym (get-written_within (written m at xs) (at + length xs) ys q 0 past low)
          | inr behind ↦ get-written_behind m at (xs ++ ys) q (omega (arith, length-append xs ys))
              ∙ sym (get-written_behind m at xs q past)
              ∙ sym (get-written_behind (written m at xs) (at + length xs) ys q behind)
        ]
      ]
    ]

-- the last piece grows by what is written right after it, if it does
pub last_grows : (old new left : List Piece) (p q : Piece) (at : ℕ) (ys : List ℕ) (ok : Bool) → old ≡ left ++ p ∷ [] → new ≡ left ++ q ∷ []
    → q.offset ≡ p.offset → at ≡ p.offset + length p.octets.items → q.octets.items ≡ (if ok then p.octets.items ++ ys else p.octets.items)
    → octets_of new ≡ (if ok then written (octets_of old) at ys else octets_of old)
last_grows old new left p q at ys true was is start ends grown =
    ap octets_of is ∙ laid_on-append empty left q
    ∙ (λ i. written (octets_of left) (start i) (grown i))
    ∙ written-append (octets_of left) p.offset p.octets.items ys
    ∙ sym (λ i. written (laid_on-append empty left p i) (ends i) ys)
    ∙ ap (λ ps. written (octets_of ps) at ys) (sym was)
last_grows old new left p q at ys false was is start ends grown =
    ap octets_of is ∙ laid_on-append empty left q
    ∙ (λ i. written (octets_of left) (start i) (grown i))
    ∙ sym (laid_on-append empty left p) ∙ ap octets_of (sym was)

-- the only piece, if it has the first octets, is the front
pub only_is_front : (ps left : List Piece) (p : Piece) (size : ℕ) → ps ≡ left ++ p ∷ [] → length left ≡ 0 → p.offset ≡ 0 → length p.octets.items ≡ size
    → p.octets.items ≡ front (octets_of ps) size
unfolding laid_on
only_is_front ps [] p size is none start len =
    places-front (written empty p.offset p.octets.items) p.octets.items size len (λ k h.
    let here : k - p.offset ≡ k = omega (arith, start) in
    ap (λ j. get_or p.octets.items j 0) (sym here)
    ∙ ap (λ o. unwrap_or o 0) (sym (get-written_within empty p.offset p.octets.items k 0 (omega (arith, start)) (omega (arith, start, len)))))
    ∙ ap (λ qs. front (octets_of qs) size) (sym is)
only_is_front ps (l ∷ left) p size is none start len = absurd (omega arith)

-- what some pieces leave once the next one is written
pub octets-next : (items : List Piece) (i : ℕ) (p : Piece) → i < length items → p ≡ get_or items i p
    → octets_of (take (i + 1) items) ≡ written (octets_of (take i items)) p.offset p.octets.items
octets-next items i p h is =
    ap octets_of (take_more items i p h ∙ ap (λ q. take i items ++ q ∷ []) (sym is))
    ∙ laid_on-append empty (take i items) p

pub octets-first : (items : List Piece) (at : ℕ) → None ≡ get (octets_of (take 0 items)) at
unfolding laid_on
octets-first items at = sym (get-empty nat_cmp at)

-- if octets are written that stand there already, nothing changes
pub written-same : (m : OctetMap) (at : ℕ) (xs : List ℕ) → ((k : ℕ) → k < length xs → get m (at + k) ≡ Some (get_or xs k 0)) → written m at xs ≡ m
written-same m at xs same = same_map nat_cmp_total nat_cmp-IsAntisymmetric _ _ (λ q. at_each q)
  where
    at_each : (q : ℕ) → get (written m at xs) q ≡ get m q
    at_each q = elim (cases_lt q at) [
      | inl low ↦ get-written_below m at xs q low
      | inr from ↦ elim (cases_lt q (at + length xs)) [
        | inl low ↦ get-written_within m at xs q 0 from low ∙ sym (same (q - at) (omega arith)) ∙ ap (get m) (omega arith)
        | inr past ↦ get-written_behind m at xs q past
      ]
    ]
