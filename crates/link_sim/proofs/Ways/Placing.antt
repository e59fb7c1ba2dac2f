-- The places of pieces of octets.
use Rattle.std.proofs.Common.{◌≡◌, MatchOption, inl, inr, ℕ, zero, suc, add-one, ◌+◌, ◌*◌, ◌<◌, ◌≤◌, List, [], ◌∷◌, ◌++◌, length, take, drop, slice_index_or, refl, sym, ap, subst, ◌∙◌, arith}
use Rattle.std.specs.List.{slice_get}
use Rattle.std.proofs.lemmas.Option.{slice_get_cases}
use Rattle.std.proofs.lemmas.List.{drop-drop, drop-take, take-take, length-take, take-append-le}
use Rattle.std.proofs.Math.Seq.{take-append_seam}
use Rattle.std.proofs.Math.Nat.{mul-le-mul_right}
use Rattle.link_sim.specs.FrameLink.{pieces}

pub pieces_len : (len n : ℕ) (o : List ℕ) → length (pieces len n o) ≡ n
unfolding pieces
pieces_len len zero o = refl
pieces_len len (suc n) o = ap suc (pieces_len len n (drop len o))

pub pieces_none : (len : ℕ) (o : List ℕ) → pieces len 0 o ≡ []
unfolding pieces
pieces_none len o = refl

none_before : (len : ℕ) → zero * len ≡ 0
none_before len = omega arith

one_before : (len n : ℕ) → suc n * len ≡ len + n * len
one_before len n = omega arith

-- one more is the one after those before it
more : (len n : ℕ) (o : List ℕ) → pieces len (suc n) o ≡ pieces len n o ++ take len (drop (n * len) o) ∷ []
unfolding pieces
more len zero o = rw (none_before len) refl
more len (suc n) o =
    rw (one_before len n, ← drop-drop (n * len) len o) (ap (λ x. take len o ∷ x) (more len n (drop len o)))

pub pieces_more : (len n : ℕ) (o : List ℕ) → pieces len (n + 1) o ≡ pieces len n o ++ take len (drop (n * len) o) ∷ []
pieces_more len n o = rw add-one (more len n o)

-- they are those of the octets up to the end of the last
pub pieces_front : (len n : ℕ) (o p : List ℕ) → take (n * len) o ≡ take (n * len) p → pieces len n o ≡ pieces len n p
unfolding pieces
pieces_front len zero o p same = refl
pieces_front len (suc n) o p same =
    let whole : take (len + n * len) o ≡ take (len + n * len) p = rw (← one_before len n) same in
    let first : take len o ≡ take len p =
    sym (take-take len (len + n * len) o (omega arith)) ∙ ap (take len) whole ∙ take-take len (len + n * len) p (omega arith) in
    let rest : take (n * len) (drop len o) ≡ take (n * len) (drop len p) = sym (drop-take len (n * len) o) ∙ ap (drop len) whole ∙ drop-take len (n * len) p in
    rw (first, pieces_front len n (drop len o) (drop len p) rest) refl

-- the one at a place
pub pieces_at : (len n i : ℕ) (o : List ℕ) → i < n → slice_index_or (pieces len n o) i [] ≡ take len (drop (i * len) o)
unfolding pieces
pieces_at len zero i o h = absurd (omega (arith, h))
pieces_at len (suc n) zero o h = rw (none_before len) refl
pieces_at len (suc n) (suc i) o h = rw (one_before len i, ← drop-drop (i * len) len o) (pieces_at len n i (drop len o) (omega (arith, h)))

-- one that has room ends in the octets
pub room_behind : (len count blanks total : ℕ) → total ≡ (count + blanks) * len → 1 ≤ blanks → count * len + len ≤ total
room_behind len count zero total is h = absurd (omega (arith, h))
room_behind len count (suc b) total is h =
    let whole : (count + suc b) * len ≡ count * len + len + b * len = omega arith in
    omega (arith, is, whole)

pub room_at : (len count blanks total place : ℕ) → total ≡ (count + blanks) * len → place < count → place * len + len ≤ total
room_at len count blanks total place is h =
    let more : place + 1 ≤ count + blanks = omega (arith, h) in
    let least : (place + 1) * len ≤ (count + blanks) * len = mul-le-mul_right len more in
    let one : (place + 1) * len ≡ place * len + len = omega arith in
    omega (arith, is, least, one)

-- room for more was made after them
pub pieces_grown : (len count blanks more n : ℕ) (o p q : List ℕ) → length o ≡ (count + blanks) * len → n ≡ (count + more) * len → p ≡ take n o ++ q → pieces len count p ≡ pieces len count o
pieces_grown len count blanks more n o p q is room grown =
    let k : ℕ = count * len in
    let held : (count + blanks) * len ≡ count * len + blanks * len = omega arith in
    let wanted : (count + more) * len ≡ count * len + more * len = omega arith in
    let in_old : k ≤ length o = omega (arith, is, held) in
    let in_new : k ≤ n = omega (arith, room, wanted) in
    let front : k ≤ length (take n o) = omega (arith, length-take n o, in_old, in_new) in
    pieces_front len count p o (ap (take k) grown ∙ take-append-le k (take n o) q front ∙ take-take k n o in_new)

-- one was written after them
pub pieces_pulled : (len count n : ℕ) (w o r : List ℕ) → length w ≡ n → r ≡ o → take (count * len) w ≡ take (count * len) r → pieces len (count + 1) (take n (w ++ drop (length w) o))
    ≡ pieces len count o ++ take len (drop (count * len) w) ∷ []
pieces_pulled len count n w o r whole is front =
    let written : take n (w ++ drop (length w) o) ≡ w = subst (λ (k : ℕ). take k (w ++ drop (length w) o) ≡ w) whole (take-append_seam w (drop (length w) o)) in
    ap (pieces len (count + 1)) written ∙ pieces_more len count w
    ∙ ap (λ x. x ++ take len (drop (count * len) w) ∷ []) (pieces_front len count w o (front ∙ ap (take (count * len)) is))

-- one place for each frame: there is one of the oldest that waits
pub place_waits : (places : List ℕ) (taken n : ℕ) → length places ≡ n → MatchOption (slice_get places taken) (n ≤ taken) (λ place. taken < n)
place_waits places taken n is = elim (slice_get_cases places taken).1 [ inl h ↦ rw h.2 (omega (arith, h.1, is)) | inr h ↦ rw h.1 (omega (arith, h.0, is)) ]
