-- How a zone is read after the begun packet.
use Rattle.std.proofs.Common.{◌≡◌, ℕ, zero, suc, ◌+◌, ◌-◌, ◌<◌, ◌≤◌, ◌⊎◌, Bool, true, false, ◌&&◌, ◌==◌, not, nat_lt, min, List, [], ◌∷◌, ◌++◌, length, take, drop, refl, sym, ap, subst, ◌∙◌, inl, inr, arith, length-append, append_assoc}
use Rattle.std.proofs.Math.Seq.{take-add, take-append-add}
use Rattle.std.proofs.lemmas.Bool.{lt-ltb, le-ltb, cases_lt}
use Rattle.std.proofs.lemmas.List.{take_at, drop_at, take-append-le, take-append-drop, drop_all, append-nil, length-take-le}
use Rattle.mpdu.specs.Stream.{keep, header_len, header_ok, is_idle}
use Rattle.mpdu.specs.Reading.{emit, scan, step, goes_on, turns_bad, to_read, pointer_after}
use Rattle.mpdu.specs.Joining.{IsBegun, IsWhole, IsCut, Heads, IsSplit}
use Rattle.mpdu.proofs.Scan.{header_len-same, header_ok-same, header_len-long, header_len-short, scan_short, scan_held, scan_next}
use Rattle.mpdu.proofs.Fronts.{keep-back}

pub begun-short : (xs : List ℕ) → IsBegun xs → length xs ≤ 65541
begun-short xs h = elim (cases_lt (length xs) 6) [ inl c ↦ omega arith | inr c ↦ omega (arith, h c, header_len-short xs) ]

begun-none : (xs : List ℕ) → length xs ≡ 0 → IsBegun xs
begun-none xs none = λ (long : 6 ≤ length xs). absurd (omega arith)

-- What reading leaves is a packet's front.
pub scan_begun : (n : ℕ) (xs : List ℕ) → IsBegun (scan n xs).begun
scan_begun zero xs = λ long. absurd (omega arith)
scan_begun (suc n) xs =
    let G : Type 0 = IsBegun (scan (suc n) xs).begun in
    let short : length xs < 6 → G = λ (c : length xs < 6). rw (lt-ltb (length xs) 6 c) (λ (long : 6 ≤ length xs). absurd (omega arith)) in
    let held : 6 ≤ length xs → length xs < header_len xs → G = λ (c : 6 ≤ length xs) (d : length xs < header_len xs).
    elim (header_ok xs) as (λ b. header_ok xs ≡ b → G) [
      | true ↦ λ (ok : header_ok xs ≡ true). rw (le-ltb (length xs) 6 c, ok, lt-ltb (length xs) (header_len xs) d) (λ (long : 6 ≤ length xs). d)
      | false ↦ λ (bad : header_ok xs ≡ false). rw (le-ltb (length xs) 6 c, bad) (λ long. absurd (omega arith))
    ] refl in
    let more : 6 ≤ length xs → header_len xs ≤ length xs → G = λ (c : 6 ≤ length xs) (d : header_len xs ≤ length xs).
    elim (header_ok xs) as (λ b. header_ok xs ≡ b → G) [
      | true ↦ λ (ok : header_ok xs ≡ true). rw (le-ltb (length xs) 6 c, ok, le-ltb (length xs) (header_len xs) d) (scan_begun n (drop (header_len xs) xs))
      | false ↦ λ (bad : header_ok xs ≡ false). rw (le-ltb (length xs) 6 c, bad) (λ long. absurd (omega arith))
    ] refl in
    elim (cases_lt (length xs) 6) [ inl c ↦ short c | inr c ↦ elim (cases_lt (length xs) (header_len xs)) [ inl d ↦ held c d | inr d ↦ more c d ] ]

split_none : (rest : List ℕ) (before : List (List ℕ)) → IsSplit rest rest [] before before
split_none rest before = record { given = []; appended = sym (append-nil before); out = refl; begun = refl; bad = refl }

split_whole : (xs rest : List ℕ) (before between : List (List ℕ)) → IsWhole xs → between ≡ before ++ keep (not (is_idle xs)) xs [] →
    IsSplit (xs ++ rest) rest [] before between
split_whole xs rest before between w more =
    let all : length (xs ++ rest) ≡ length xs + length rest = length-append xs rest in
    let head : take 6 (xs ++ rest) ≡ take 6 xs = take-append-le 6 xs rest w.long in
    let ok : header_ok (xs ++ rest) ≡ true = header_ok-same (xs ++ rest) xs head ∙ w.version in
    let len : header_len (xs ++ rest) ≡ length xs = header_len-same (xs ++ rest) xs head ∙ w.size in
    let first : take (header_len (xs ++ rest)) (xs ++ rest) ≡ xs = ap (λ n. take n (xs ++ rest)) len ∙ take_at xs rest (length xs) refl in
    let behind : drop (header_len (xs ++ rest)) (xs ++ rest) ≡ rest = ap (λ n. drop n (xs ++ rest)) len ∙ drop_at xs rest (length xs) refl in
    let long : 6 ≤ length (xs ++ rest) = omega (arith, w.long) in
    let room : header_len (xs ++ rest) ≤ length (xs ++ rest) = omega arith in
    let is : scan (length (xs ++ rest)) (xs ++ rest) ≡ emit xs (scan (length rest) rest) =
    scan_next (xs ++ rest) long ok room ∙ ap (λ l. emit l (scan (length (drop (header_len (xs ++ rest)) (xs ++ rest))) (drop (header_len (xs ++ rest)) (xs ++ rest)))) first
    ∙ ap (λ l. emit xs (scan (length l) l)) behind in
    record {
      given = keep (not (is_idle xs)) xs [];
      appended = more;
      out = ap (λ r. r.out) is ∙ keep-back (not (is_idle xs)) xs (scan (length rest) rest).out;
      begun = ap (λ r. r.begun) is;
      bad = ap (λ r. r.bad) is;
    }

scan_cut : (xs : List ℕ) → (6 ≤ length xs → header_ok xs ≡ true) → IsBegun xs → scan (length xs) xs ≡ record { begun = xs; out = []; bad = false }
scan_cut xs version begun =
    elim (cases_lt (length xs) 6) [ inl c ↦ scan_short xs c | inr c ↦ scan_held xs c (version c) (begun c) ]

split_cut : (xs rest : List ℕ) (before : List (List ℕ)) → IsCut xs rest → IsSplit (xs ++ rest) rest xs before before
split_cut xs rest before k =
    let all : xs ++ rest ≡ xs = ap (λ l. xs ++ l) k.last ∙ append-nil xs in
    let is : scan (length (xs ++ rest)) (xs ++ rest) ≡ record { begun = xs; out = []; bad = false } = ap (λ l. scan (length l) l) all ∙ scan_cut xs k.version k.begun in
    let none : scan (length rest) rest ≡ record { begun = []; out = []; bad = false } = ap (λ l. scan (length l) l) k.last in
    record {
      given = [];
      appended = sym (append-nil before);
      out = ap (λ r. r.out) is ∙ sym (ap (λ r. r.out) none);
      begun = ap (λ r. r.begun) is ∙ sym (append-nil xs) ∙ ap (λ r. xs ++ r.begun) (sym none);
      bad = ap (λ r. r.bad) is ∙ sym (ap (λ r. r.bad) none);
    }

-- A packet that is whole is handed out.
pub finished : (xs rest : List ℕ) (before between : List (List ℕ)) → 6 ≤ length xs → header_len xs ≡ length xs → Heads xs rest →
    between ≡ before ++ keep (not (is_idle xs)) xs [] → IsSplit (xs ++ rest) rest [] before between
finished xs rest before between long size (inl none) more = absurd (omega (arith, ap length none))
finished xs rest before between long size (inr (inl w)) more = split_whole xs rest before between w more
finished xs rest before between long size (inr (inr k)) more = absurd (omega (arith, k.begun long))

-- Any other stays.
pub kept : (xs rest : List ℕ) (before : List (List ℕ)) → (6 ≤ length xs → header_len xs ≡ length xs → ⊥) → Heads xs rest →
    IsSplit (xs ++ rest) rest xs before before
kept xs rest before other (inl none) = subst (λ l. IsSplit (l ++ rest) rest l before before) (sym none) (split_none rest before)
kept xs rest before other (inr (inl w)) = absurd (other w.long w.size)
kept xs rest before other (inr (inr k)) = split_cut xs rest before k

-- The begun packet with what its header needs of the zone.
same_head : (held octets front : List ℕ) → 6 ≤ length octets → front ≡ held ++ take (6 - length held) octets →
    (6 ≤ length front) × (take 6 front ≡ take 6 (held ++ octets))
same_head held octets front room is =
    let k : ℕ = 6 - length held in
    let size : length front ≡ length held + length (take k octets) = ap length is ∙ length-append held (take k octets) in
    let part : length (take k octets) ≡ k = length-take-le k octets (omega arith) in
    let long : 6 ≤ length front = omega arith in
    let whole : front ++ drop k octets ≡ held ++ octets =
    ap (λ l. l ++ drop k octets) is ∙ append_assoc held (take k octets) (drop k octets) ∙ ap (λ l. held ++ l) (take-append-drop k octets) in
    (long, sym (take-append-le 6 front (drop k octets) long) ∙ ap (λ l. take 6 l) whole)

pub goes_on_is : (z at : ℕ) (held octets front : List ℕ) → 0 < length held → 6 ≤ length octets → front ≡ held ++ take (6 - length held) octets →
    goes_on z held at octets ≡ (header_ok front && (at == pointer_after z (header_len front - length held)))
goes_on_is z at [] octets front some room is = absurd (omega arith)
goes_on_is z at (b ∷ bs) octets front some room is =
    let head = (same_head (b ∷ bs) octets front room is).1 in
    rw (header_ok-same front (b ∷ bs ++ octets) head, header_len-same front (b ∷ bs ++ octets) head) refl

pub turns_bad_is : (held octets front : List ℕ) → 0 < length held → 6 ≤ length octets → front ≡ held ++ take (6 - length held) octets →
    turns_bad held octets ≡ not (header_ok front)
turns_bad_is [] octets front some room is = absurd (omega arith)
turns_bad_is (b ∷ bs) octets front some room is =
    let head = (same_head (b ∷ bs) octets front room is).1 in
    ap not (sym (header_ok-same front (b ∷ bs ++ octets) head))

-- What is held, with the zone up to some place.
pub joined : (held octets front last : List ℕ) (end : ℕ) → front ≡ held ++ take (6 - length held) octets →
    last ≡ front ++ take (end - (6 - length held)) (drop (6 - length held) octets) → 6 - length held ≤ end → last ≡ held ++ take end octets
joined held octets front last end is more le =
    let k : ℕ = 6 - length held in
    let sum : k + (end - k) ≡ end = omega arith in
    more ∙ ap (λ l. l ++ take (end - k) (drop k octets)) is ∙ append_assoc held (take k octets) (take (end - k) (drop k octets))
    ∙ ap (λ l. held ++ l) (sym (take-add k (end - k) octets) ∙ ap (λ n. take n octets) sum)

pub joined_all : (held octets last : List ℕ) (end : ℕ) → last ≡ held ++ take end octets → last ++ drop end octets ≡ held ++ octets
joined_all held octets last end is =
    ap (λ l. l ++ drop end octets) is ∙ append_assoc held (take end octets) (drop end octets) ∙ ap (λ l. held ++ l) (take-append-drop end octets)

pub begun_less : (held octets front : List ℕ) → IsBegun held → front ≡ held ++ take (6 - length held) octets → length held < header_len front
begun_less held octets front begun is =
    let long : 6 ≤ length held → length held < header_len front = λ (c : 6 ≤ length held).
    let k : 6 - length held ≡ 0 = omega arith in
    let same : front ≡ held = is ∙ ap (λ n. held ++ take n octets) k ∙ append-nil held in
    omega (arith, begun c, ap header_len same) in
    elim (cases_lt (length held) 6) [ inl c ↦ omega (arith, header_len-long front) | inr c ↦ long c ]

-- Its header is whole then, and says what it said before.
pub last_size : (held octets front last : List ℕ) (end : ℕ) → 6 ≤ length octets → front ≡ held ++ take (6 - length held) octets →
    last ≡ front ++ take (end - (6 - length held)) (drop (6 - length held) octets) → last ≡ held ++ take end octets → end ≤ length octets →
    (6 ≤ length last) × (take 6 last ≡ take 6 front) × (header_len last ≡ header_len front) × (length last ≡ length held + end)
last_size held octets front last end room is more all within =
    let long : 6 ≤ length front = (same_head held octets front room is).0 in
    let tail : List ℕ = take (end - (6 - length held)) (drop (6 - length held) octets) in
    let six : take 6 last ≡ take 6 front = ap (λ l. take 6 l) more ∙ take-append-le 6 front tail long in (
      omega (arith, ap length more, length-append front tail),
      six,
      header_len-same last front six,
      ap length all ∙ length-append held (take end octets) ∙ ap (λ n. length held + n) (length-take-le end octets within),
    )

-- It is whole then, or the zone ends in it.
pub heads_are : (held octets front last : List ℕ) (end : ℕ) → 6 ≤ length octets → IsBegun held → front ≡ held ++ take (6 - length held) octets → header_ok front ≡ true →
    last ≡ front ++ take (end - (6 - length held)) (drop (6 - length held) octets) → last ≡ held ++ take end octets → end ≤ length octets →
    ((end ≡ header_len front - length held) ⊎ ((end ≡ length octets) × (length octets < header_len front - length held))) →
    Heads last (drop end octets)
heads_are held octets front last end room begun is ok more all within ends =
    let sizes = last_size held octets front last end room is more all within in
    let longer : 6 ≤ length last = sizes.0 in
    let ok2 : header_ok last ≡ true = header_ok-same last front (sizes.1) ∙ ok in
    let len2 : header_len last ≡ header_len front = sizes.2 in
    let size : length last ≡ length held + end = sizes.3 in
    let less : length held < header_len front = begun_less held octets front begun is in
    elim ends [
      | inl e ↦ inr (inl (record { long = longer; version = ok2; size = omega arith }))
      | inr e ↦ inr (inr (record { version = λ c. ok2; begun = λ c. omega (arith, e.0, e.1); last = ap (λ n. drop n octets) (e.0) ∙ drop_all (length octets) octets (omega arith) }))
    ]

-- All of a zone after what is held is read if the packet goes on, otherwise what stands at the
-- pointer.
pub reads_on : (z at : ℕ) (held octets : List ℕ) → goes_on z held at octets ≡ true → to_read z held at octets ≡ held ++ octets
reads_on z at held octets on = rw on refl

pub reads_at : (z at : ℕ) (held octets : List ℕ) → goes_on z held at octets ≡ false → to_read z held at octets ≡ drop at octets
reads_at z at held octets off = rw off refl

pub both_first : (a b : Bool) → (a && b) ≡ true → a ≡ true
both_first true b h = refl
both_first false b h = h

-- What a zone gives that the begun packet takes all of, and more.
pub record IsPast (z at : ℕ) (held octets : List ℕ) : Type 0 where
  pub on : goes_on z held at octets ≡ true
  pub good : turns_bad held octets ≡ false
  pub read : step z held at octets ≡ record { begun = held ++ octets; out = []; bad = false }
  pub begun : IsBegun (held ++ octets)

pub past : (z at : ℕ) (held octets : List ℕ) → z ≡ length octets → 6 ≤ length octets → 6 ≤ length held → header_ok held ≡ true → at ≡ 2047 →
    length held + z < header_len held → IsPast z at held octets
past z at held octets size room long ok none more =
    let k : 6 - length held ≡ 0 = omega arith in
    let is : held ≡ held ++ take (6 - length held) octets = sym (ap (λ n. held ++ take n octets) k ∙ append-nil held) in
    let far : nat_lt (header_len held - length held) z ≡ false = le-ltb (header_len held - length held) z (omega arith) in
    let on : goes_on z held at octets ≡ true = goes_on_is z at held octets held (omega arith) room is ∙ rw (ok, far, none) refl in
    let six : take 6 (held ++ octets) ≡ take 6 held = take-append-le 6 held octets long in
    let all : length (held ++ octets) ≡ length held + length octets = length-append held octets in
    let len : header_len (held ++ octets) ≡ header_len held = header_len-same (held ++ octets) held six in
    let less : length (held ++ octets) < header_len (held ++ octets) = omega arith in
    let ok2 : header_ok (held ++ octets) ≡ true = header_ok-same (held ++ octets) held six ∙ ok in
    record {
      on = on;
      good = turns_bad_is held octets held (omega arith) room is ∙ ap not ok;
      read = ap (λ l. scan (length l) l) (reads_on z at held octets on) ∙ scan_held (held ++ octets) (omega arith) ok2 less;
      begun = λ c. less;
    }

-- What was known of the begun packet is how it stands at the zone.
pub told_is : (z at : ℕ) (held octets front seen : List ℕ) (k n : ℕ) (r : Bool) → 0 < length held → 6 ≤ length octets →
    n ≡ length held → k ≡ 6 - n → front ≡ held ++ take k octets → seen ≡ front →
    r ≡ (header_ok seen && (at == pointer_after z (header_len seen - n))) → r ≡ goes_on z held at octets
told_is z at held octets front seen k n r some room len part is same told =
    let front_is : front ≡ held ++ take (6 - length held) octets = is ∙ ap (λ i. held ++ take i octets) (part ∙ ap (λ i. 6 - i) len) in
    told ∙ ap (λ l. header_ok l && (at == pointer_after z (header_len l - n))) same
    ∙ ap (λ i. header_ok front && (at == pointer_after z (header_len front - i))) len ∙ sym (goes_on_is z at held octets front some room front_is)

-- What reading a zone gives, from what is read after the begun packet.
pub read_front : (text all rest part held : List ℕ) (before between out : List (List ℕ)) (n : ℕ) → all ≡ text → part ≡ rest → IsSplit all rest held before between →
    out ≡ between ++ take n (scan (length part) part).out → (m : ℕ) × (out ≡ before ++ take m (scan (length text) text).out)
read_front text all rest part held before between out n is same s more = (
  length s.given + n,
  more ∙ ap (λ l. l ++ take n (scan (length part) part).out) s.appended ∙ append_assoc before s.given (take n (scan (length part) part).out)
      ∙ ap (λ l. before ++ (s.given ++ take n (scan (length l) l).out)) same
      ∙ ap (λ l. before ++ l) (sym (take-append-add s.given (scan (length rest) rest).out n))
      ∙ ap (λ l. before ++ take (length s.given + n) l) (sym s.out) ∙ ap (λ l. before ++ take (length s.given + n) (scan (length l) l).out) is,
)

pub read_begun : (text all rest part held behind : List ℕ) (before between : List (List ℕ)) → all ≡ text → part ≡ rest → IsSplit all rest held before between →
    behind ≡ (scan (length part) part).begun → held ++ behind ≡ (scan (length text) text).begun
read_begun text all rest part held behind before between is same s left =
    ap (λ l. held ++ l) (left ∙ ap (λ l. (scan (length l) l).begun) same) ∙ sym s.begun ∙ ap (λ l. (scan (length l) l).begun) is

pub some_of : (n m : ℕ) → n ≡ m → false ≡ (n == 0) → 0 < m
some_of zero m is none = absurd (cc)
some_of (suc n) m is some = omega arith

pub min_is : (m n e : ℕ) → e ≡ min m n → (e ≡ m) ⊎ ((e ≡ n) × (n < m))
min_is m n e is = elim (cases_lt n m) [ inl c ↦ inr (omega arith, c) | inr c ↦ inl (omega arith) ]

-- what is handed out after what is held is handed out of all
pub hands_behind : (text all rest part held : List ℕ) (before between : List (List ℕ)) → all ≡ text → part ≡ rest → IsSplit all rest held before between →
    1 ≤ length (scan (length part) part).out → 1 ≤ length (scan (length text) text).out
hands_behind text all rest part held before between is same s some =
    let out = ap length (ap (λ l. (scan (length l) l).out) (sym is) ∙ s.out ∙ ap (λ l. s.given ++ (scan (length l) l).out) (sym same)) in
    omega (arith, out, some, length-append s.given (scan (length part) part).out)

-- a whole packet that is held, and isn't idle, is handed out
pub hands_whole : (text xs rest : List ℕ) → 6 ≤ length xs → header_len xs ≡ length xs → Heads xs rest → is_idle xs ≡ false → xs ++ rest ≡ text →
    1 ≤ length (scan (length text) text).out
hands_whole text xs rest long size heads busy is =
    let kept : [] ++ keep (not (is_idle xs)) xs [] ≡ xs ∷ [] = ap (λ b. keep (not b) xs []) busy in
    let s : IsSplit (xs ++ rest) rest [] [] ([] ++ keep (not (is_idle xs)) xs []) = finished xs rest [] ([] ++ keep (not (is_idle xs)) xs []) long size heads refl in
    let given : s.given ≡ xs ∷ [] = sym s.appended ∙ kept in
    let out = ap length (ap (λ l. (scan (length l) l).out) (sym is) ∙ s.out ∙ ap (λ l. l ++ (scan (length rest) rest).out) given) in
    omega (arith, out)
