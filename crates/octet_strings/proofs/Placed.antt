-- Strings in a buffer that grows, and in which they are cut.
use Rattle.std.proofs.Common.{◌≡◌, ℕ, zero, suc, ◌+◌, ◌-◌, ◌<◌, ◌≤◌, List, [], ◌∷◌, ◌++◌, All, length, take, drop, map, min, slice_index_or, slice_set, nat_le, true, false, Bool, refl, sym, ap, ◌∙◌, inl, inr, Result, Ok, Err, OnErr, arith, length-drop, length-take}
use Rattle.std.proofs.lemmas.List.{take-append-le, drop-append-le, drop-take, drop-drop, drop_all, take_all, map-append, map-set, take-map, drop-map, get_or-map}
use Rattle.std.proofs.Math.Seq.{drop-append_seam}
use Rattle.std.proofs.lemmas.Bool.{cases_Bool, leb-true, leb-false}
use Rattle.std.proofs.Math.Nat.{min-eq_left}
use Rattle.std.specs.List.{remove}
use Rattle.octet_strings.specs.declared.Place.{Place}
use Rattle.octet_strings.specs.Strings.{string_at, strings_at, AreWithin}

-- what is added after them changes no string
one_kept : (octets more : List ℕ) (p : Place) → p.from + p.len ≤ length octets → string_at (octets ++ more) p ≡ string_at octets p
one_kept octets more p within =
    ap (λ l. take p.len l) (drop-append-le p.from octets more (omega (arith, within)))
    ∙ take-append-le p.len (drop p.from octets) more (omega (arith, within, length-drop p.from octets))

pub all_kept : (octets more : List ℕ) (places : List Place) → AreWithin (length octets) places → strings_at (octets ++ more) places ≡ strings_at octets places
all_kept octets more [] within = refl
all_kept octets more (p ∷ places) within =
    ap (λ s. s ∷ strings_at (octets ++ more) places) (one_kept octets more p (within 0 p (omega arith)))
    ∙ ap (λ l. string_at octets p ∷ l) (all_kept octets more places (λ k d inside. within (suc k) d (omega (arith, inside))))

-- one is added after the others
pub one_more : (octets more : List ℕ) (places : List Place) (p : Place) → AreWithin (length octets) places → p.from ≡ length octets → p.len ≡ length more →
    strings_at (octets ++ more) (places ++ p ∷ []) ≡ strings_at octets places ++ more ∷ []
one_more octets more places p within from len =
    let last : string_at (octets ++ more) p ≡ more = ap (λ n. take p.len (drop n (octets ++ more))) from ∙ ap (λ l. take p.len l) (drop-append_seam octets more)
    ∙ take_all p.len more (omega (arith, len)) in
    map-append (λ (q : Place). string_at (octets ++ more) q) places (p ∷ [])
    ∙ ap (λ l. l ++ string_at (octets ++ more) p ∷ []) (all_kept octets more places within)
    ∙ ap (λ s. strings_at octets places ++ s ∷ []) last

-- one is taken out
pub one_less : (octets : List ℕ) (places : List Place) (i : ℕ) → strings_at octets (remove places i) ≡ remove (strings_at octets places) i
one_less octets places i =
    let f = λ (q : Place). string_at octets q in
    map-append f (take i places) (drop (suc i) places)
    ∙ ap (λ l. l ++ strings_at octets (drop (suc i) places)) (sym (take-map f i places))
    ∙ ap (λ l. take i (strings_at octets places) ++ l) (sym (drop-map f (suc i) places))

-- the front of one is taken off
cut_front : (octets : List ℕ) (from len count : ℕ) → take (len - min count len) (drop (from + min count len) octets) ≡ drop count (take len (drop from octets))
cut_front octets from len count =
    let rest : List ℕ = drop from octets in
    let G : Type 0 = take (len - min count len) (drop (from + min count len) octets) ≡ drop count (take len rest) in
    let some : nat_le count len ≡ true → G = λ (e : nat_le count len ≡ true).
    let within : count ≤ len = leb-true count len e in
    let m : min count len ≡ count = min-eq_left within in
    let l : count + (len - count) ≡ len = omega (arith, within) in
    ap (λ k. take (len - k) (drop (from + k) octets)) m ∙ ap (λ x. take (len - count) x) (sym (drop-drop count from octets))
    ∙ sym (drop-take count (len - count) rest) ∙ ap (λ k. drop count (take k rest)) l in
    let all : nat_le count len ≡ false → G = λ (e : nat_le count len ≡ false).
    let past : len ≤ count = omega (arith, leb-false count len e) in
    let m : min count len ≡ len = omega (arith, past) in
    let none : len - len ≡ 0 = omega arith in
    ap (λ k. take (len - k) (drop (from + k) octets)) m ∙ ap (λ k. take k (drop (from + len) octets)) none
    ∙ sym (drop_all count (take len rest) (omega (arith, past, length-take len rest))) in
    elim (cases_Bool (nat_le count len)) [ inl e ↦ some e | inr e ↦ all e ]

pub one_shorter : (octets : List ℕ) (places : List Place) (i count from len : ℕ) (d : Place) → i < length places → d ≡ slice_index_or places i d → from ≡ d.from + min count d.len → len ≡ d.len - min count d.len →
    strings_at octets (slice_set places i (record { from = from; len = len })) ≡ slice_set (strings_at octets places) i (drop count (slice_index_or (strings_at octets places) i []))
one_shorter octets places i count from len d there is ef el =
    let f = λ (q : Place). string_at octets q in
    let old : slice_index_or (strings_at octets places) i [] ≡ string_at octets d = get_or-map f places i d [] there ∙ ap f (sym is) in
    map-set f places i (record { from = from; len = len })
    ∙ ap (λ l. slice_set (strings_at octets places) i l) (ap (λ n. take n (drop from octets)) el ∙ ap (λ n. take (d.len - min count d.len) (drop n octets)) ef ∙ cut_front octets d.from d.len count
    ∙ ap (λ l. drop count l) (sym old))

pub on_err : {A E : Type 0} {P : Type 0} (r : Result A E) → P → OnErr r P
on_err (Ok x) p = tt
on_err (Err e) p = p
