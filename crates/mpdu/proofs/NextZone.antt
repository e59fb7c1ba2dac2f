-- Exported: how the next zone of a stream is read, and which pointers the zones of a stream have.
use Rattle.std.proofs.Common.{◌≡◌, ℕ, ◌+◌, ◌<◌, ◌≤◌, ◌==◌, ◌&&◌, not, nat_le, nat_lt, Bool, true, false, List, [], ◌∷◌, ◌++◌, length, drop, refl, ◌∙◌, arith, inl, inr}
use Rattle.std.proofs.lemmas.Bool.{lt-ltb, le-ltb, le-leb, lt-leb, cases_lt}
use Rattle.std.proofs.lemmas.List.{drop_at}
use Rattle.cfd_bits.proofs.Fields.{length-octets}
use Rattle.cfd_bits.proofs.BitFields.{field_of_octets}
use Rattle.mpdu.specs.Stream.{first_header_pointer, begun, survivors}
use Rattle.mpdu.specs.Reading.{step, held_at, is_some, resync, bad_count}
use Rattle.mpdu.specs.MpduHeader.{pointer_of, pointer_octets}
use Rattle.mpdu.specs.Feeding.{IsNext}
use Rattle.mpdu.proofs.Zone.{FedRight}
use Rattle.mpdu.proofs.Taken.{next_right}
use Rattle.mpdu.proofs.Noted.{usable, resync_is, bad_is}

-- What is held then, the packets that it gives, and what is noted of it.
pub record IsReadRight (ps : List (List ℕ)) (marks : List Bool) (held : List ℕ) (follows : Bool) (at : ℕ) (octets : List ℕ) : Type 0 where
  pub left : (step (length octets) (held_at follows held) at octets).begun ≡ begun (length octets) (marks ++ true ∷ []) 0 ps
  pub given : survivors (length octets) (marks ++ true ∷ []) 0 ps ≡ survivors (length octets) marks 0 ps ++ (step (length octets) (held_at follows held) at octets).out
  pub resync : resync (length octets) held follows at octets ≡ (not follows && is_some held)
  pub bad : bad_count (length octets) (held_at follows held) at octets ≡ 0

pub next_is_read : (ps : List (List ℕ)) (marks : List Bool) (held : List ℕ) (follows : Bool) (at : ℕ) (octets : List ℕ) → 6 ≤ length octets → length octets ≤ 2040 →
    IsNext ps marks (held_at follows held) at octets → IsReadRight ps marks held follows at octets
next_is_read ps marks held follows at octets lo hi is =
    let fed : FedRight (length octets) marks 0 ps (step (length octets) (held_at follows held) at octets) = next_right ps marks (held_at follows held) at octets lo hi is in
    record {
      left = fed.held;
      given = fed.given;
      resync = resync_is ps marks held follows at octets lo hi is;
      bad = bad_is ps marks (held_at follows held) at octets lo hi is;
    }

-- A stream's pointers fit their field, and none is the pointer of idle data.
pub pointer_fits : (z e a : ℕ) (ps : List (List ℕ)) → z ≤ 2040 → first_header_pointer z e a ps < 2048
pointer_fits z e a [] hi = omega arith
pointer_fits z e a (p ∷ ps) hi =
    let G : Type 0 = first_header_pointer z e a (p ∷ ps) < 2048 in
    let near : e ≤ a → a < e + z → G = λ (c : e ≤ a) (d : a < e + z).
    let t : nat_le e a ≡ true = le-leb e a c in
    let u : nat_lt a (e + z) ≡ true = lt-ltb a (e + z) d in
    rw (t, u) (omega arith) in
    let far : e ≤ a → e + z ≤ a → G = λ (c : e ≤ a) (d : e + z ≤ a).
    let t : nat_le e a ≡ true = le-leb e a c in
    let u : nat_lt a (e + z) ≡ false = le-ltb a (e + z) d in
    rw (t, u) (omega arith) in
    let before : a < e → G = λ (c : a < e).
    let t : nat_le e a ≡ false = lt-leb e a c in
    rw t (pointer_fits z e (a + length p) ps hi) in
    elim (cases_lt a e) [ inl c ↦ before c | inr c ↦ elim (cases_lt a (e + z)) [ inl d ↦ near c d | inr d ↦ far c d ] ]

pub pointer_is_not_idle : (z e a : ℕ) (ps : List (List ℕ)) → z ≤ 2040 → (first_header_pointer z e a ps == 2046) ≡ false
pointer_is_not_idle z e a ps hi = (usable z e a ps hi).1

-- A pointer that was written is read, and its zone stands after it.
pub written_pointer : (at : ℕ) (zone : List ℕ) → at < 2048 → (pointer_of (pointer_octets at ++ zone) ≡ at) × (drop 2 (pointer_octets at ++ zone) ≡ zone)
written_pointer at zone below = (
  field_of_octets [] zone 2 at 5 5 11 (omega arith) refl (omega arith) ∙ omega (arith, below),
  drop_at (pointer_octets at) zone 2 (length-octets 2 at),
)
