-- Exported: a packet that is sent later changes nothing of the octets, the zones and the survivors
-- before it.
use Rattle.std.proofs.Common.{◌≡◌, ℕ, ◌+◌, ◌-◌, ◌*◌, ◌≤◌, ◌&&◌, not, nat_le, nat_lt, Bool, true, false, List, [], ◌∷◌, ◌++◌, length, take, drop, refl, sym, ap, ◌∙◌, arith, length-append, length-drop}
use Rattle.std.proofs.lemmas.Bool.{le-ltb, le-leb, lt-leb}
use Rattle.std.proofs.lemmas.List.{take-append-le, drop-append-le, append_assoc, append-nil}
use Rattle.mpdu.specs.Stream.{stream, zone, keep, is_idle, IsPacket, ArePackets, arrived, survivors, begun, first_header_pointer}
use Rattle.mpdu.proofs.Spans.{arrived-past, arrived-behind}
use Rattle.mpdu.proofs.Scan.{packet_long}
use Rattle.mpdu.proofs.Zone.{keep_false}

pub stream-push : (ps : List (List ℕ)) (q : List ℕ) → stream (ps ++ q ∷ []) ≡ stream ps ++ q
stream-push [] q = append-nil q
stream-push (p ∷ ps) q = ap (λ l. p ++ l) (stream-push ps q) ∙ sym (append_assoc p (stream ps) q)

pub ArePackets-push : (ps : List (List ℕ)) (q : List ℕ) → ArePackets ps → IsPacket q → ArePackets (ps ++ q ∷ [])
ArePackets-push [] q h hq = (hq, tt)
ArePackets-push (p ∷ ps) q h hq = (h.0, ArePackets-push ps q h.1 hq)

-- one more packet after the marks changes nothing of what was read
pub begun-push : (z : ℕ) (marks : List Bool) (a : ℕ) (ps : List (List ℕ)) (q : List ℕ) → IsPacket q → length marks * z ≤ a + length (stream ps) →
    begun z marks a (ps ++ q ∷ []) ≡ begun z marks a ps
begun-push z marks a [] q hq h =
    let e : ℕ = length marks * z in
    let t : nat_le (a + length q) e ≡ false = lt-leb (a + length q) e (omega (arith, packet_long q hq)) in
    let u : arrived z 0 marks a e ≡ true = arrived-behind z 0 marks a e (omega arith) (omega arith) in
    let k : e - a ≡ 0 = omega arith in
    rw (t, u, k) refl
begun-push z marks a (p ∷ ps) q hq h =
    rw (begun-push z marks (a + length p) ps q hq (omega (arith, length-append p (stream ps)))) refl

pub survivors-push : (z : ℕ) (marks : List Bool) (a : ℕ) (ps : List (List ℕ)) (q : List ℕ) → IsPacket q → length marks * z ≤ a + length (stream ps) →
    survivors z marks a (ps ++ q ∷ []) ≡ survivors z marks a ps
survivors-push z marks a [] q hq h =
    keep_false (arrived z 0 marks a (a + length q)) q [] (arrived-past z 0 marks a (a + length q) (omega (arith, packet_long q hq)))
survivors-push z marks a (p ∷ ps) q hq h =
    ap (λ l. keep (arrived z 0 marks a (a + length p) && not (is_idle p)) p l) (survivors-push z marks (a + length p) ps q hq (omega (arith, length-append p (stream ps))))

-- nor of an earlier zone
pub pointer-push : (z e a : ℕ) (ps : List (List ℕ)) (q : List ℕ) → e + z ≤ a + length (stream ps) → first_header_pointer z e a (ps ++ q ∷ []) ≡ first_header_pointer z e a ps
pointer-push z e a [] q h =
    let t : nat_le e a ≡ true = le-leb e a (omega arith) in
    let u : nat_lt a (e + z) ≡ false = le-ltb a (e + z) (omega arith) in
    rw (t, u) refl
pointer-push z e a (p ∷ ps) q h =
    rw (pointer-push z e (a + length p) ps q (omega (arith, length-append p (stream ps)))) refl

pub zone-push : (z e : ℕ) (ps : List (List ℕ)) (q : List ℕ) → e + z ≤ length (stream ps) → zone z e (stream (ps ++ q ∷ [])) ≡ zone z e (stream ps)
zone-push z e ps q h =
    ap (λ l. zone z e l) (stream-push ps q) ∙ ap (λ l. take z l) (drop-append-le e (stream ps) q (omega arith)) ∙ take-append-le z (drop e (stream ps)) q (omega (arith, length-drop e (stream ps)))
