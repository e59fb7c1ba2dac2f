-- A lane that sent nothing, once its frames are counted from a number on.
use Rattle.std.proofs.Common.{◌≡◌, ℕ, zero, suc, ◌+◌, ◌-◌, ◌*◌, ◌≤◌, nat_le, true, false, [], length, refl, sym, ◌∙◌, arith, length-append}
use Rattle.std.proofs.lemmas.Bool.{lt-leb}
use Rattle.std.proofs.lemmas.List.{drop_all, length-replicate}
use Rattle.space_packet.specs.Packet.{SpellsPacket, idle}
use Rattle.space_packet.proofs.Spelling.{written_packet_is_read, idle_is_writable}
use Rattle.mpdu.specs.Stream.{ArePackets, stream, is_idle}
use Rattle.mpdu.specs.Packets.{busy}
use Rattle.mpdu.specs.Packing.{idle_packet, next_start}
use Rattle.mpdu.proofs.Packed.{idle_is}
use Rattle.link_stack.specs.Downward.{LinkSenderState, IsDown, counted_from, idle_zones}
use Rattle.link_stack.proofs.Sent.{idle_of_link}

-- ---- one idle packet
spelled : (n : ℕ) → 7 ≤ n → n ≤ 2046 → SpellsPacket (idle n) (idle_packet n)
unfolding idle_packet
spelled n lo hi = written_packet_is_read (idle n) (idle_is_writable n lo (omega arith))

length-idle : (n : ℕ) → 7 ≤ n → n ≤ 2046 → length (idle_packet n) ≡ n
length-idle n lo hi =
    let s : SpellsPacket (idle n) (idle_packet n) = spelled n lo hi in
    omega (arith, s.size, length-replicate {A = ℕ} (n - 6) 0)

idle_is_idle : (n : ℕ) → 7 ≤ n → n ≤ 2046 → is_idle (idle_packet n) ≡ true
unfolding is_idle
idle_is_idle n lo hi =
    let s : SpellsPacket (idle n) (idle_packet n) = spelled n lo hi in
    rw (s.apid) refl

-- ---- many of them
are_packets : (z n : ℕ) → 7 ≤ z → z ≤ 2046 → ArePackets (idle_zones z n)
are_packets z zero lo hi = tt
are_packets z (suc n) lo hi = (idle_is z lo hi, are_packets z n lo hi)

pub are_idle : (z n : ℕ) → 7 ≤ z → z ≤ 2046 → busy (idle_zones z n) ≡ []
are_idle z zero lo hi = refl
are_idle z (suc n) lo hi =
    let one : is_idle (idle_packet z) ≡ true = idle_is_idle z lo hi in
    rw (one, are_idle z n lo hi) refl

length-zones : (z n : ℕ) → 7 ≤ z → z ≤ 2046 → length (stream (idle_zones z n)) ≡ n * z
length-zones z zero lo hi = omega arith
length-zones z (suc n) lo hi =
    omega (arith, length-append (idle_packet z) (stream (idle_zones z n)), length-idle z lo hi, length-zones z n lo hi)

-- the next one would start where they end
starts : (z n a e : ℕ) → 7 ≤ z → z ≤ 2046 → e ≡ a + n * z → next_start e a (idle_zones z n) ≡ 0
starts z zero a e lo hi is = omega (arith, is)
starts z (suc n) a e lo hi is =
    let before : nat_le e a ≡ false = lt-leb e a (omega (arith, is, lo)) in
    let long : length (idle_packet z) ≡ z = length-idle z lo hi in
    rw (before, long) (starts z n (a + z) e lo hi (omega (arith, is)))

-- ---- the lane
pub counted_is : (d : LinkSenderState) (count : ℕ) → 7 ≤ d.link.zone → d.link.zone ≤ 2046 → IsDown d [] 0 → IsDown (counted_from count d) (idle_zones d.link.zone count) count
counted_is d count lo hi is =
    let z : ℕ = d.link.zone in
    let long : length (stream (idle_zones z count)) ≡ count * z = length-zones z count lo hi in
    let none : d.waiting ≡ [] = is.packed.rest ∙ drop_all (0 * z) [] (omega arith) in
    let first : d.first ≡ 0 = omega (arith, is.packed.start) in
    record {
      packed =
          record {
            packets_whole = are_packets z count lo hi;
            below = omega (arith, long);
            rest = none ∙ sym (drop_all (count * z) (stream (idle_zones z count)) (omega (arith, long)));
            start = first ∙ sym (starts z count 0 (count * z) lo hi (omega arith));
          };
      of_link = idle_of_link d.link [] (idle_zones z count) (are_idle z count lo hi) tt;
      counted = refl;
    }
