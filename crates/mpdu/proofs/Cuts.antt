-- Exported: packets that are read from a stream are the packets of which it was made.
use Rattle.std.proofs.Common.{◌≡◌, ℕ, zero, suc, ◌+◌, ◌≤◌, true, false, ◌&&◌, nat_le, ◌==◌, List, [], ◌∷◌, ◌++◌, length, take, drop, refl, sym, ap, ◌∙◌, arith, inl, inr, subst, Bool, length-append, length-drop}
use Rattle.std.proofs.lemmas.Bool.{le-leb, lt-leb, leb-true, cases_Bool, eqb-true}
use Rattle.cfd_bits.specs.Field.{field}
use Rattle.cfd_bits.proofs.BitFields.{field-below}
use Rattle.space_packet.specs.Packet.{Parts, SpellsPacket}
use Rattle.space_packet.proofs.Spelling.{spelled, type_of, flags_of}
use Rattle.std.proofs.lemmas.List.{append_assoc, append-nil, take_at, drop_at, take-append-le, take-append-drop, length-take-le}
use Rattle.mpdu.specs.Stream.{stream, header_len, header_ok, IsPacket, ArePackets}
use Rattle.mpdu.proofs.Scan.{header_len-same, header_ok-same, packet_version, packet_size, packet_long, header_len-long}
use Rattle.mpdu.specs.Packets.{begins_with_packet, first_packets, packets_of}

and_first : (x y : Bool) → (x && y) ≡ true → x ≡ true
and_first true y e = refl
and_first false y e = e

and_second : (x y : Bool) → (x && y) ≡ true → y ≡ true
and_second true y e = e
and_second false y e = absurd cc

-- a packet at the front gives its length
told_len : (p rest : List ℕ) → IsPacket p → header_len (p ++ rest) ≡ length p
told_len p rest h = header_len-same (p ++ rest) p (take-append-le 6 p rest (omega (arith, packet_long p h))) ∙ packet_size p h

told_ok : (p rest : List ℕ) → IsPacket p → header_ok (p ++ rest) ≡ true
told_ok p rest h = header_ok-same (p ++ rest) p (take-append-le 6 p rest (omega (arith, packet_long p h))) ∙ packet_version p h

begins : (p rest : List ℕ) → IsPacket p → begins_with_packet (p ++ rest) ≡ true
begins p rest h =
    let len : length (p ++ rest) ≡ length p + length rest = length-append p rest in
    let six : nat_le 6 (length (p ++ rest)) ≡ true = le-leb 6 (length (p ++ rest)) (omega (arith, packet_long p h)) in
    let all : nat_le (header_len (p ++ rest)) (length (p ++ rest)) ≡ true = le-leb (header_len (p ++ rest)) (length (p ++ rest)) (omega (arith, told_len p rest h)) in
    rw (six, told_ok p rest h, all) refl

first_packets-none : (n : ℕ) (rest : List ℕ) → begins_with_packet rest ≡ false → first_packets n rest ≡ []
unfolding first_packets
first_packets-none zero rest e = refl
first_packets-none (suc n) rest e = rw e refl

-- one more packet is read
first_packets-cons : (n : ℕ) (p rest : List ℕ) → IsPacket p → first_packets (suc n) (p ++ rest) ≡ p ∷ first_packets n rest
unfolding first_packets
first_packets-cons n p rest h =
    let first : take (header_len (p ++ rest)) (p ++ rest) ≡ p = ap (λ k. take k (p ++ rest)) (told_len p rest h) ∙ take_at p rest (length p) refl in
    let behind : drop (header_len (p ++ rest)) (p ++ rest) ≡ rest = ap (λ k. drop k (p ++ rest)) (told_len p rest h) ∙ drop_at p rest (length p) refl in
    rw (begins p rest h) (ap (λ l. l ∷ first_packets n (drop (header_len (p ++ rest)) (p ++ rest))) first ∙ ap (λ l. p ∷ first_packets n l) behind)

first_packets-stream : (n : ℕ) (ps : List (List ℕ)) (rest : List ℕ) → ArePackets ps → length ps ≤ n → begins_with_packet rest ≡ false → first_packets n (stream ps ++ rest) ≡ ps
first_packets-stream n [] rest h few e = first_packets-none n rest e
first_packets-stream zero (p ∷ ps) rest h few e = absurd (omega arith)
first_packets-stream (suc n) (p ∷ ps) rest h few e =
    ap (λ l. first_packets (suc n) l) (append_assoc p (stream ps) rest) ∙ first_packets-cons n p (stream ps ++ rest) h.0 ∙ ap (λ l. p ∷ l) (first_packets-stream n ps rest h.1 (omega arith) e)

few_packets : (ps : List (List ℕ)) → ArePackets ps → length ps ≤ length (stream ps)
few_packets [] h = omega arith
few_packets (p ∷ ps) h = omega (arith, few_packets ps h.1, packet_long p h.0, length-append p (stream ps))

pub packets_of-stream : (ps : List (List ℕ)) (rest : List ℕ) → ArePackets ps → begins_with_packet rest ≡ false → packets_of (stream ps ++ rest) ≡ ps
unfolding packets_of
packets_of-stream ps rest h e = first_packets-stream (length (stream ps ++ rest)) ps rest h (omega (arith, few_packets ps h, length-append (stream ps) rest)) e

-- the stream alone
pub packets_of_all : (ps : List (List ℕ)) (text : List ℕ) → ArePackets ps → text ≡ stream ps → packets_of text ≡ ps
packets_of_all ps text h e =
    ap packets_of (e ∙ sym (append-nil (stream ps))) ∙ packets_of-stream ps [] h refl

-- If octets begin with a packet, there is one at the front.
front_is_packet : (text : List ℕ) → begins_with_packet text ≡ true → IsPacket (take (header_len text) text)
unfolding header_len header_ok
front_is_packet text e =
    let n : ℕ = header_len text in
    let both : (nat_le 6 (length text) && header_ok text) ≡ true = and_first (nat_le 6 (length text) && header_ok text) (nat_le n (length text)) e in
    let ok : header_ok text ≡ true = and_second (nat_le 6 (length text)) (header_ok text) both in
    let room : n ≤ length text = leb-true n (length text) (and_second (nat_le 6 (length text) && header_ok text) (nat_le n (length text)) e) in
    let version : field text 0 3 ≡ 0 = eqb-true (field text 0 3) 0 ok in
    let body : List ℕ = drop 6 (take n text) in
    let size : 6 + length body ≡ n = omega (arith, length-drop 6 (take n text), length-take-le n text room) in
    let t = type_of (field text 3 1) (field-below text 3 1) in
    let f = flags_of (field text 16 2) (field-below text 16 2) in
    let parts : Parts = record { apid = field text 5 11; packet_type = t.0; has_secondary_header = field text 4 1 == 1; sequence_flags = f.0; count = field text 18 14; body = body } in
    let s : SpellsPacket parts (take (6 + length body) text) = spelled text n (field text 5 11) (field text 18 14) t.0 (field text 4 1 == 1) f.0
    body version refl room refl t.1 refl f.1 refl refl in
    record { parts = parts; spelled = subst (λ k. SpellsPacket parts (take k text)) size s }

-- All of it is read: what is left begins with no packet.
pub record AreAllIn (text : List ℕ) (ps : List (List ℕ)) : Type 0 where
  pub packets_whole : ArePackets ps
  pub rest : List ℕ
  pub ends : begins_with_packet rest ≡ false
  pub joined : text ≡ stream ps ++ rest

read_more : (n : ℕ) (text : List ℕ) → length text ≤ n → AreAllIn text (first_packets n text)
unfolding first_packets
read_more zero text few =
    let none : nat_le 6 (length text) ≡ false = lt-leb 6 (length text) (omega arith) in
    record { packets_whole = tt; rest = text; ends = rw none refl; joined = refl }
read_more (suc n) text few =
    let no_more : begins_with_packet text ≡ false → AreAllIn text (first_packets (suc n) text) = λ (e : begins_with_packet text ≡ false).
    rw e (record { packets_whole = tt; rest = text; ends = e; joined = refl }) in
    let more : begins_with_packet text ≡ true → AreAllIn text (first_packets (suc n) text) = λ (e : begins_with_packet text ≡ true).
    let r : AreAllIn (drop (header_len text) text) (first_packets n (drop (header_len text) text)) =
    read_more n (drop (header_len text) text) (omega (arith, length-drop (header_len text) text, header_len-long text)) in
    rw e (record {
      packets_whole = (front_is_packet text e, r.packets_whole);
      rest = r.rest;
      ends = r.ends;
      joined = sym (take-append-drop (header_len text) text) ∙ ap (λ l. take (header_len text) text ++ l) r.joined
          ∙ sym (append_assoc (take (header_len text) text) (stream (first_packets n (drop (header_len text) text))) r.rest);
    }) in
    elim (cases_Bool (begins_with_packet text)) [ inl e ↦ more e | inr e ↦ no_more e ]

pub packets_are_all : (text : List ℕ) → AreAllIn text (packets_of text)
unfolding packets_of
packets_are_all text = read_more (length text) text (omega arith)
