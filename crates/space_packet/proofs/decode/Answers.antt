use Rattle.std.proofs.Common.{◌≡◌, ℕ, ◌+◌, ◌-◌, ◌≤◌, List, length, take, drop, sym, ap, ◌∙◌, arith, length-take}
use Rattle.std.proofs.lemmas.List.{take_rest, take-append-drop}
use Rattle.cfd_bits.specs.Field.{field}
use Rattle.space_packet.proofs.Spelling.{spelled, IsInFront, in_front, same_parts, same_type, same_flags, flag_given}
use Rattle.space_packet.proofs.decode.Goals as goal

pub returns-then-bytes-lt-HEADER_LEN-clause-front : goal.returns-then-bytes-lt-HEADER_LEN-clause-front
returns-then-bytes-lt-HEADER_LEN-clause-front c p n s =
    let size : length (take n c.args.bytes.now) ≡ 6 + length p.body = s.size in
    let cut : length (take n c.args.bytes.now) ≤ length c.args.bytes.now = omega (arith, length-take n c.args.bytes.now) in
    absurd (omega arith)

pub returns-then-version-ne0-clause-only : goal.returns-then-version-ne0-clause-only
returns-then-version-ne0-clause-only c p front behind s is =
    let f : IsInFront c.args.bytes.now front behind = in_front p c.args.bytes.now front behind s is in
    c.if-version-ne0.true (c.version.ensures.value ∙ f.same 0 3 (omega arith) ∙ s.version)

pub returns-then-bytes-len-clause-only : goal.returns-then-bytes-len-clause-only
returns-then-bytes-len-clause-only c p front behind s is =
    let f : IsInFront c.args.bytes.now front behind = in_front p c.args.bytes.now front behind s is in
    let room : 7 + field c.args.bytes.now 32 16 ≤ length c.args.bytes.now = f.room in
    let told : c.packet_len-len.result ≡ 7 + field c.args.bytes.now 32 16 = c.packet_len-len.ensures.value in
    omega arith

-- the body that is borrowed
lent : (front text : List ℕ) (n : ℕ) → front ≡ take n text → take (length front - 6) (drop 6 front) ≡ drop 6 (take n text)
lent front text n e = take_rest front 6 ∙ ap (λ l. drop 6 l) e

pub returns-clause-found : goal.returns-clause-found
returns-clause-found c =
    spelled c.args.bytes.now c.packet_len-len.result c.apid.result c.sequence_count.result c.packet_type.result c.has_secondary_header.result c.sequence_flags.result _
    (sym c.version.ensures.value ∙ c.if-version-ne0.false) c.packet_len-len.ensures.value (omega arith) c.apid.ensures.value c.packet_type.ensures c.has_secondary_header.ensures
    c.sequence_flags.ensures c.sequence_count.ensures.value (lent c.split_at.result.0.now c.args.bytes.now c.packet_len-len.result c.split_at.ensures.front)

pub returns-clause-only : goal.returns-clause-only
returns-clause-only c p front behind s is =
    let f : IsInFront c.args.bytes.now front behind = in_front p c.args.bytes.now front behind s is in
    let long : c.packet_len-len.result ≡ 7 + field c.args.bytes.now 32 16 = c.packet_len-len.ensures.value in (
      same_parts _ p
          (c.apid.ensures.value ∙ f.same 5 11 (omega arith) ∙ s.apid)
          (same_type c.packet_type.result p.packet_type (c.packet_type.ensures ∙ f.same 3 1 (omega arith) ∙ s.packet_type))
          (c.has_secondary_header.ensures ∙ flag_given (field c.args.bytes.now 4 1) p.has_secondary_header (f.same 4 1 (omega arith) ∙ s.secondary_header))
          (same_flags c.sequence_flags.result p.sequence_flags (c.sequence_flags.ensures ∙ f.same 16 2 (omega arith) ∙ s.sequence_flags))
          (c.sequence_count.ensures.value ∙ f.same 18 14 (omega arith) ∙ s.count)
          (lent c.split_at.result.0.now c.args.bytes.now c.packet_len-len.result c.split_at.ensures.front ∙ ap (λ n. drop 6 (take n c.args.bytes.now)) long ∙ ap (drop 6) f.front_is ∙ s.body),
      c.split_at.ensures.back ∙ ap (λ n. drop n c.args.bytes.now) long ∙ f.behind_is,
    )

pub returns-then-version-ne0-clause-front : goal.returns-then-version-ne0-clause-front
returns-then-version-ne0-clause-front c p n s = returns-then-version-ne0-clause-only c p (take n c.args.bytes.now) (drop n c.args.bytes.now) s (sym (take-append-drop n c.args.bytes.now))

pub returns-then-bytes-len-clause-front : goal.returns-then-bytes-len-clause-front
returns-then-bytes-len-clause-front c p n s = returns-then-bytes-len-clause-only c p (take n c.args.bytes.now) (drop n c.args.bytes.now) s (sym (take-append-drop n c.args.bytes.now))

pub returns-clause-front : goal.returns-clause-front
returns-clause-front c p n s = returns-clause-only c p (take n c.args.bytes.now) (drop n c.args.bytes.now) s (sym (take-append-drop n c.args.bytes.now))
