-- Exported: the written octets of a packet, and of an idle one, spell it; `written_packet_is_read`
-- and `idle_is_writable` for callers. What the octets of a packet determine, and what is written.
use Rattle.std.proofs.Common.{◌≡◌, ℕ, zero, suc, ◌+◌, ◌-◌, ◌*◌, ◌/◌, ◌%◌, ◌^◌, ◌<◌, ◌≤◌, Bool, true, false, nat_eq, List, [], ◌++◌, length, take, drop, refl, sym, ap, subst, ◌∙◌, arith, append_assoc, length-append, length-drop, lit<, replicate}
use Rattle.std.proofs.lemmas.List.{take_at, drop_at, length-take-le, take-append-drop, drop-drop, length-replicate}
use Rattle.cfd_bits.specs.Field.{field, octets, flag}
use Rattle.cfd_bits.proofs.Fields.{IsBytes, length-octets, field-append_left, octets-field}
use Rattle.cfd_bits.proofs.BitFields.{field-below, field-split, field-take, field_of_octets}
use Rattle.space_packet.specs.Packet.{Parts, SpellsPacket, IsWritable, type_bit, flag_bits, packet_octets, header_octets, idle}
use Rattle.space_packet.specs.declared.packet.PacketType.{PacketType}
use Rattle.space_packet.specs.declared.packet.PacketType.TheVariants.{Telemetry, Telecommand}
use Rattle.space_packet.specs.declared.packet.SequenceFlags.{SequenceFlags}
use Rattle.space_packet.specs.declared.packet.SequenceFlags.TheVariants.{Continuation, First, Last, Unsegmented}

pub same_flag : (a b : Bool) → flag a ≡ flag b → a ≡ b
same_flag true true e = refl
same_flag false false e = refl
same_flag true false e = absurd cc
same_flag false true e = absurd cc

pub flag_below : (b : Bool) → flag b < 2
flag_below true = omega arith
flag_below false = omega arith

-- the bits of a type, and of flags, determine which they are
pub same_type : (a b : PacketType) → type_bit a ≡ type_bit b → a ≡ b
same_type Telemetry Telemetry e = refl
same_type Telecommand Telecommand e = refl
same_type Telemetry Telecommand e = absurd cc
same_type Telecommand Telemetry e = absurd cc

pub same_flags : (a b : SequenceFlags) → flag_bits a ≡ flag_bits b → a ≡ b
same_flags Continuation Continuation e = refl
same_flags First First e = refl
same_flags Last Last e = refl
same_flags Unsegmented Unsegmented e = refl
same_flags Continuation First e = absurd cc
same_flags Continuation Last e = absurd cc
same_flags Continuation Unsegmented e = absurd cc
same_flags First Continuation e = absurd cc
same_flags First Last e = absurd cc
same_flags First Unsegmented e = absurd cc
same_flags Last Continuation e = absurd cc
same_flags Last First e = absurd cc
same_flags Last Unsegmented e = absurd cc
same_flags Unsegmented Continuation e = absurd cc
same_flags Unsegmented First e = absurd cc
same_flags Unsegmented Last e = absurd cc

-- they fit their fields
pub type_below : (t : PacketType) → type_bit t < 2
type_below Telemetry = omega arith
type_below Telecommand = omega arith

pub flags_below : (f : SequenceFlags) → flag_bits f < 4
flags_below Continuation = omega arith
flags_below First = omega arith
flags_below Last = omega arith
flags_below Unsegmented = omega arith

-- and each number that fits is one of them
pub type_of : (n : ℕ) → n < 2 → (t : PacketType) × (type_bit t ≡ n)
type_of zero h = (Telemetry, refl)
type_of (suc zero) h = (Telecommand, refl)
type_of (suc (suc n)) h = absurd (omega (arith, h))

pub flags_of : (n : ℕ) → n < 4 → (f : SequenceFlags) × (flag_bits f ≡ n)
flags_of zero h = (Continuation, refl)
flags_of (suc zero) h = (First, refl)
flags_of (suc (suc zero)) h = (Last, refl)
flags_of (suc (suc (suc zero))) h = (Unsegmented, refl)
flags_of (suc (suc (suc (suc n)))) h = absurd (omega (arith, h))

-- a bit as it is read
pub flag_read : (n : ℕ) → n < 2 → n ≡ flag (nat_eq n 1)
flag_read zero h = refl
flag_read (suc zero) h = refl
flag_read (suc (suc n)) h = absurd (omega arith)

-- and as it was written
pub flag_given : (n : ℕ) (b : Bool) → n ≡ flag b → nat_eq n 1 ≡ b
flag_given n true e = ap (λ k. nat_eq k 1) e
flag_given n false e = ap (λ k. nat_eq k 1) e

pub same_parts : (p q : Parts) → p.apid ≡ q.apid → p.packet_type ≡ q.packet_type → p.has_secondary_header ≡ q.has_secondary_header → p.sequence_flags ≡ q.sequence_flags →
    p.count ≡ q.count → p.body ≡ q.body → p ≡ q
same_parts p q a k s f c b =
    let same : record { apid = p.apid; packet_type = p.packet_type; has_secondary_header = p.has_secondary_header; sequence_flags = p.sequence_flags; count = p.count; body = p.body }
    ≡ record { apid = q.apid; packet_type = q.packet_type; has_secondary_header = q.has_secondary_header; sequence_flags = q.sequence_flags; count = q.count; body = q.body } = cc in
    same

-- octets spell at most one packet
pub unique : (p q : Parts) (t : List ℕ) → SpellsPacket p t → SpellsPacket q t → p ≡ q
unique p q t a b =
    same_parts p q (sym a.apid ∙ b.apid) (same_type p.packet_type q.packet_type (sym a.packet_type ∙ b.packet_type))
    (same_flag p.has_secondary_header q.has_secondary_header (sym a.secondary_header ∙ b.secondary_header))
    (same_flags p.sequence_flags q.sequence_flags (sym a.sequence_flags ∙ b.sequence_flags)) (sym a.count ∙ b.count) (sym a.body ∙ b.body)

-- a packet at the front of octets: the whole begins with its header, which gives its length
pub record IsInFront (text front behind : List ℕ) : Type 0 where
  pub same : (at w : ℕ) → at + w ≤ 48 → field text at w ≡ field front at w
  pub long : 7 + field text 32 16 ≡ length front
  pub room : 7 + field text 32 16 ≤ length text
  pub header : 6 ≤ length text
  pub front_is : take (7 + field text 32 16) text ≡ front
  pub behind_is : drop (7 + field text 32 16) text ≡ behind

pub in_front : (p : Parts) (text front behind : List ℕ) → SpellsPacket p front → text ≡ front ++ behind → IsInFront text front behind
in_front p text front behind s is =
    let size : length front ≡ 6 + length p.body = s.size in
    let told : field front 32 16 + 1 ≡ length p.body = s.data_length in
    let part : (at w : ℕ) → at + w ≤ 48 → field text at w ≡ field front at w = λ (at w : ℕ) (few : at + w ≤ 48). ap (λ t. field t at w) is ∙ field-append_left front behind at w (omega arith) in
    let long : 7 + field text 32 16 ≡ length front = omega (arith, part 32 16 (omega arith), size, told) in
    let whole : length text ≡ length front + length behind = ap length is ∙ length-append front behind in
    record {
      same = part;
      long = long;
      room = omega arith;
      header = omega arith;
      front_is = ap (λ n. take n text) long ∙ ap (take (length front)) is ∙ take_at front behind (length front) refl;
      behind_is = ap (λ n. drop n text) long ∙ ap (drop (length front)) is ∙ drop_at front behind (length front) refl;
    }

pub no_packet_begins_another : (p q : Parts) (a b x y : List ℕ) → SpellsPacket p a → SpellsPacket q b → a ++ x ≡ b ++ y → (p ≡ q) × (a ≡ b) × (x ≡ y)
no_packet_begins_another p q a b x y s t e =
    let f : IsInFront (a ++ x) a x = in_front p (a ++ x) a x s refl in
    let g : IsInFront (a ++ x) b y = in_front q (a ++ x) b y t e in
    let same : a ≡ b = sym f.front_is ∙ g.front_is in
    (unique p q b (subst (SpellsPacket p) same s) t, same, sym f.behind_is ∙ g.behind_is)

-- what is written spells the packet
pub written_packet_is_read : (p : Parts) → IsWritable p → SpellsPacket p (packet_octets p)
written_packet_is_read p fits =
    let n : ℕ = 4096 * type_bit p.packet_type + 2048 * flag p.has_secondary_header + p.apid in
    let m : ℕ = 16384 * flag_bits p.sequence_flags + p.count in
    let k : ℕ = length p.body - 1 in
    let text : List ℕ = octets 2 n ++ (octets 2 m ++ (octets 2 k ++ p.body)) in
    let grouped : packet_octets p ≡ text = simp append_assoc in
    let a = length-octets 2 n in
    let b = length-octets 2 m in
    let c = length-octets 2 k in
    let ab = length-append (octets 2 n) (octets 2 m) in
    let abc : length (header_octets p (length p.body)) ≡ 6 = omega (arith, length-append (octets 2 n ++ octets 2 m) (octets 2 k)) in
    let f1 = type_below p.packet_type in
    let f2 = flag_below p.has_secondary_header in
    let f3 = flags_below p.sequence_flags in
    let b1 = fits.apid in
    let b2 = fits.count in
    let b3 = fits.some in
    let b4 = fits.fits in
    let first : (i w : ℕ) → i + w ≤ 16 → field text i w ≡ n / 2 ^ (16 - (i + w)) % 2 ^ w =
    λ (i w : ℕ) (h : i + w ≤ 16). field_of_octets [] (octets 2 m ++ (octets 2 k ++ p.body)) 2 n i i w (omega arith) (omega arith) h in
    let second : (at i w : ℕ) → at ≡ 16 + i → i + w ≤ 16 → field text at w ≡ m / 2 ^ (16 - (i + w)) % 2 ^ w =
    λ (at i w : ℕ) (e : at ≡ 16 + i) (h : i + w ≤ 16). field_of_octets (octets 2 n) (octets 2 k ++ p.body) 2 m at i w (omega arith) (omega arith) h in
    let turned : (octets 2 n ++ octets 2 m) ++ (octets 2 k ++ p.body) ≡ text = simp append_assoc in
    let third : field text 32 16 ≡ k / 2 ^ 0 % 2 ^ 16 = ap (λ t. field t 32 16) (sym turned)
    ∙ field_of_octets (octets 2 n ++ octets 2 m) p.body 2 k 32 0 16 (omega arith) (omega arith) (omega arith) in
    rw grouped (record {
      version = omega (arith, first 0 3 (omega arith));
      packet_type = omega (arith, first 3 1 (omega arith));
      secondary_header = omega (arith, first 4 1 (omega arith));
      apid = omega (arith, first 5 11 (omega arith));
      sequence_flags = omega (arith, second 16 0 2 (omega arith) (omega arith));
      count = omega (arith, second 18 2 14 (omega arith) (omega arith));
      data_length = omega (arith, third);
      size = ap length (sym grouped) ∙ length-append (header_octets p (length p.body)) p.body ∙ ap (λ l. l + length p.body) abc;
      body = ap (drop 6) (sym grouped) ∙ drop_at (header_octets p (length p.body)) p.body 6 abc;
    })

-- an idle packet can be written at each of these lengths
pub idle_is_writable : (len : ℕ) → 7 ≤ len → len ≤ 65542 → IsWritable (idle len)
idle_is_writable len least most =
    let n : length (replicate {A = ℕ} (len - 6) 0) ≡ len - 6 = length-replicate (len - 6) 0 in
    record { apid = lit< tt; count = lit< tt; some = omega arith; fits = omega arith }

-- no bit is spare
pub a_packet_has_one_spelling : (p : Parts) (text : List ℕ) → IsBytes text → SpellsPacket p text → IsWritable p × (text ≡ packet_octets p)
a_packet_has_one_spelling p text small s =
    let size : length text ≡ 6 + length p.body = s.size in
    let told : field text 32 16 + 1 ≡ length p.body = s.data_length in
    let v = s.version in
    let k = s.packet_type in
    let e = s.secondary_header in
    let a = s.apid in
    let f = s.sequence_flags in
    let c = s.count in
    let n : field text 0 16 ≡ 4096 * type_bit p.packet_type + 2048 * flag p.has_secondary_header + p.apid =
    omega (arith, field-split text 0 5 11, field-split text 0 4 1, field-split text 0 3 1) in
    let m : field text 16 16 ≡ 16384 * flag_bits p.sequence_flags + p.count = omega (arith, field-split text 16 2 14) in
    let l : field text 32 16 ≡ length p.body - 1 = omega arith in
    let one : take 2 text ≡ octets 2 (4096 * type_bit p.packet_type + 2048 * flag p.has_secondary_header + p.apid) = sym (octets-field text 0 0 2 small refl (omega arith)) ∙ ap (octets 2) n in
    let two : take 2 (drop 2 text) ≡ octets 2 (16384 * flag_bits p.sequence_flags + p.count) = sym (octets-field text 16 2 2 small refl (omega arith)) ∙ ap (octets 2) m in
    let three : take 2 (drop 4 text) ≡ octets 2 (length p.body - 1) = sym (octets-field text 32 4 2 small refl (omega arith)) ∙ ap (octets 2) l in
    let cut : text ≡ take 2 text ++ (take 2 (drop 2 text) ++ (take 2 (drop 4 text) ++ drop 6 text)) =
    sym (take-append-drop 2 text)
    ∙ ap (λ t. take 2 text ++ t) (sym (take-append-drop 2 (drop 2 text)) ∙ ap (λ t. take 2 (drop 2 text) ++ t) (drop-drop 2 2 text))
    ∙ ap (λ t. take 2 text ++ (take 2 (drop 2 text) ++ t)) (sym (take-append-drop 2 (drop 4 text)) ∙ ap (λ t. take 2 (drop 4 text) ++ t) (drop-drop 2 4 text)) in
    let joined : take 2 text ++ (take 2 (drop 2 text) ++ (take 2 (drop 4 text) ++ drop 6 text)) ≡ packet_octets p = rw (one, two, three, s.body) (sym (simp append_assoc)) in (
      record {
        apid = omega (arith, field-below text 5 11);
        count = omega (arith, field-below text 18 14);
        some = omega arith;
        fits = omega (arith, field-below text 32 16);
      },
      cut ∙ joined,
    )

-- what is read is spelled so
pub spelled : (text : List ℕ) (n a c : ℕ) (k : PacketType) (s : Bool) (f : SequenceFlags) (body : List ℕ) → field text 0 3 ≡ 0 → n ≡ 7 + field text 32 16 → n ≤ length text →
    a ≡ field text 5 11 → type_bit k ≡ field text 3 1 → s ≡ nat_eq (field text 4 1) 1 → flag_bits f ≡ field text 16 2 → c ≡ field text 18 14 → body ≡ drop 6 (take n text) →
    SpellsPacket (record { apid = a; packet_type = k; has_secondary_header = s; sequence_flags = f; count = c; body = body }) (take (6 + length body) text)
spelled text n a c k s f body version size room ea ek es ef ec eb =
    let len : length (take n text) ≡ n = length-take-le n text room in
    let rest : length body ≡ n - 6 = ap length eb ∙ omega (arith, length-drop 6 (take n text)) in
    let whole : 6 + length body ≡ n = omega arith in
    let part : (at w : ℕ) → at + w ≤ 48 → field (take n text) at w ≡ field text at w = λ (at w : ℕ) (few : at + w ≤ 48). field-take n text at w (omega arith) in
    rw whole (record {
      version = part 0 3 (omega arith) ∙ version;
      packet_type = part 3 1 (omega arith) ∙ sym ek;
      secondary_header = part 4 1 (omega arith) ∙ flag_read (field text 4 1) (omega (arith, field-below text 4 1)) ∙ ap flag (sym es);
      apid = part 5 11 (omega arith) ∙ sym ea;
      sequence_flags = part 16 2 (omega arith) ∙ sym ef;
      count = part 18 14 (omega arith) ∙ sym ec;
      data_length = omega (arith, part 32 16 (omega arith));
      size = omega arith;
      body = sym eb;
    })
