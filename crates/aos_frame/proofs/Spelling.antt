-- Exported: the written octets of a frame spell it; `written_frame_is_read`, `length-sealed` and
-- `length-header_octets` for callers.
use Rattle.std.proofs.Common.{◌≡◌, ℕ, Bool, true, false, ◌+◌, ◌-◌, ◌*◌, ◌/◌, ◌%◌, ◌^◌, ◌<◌, ◌≤◌, ◌==◌, ◌&&◌, nat_le, not, if◌then◌else◌, Some, None, List, [], ◌++◌, length, drop, refl, sym, ap, ◌∙◌, arith, append_assoc, length-append, length-take, length-drop}
use Rattle.std.proofs.lemmas.List.{drop_at}
use Rattle.cfd_bits.specs.Field.{field, octets}
use Rattle.cfd_bits.proofs.Fields.{length-octets, field_between}
use Rattle.cfd_bits.proofs.BitFields.{field_of_octets, field-take}
use Rattle.aos_frame.specs.declared.fields.FrameFields.{FrameFields}
use Rattle.aos_frame.specs.declared.opening.FieldsFault.TheVariants.{Short, Damaged}
use Rattle.aos_frame.specs.LinkFields.{behind_insert, extra, is_intact, mpdu_in, mpdu_len, no_fields, sealed}
use Rattle.aos_frame.proofs.RoundTrip.{opens_sealed}
use Rattle.aos_frame.specs.declared.header.FrameHeader.{FrameHeader}
use Rattle.aos_frame.specs.declared.config.ChannelConfig.{ChannelConfig}
use Rattle.aos_frame.specs.Counts.{short_counts, counts_of}
use Rattle.aos_frame.specs.Frame.{SpellsFrame, FitsHeader, count_in, cycle_in, signaling, header_octets, frame_octets}

-- What the written signaling field says of a count that fits.
record Signals (cycle : Bool) (count : ℕ) : Type 0 where
  below : signaling cycle count < 128
  two_bits : signaling cycle count / 16 % 4 ≡ 0
  told : (signaling cycle count / 64 % 2 == 1) ≡ cycle
  all : (text : List ℕ) → field text 16 24 ≡ count % short_counts → field text 44 4 ≡ signaling cycle count % 16 → count_in cycle text ≡ count

signals : (cycle : Bool) (count : ℕ) → count < counts_of cycle → Signals cycle count
signals true count few =
    record {
      below = omega arith;
      two_bits = omega arith;
      told = let one : (64 + count / short_counts) / 64 % 2 ≡ 1 = omega arith in ap (λ n. n == 1) one;
      all = λ (text : List ℕ) lower upper. omega arith;
    }
signals false count few =
    record {
      below = omega arith;
      two_bits = omega arith;
      told = refl;
      all = λ (text : List ℕ) lower upper. omega arith;
    }

pub length-header_octets : (h : FrameHeader) → length (header_octets h) ≡ 6
length-header_octets h =
    let n : ℕ = 16384 + 64 * h.spacecraft + h.virtual_channel in
    let k : ℕ = h.count % short_counts in
    let s : ℕ = signaling h.cycle h.count in
    let a = length-octets 2 n in
    let b = length-octets 3 k in
    let d = length-octets 1 s in
    omega (arith, length-append (octets 2 n) (octets 3 k), length-append (octets 2 n ++ octets 3 k) (octets 1 s))

-- the same channel, except that its frames are bare
abbrev bare_of : ChannelConfig → ChannelConfig
bare_of c = record c { fields = no_fields }

bare_is_spelled : (c : ChannelConfig) (h : FrameHeader) (rest : List ℕ) → FitsHeader h → h.spacecraft ≡ c.spacecraft → h.virtual_channel ≡ c.virtual_channel →
    length rest ≡ 2 + c.zone → SpellsFrame (bare_of c) h (frame_octets h rest) × (drop 6 (frame_octets h rest) ≡ rest)
bare_is_spelled c h rest fits ours here long =
    let n : ℕ = 16384 + 64 * h.spacecraft + h.virtual_channel in
    let k : ℕ = h.count % short_counts in
    let s : ℕ = signaling h.cycle h.count in
    let text : List ℕ = octets 2 n ++ (octets 3 k ++ (octets 1 s ++ rest)) in
    let grouped : frame_octets h rest ≡ text = simp append_assoc in
    let a = length-octets 2 n in
    let b = length-octets 3 k in
    let six = length-header_octets h in
    let ab = length-append (octets 2 n) (octets 3 k) in
    let size : length text ≡ 6 + length rest = ap length (sym grouped) ∙ length-append (header_octets h) rest ∙ ap (λ k. k + length rest) six in
    let craft = fits.spacecraft in
    let v = fits.virtual_channel in
    let told : Signals h.cycle h.count = signals h.cycle h.count fits.count in
    let below : s < 128 = told.below in
    let bits : s / 16 % 4 ≡ 0 = told.two_bits in
    let first : (i w : ℕ) → i + w ≤ 16 → field text i w ≡ n / 2 ^ (16 - (i + w)) % 2 ^ w =
    λ (i w : ℕ) (few : i + w ≤ 16). field_of_octets [] (octets 3 k ++ (octets 1 s ++ rest)) 2 n i i w (omega arith) (omega arith) few in
    let lower : field text 16 24 ≡ k = field_between (octets 2 n) (octets 1 s ++ rest) 3 k 16 24 (omega arith) (omega arith) refl in
    let turned : (octets 2 n ++ octets 3 k) ++ (octets 1 s ++ rest) ≡ text = simp append_assoc in
    let last : (at i w : ℕ) → at ≡ 40 + i → i + w ≤ 8 → field text at w ≡ s / 2 ^ (8 - (i + w)) % 2 ^ w =
    λ (at i w : ℕ) (e : at ≡ 40 + i) (few : i + w ≤ 8). rw (← turned) (field_of_octets (octets 2 n ++ octets 3 k) rest 1 s at i w (omega arith) (omega arith) few) in
    let upper : field text 44 4 ≡ s % 16 = omega (arith, last 44 4 4 (omega arith) (omega arith)) in (
      rw grouped (record {
        size = omega arith;
        intact = λ e. absurd cc;
        version = omega (arith, first 0 2 (omega arith));
        spacecraft = omega (arith, first 2 8 (omega arith));
        virtual_channel = omega (arith, first 10 6 (omega arith));
        count = told.all text lower upper;
        not_replayed = omega (arith, last 40 0 1 (omega arith) (omega arith));
        cycle = ap (λ n. n == 1) (last 41 1 1 (omega arith) (omega arith)) ∙ told.told;
        two_bits = omega (arith, last 42 2 2 (omega arith) (omega arith));
        our_spacecraft = ours;
        our_channel = here;
        carries_packets = v;
      }),
      drop_at (header_octets h) rest 6 six,
    )

intact_so : (long check whole : Bool) → (if not long then Some Short else if check && not whole then Some Damaged else None) ≡ None → check ≡ true → whole ≡ true
intact_so true true true none e = refl
intact_so true true false none e = absurd cc
intact_so true false whole none e = absurd cc
intact_so false check whole none e = absurd cc

-- how long the frame is that a bare one is sealed to
pub length-sealed : (fields : FrameFields) (bare : List ℕ) (control : ℕ) → 7 ≤ length bare → control < 256 ^ 4 → length (sealed fields bare control) ≡ length bare + extra fields
length-sealed fields bare control long fits =
    let frame : List ℕ = sealed fields bare control in
    let o = opens_sealed fields bare control (omega arith) fits in
    let n : ℕ = mpdu_len fields frame in
    omega (arith, ap (λ l. length l) o.3, length-drop 6 bare, length-take n (behind_insert fields frame), length-drop fields.insert_zone (drop 6 frame), length-drop 6 frame)

count_same : (cycle : Bool) (one two : List ℕ) → field one 44 4 ≡ field two 44 4 → field one 16 24 ≡ field two 16 24 → count_in cycle one ≡ count_in cycle two
count_same true one two upper lower = omega (arith, upper, lower)
count_same false one two upper lower = lower

pub written_frame_is_read : (c : ChannelConfig) (h : FrameHeader) (rest : List ℕ) (control : ℕ) → FitsHeader h → h.spacecraft ≡ c.spacecraft → h.virtual_channel ≡ c.virtual_channel →
    length rest ≡ 2 + c.zone → control < 256 ^ 4 →
    SpellsFrame c h (sealed c.fields (frame_octets h rest) control) × (mpdu_in c.fields (sealed c.fields (frame_octets h rest) control) ≡ rest)
written_frame_is_read c h rest control fits ours here long small =
    let bare : List ℕ = frame_octets h rest in
    let frame : List ℕ = sealed c.fields bare control in
    let b = bare_is_spelled c h rest fits ours here long in
    let s : SpellsFrame (bare_of c) h bare = b.0 in
    let o = opens_sealed c.fields bare control (omega (arith, s.size)) small in
    let same : (at w : ℕ) → at + w ≤ 48 → field frame at w ≡ field bare at w =
    λ (at w : ℕ) (few : at + w ≤ 48). sym (field-take 6 frame at w few) ∙ ap (λ l. field l at w) o.1 ∙ field-take 6 bare at w few in
    let cycles : cycle_in frame ≡ cycle_in bare = ap (λ n. n == 1) (same 41 1 (omega arith)) in
    let counts : (cycle : Bool) → count_in cycle frame ≡ count_in cycle bare = λ (cycle : Bool). count_same cycle frame bare (same 44 4 (omega arith)) (same 16 24 (omega arith)) in (
      record {
        size = length-sealed c.fields bare control (omega (arith, s.size)) small ∙ omega (arith, s.size);
        intact = intact_so (nat_le (6 + extra c.fields) (length frame)) c.fields.error_control (is_intact frame) o.0;
        version = same 0 2 (omega arith) ∙ s.version;
        spacecraft = same 2 8 (omega arith) ∙ s.spacecraft;
        virtual_channel = same 10 6 (omega arith) ∙ s.virtual_channel;
        count = counts h.cycle ∙ s.count;
        not_replayed = same 40 1 (omega arith) ∙ s.not_replayed;
        cycle = cycles ∙ s.cycle;
        two_bits = same 42 2 (omega arith) ∙ s.two_bits;
        our_spacecraft = ours;
        our_channel = here;
        carries_packets = fits.virtual_channel;
      },
      o.3 ∙ b.1,
    )
