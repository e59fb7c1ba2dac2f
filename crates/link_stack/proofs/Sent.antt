-- What the sending end of a link adds to its stream.
use Rattle.std.proofs.Common.{◌≡◌, ℕ, ◌+◌, ◌*◌, ◌%◌, ◌^◌, ◌<◌, ◌≤◌, true, false, None, Result, Ok, Err, OnOk, IsErr, List, [], ◌∷◌, ◌++◌, ◌⊎◌, length, take, drop, refl, sym, ap, subst, ◌∙◌, inl, inr, arith}
use Rattle.std.proofs.lemmas.Bool.{cases_Bool, eq-eqb}
use Rattle.std.proofs.lemmas.List.{append_assoc, drop-drop, take_at, drop_at}
use Rattle.cfd_bits.specs.Field.{flag}
use Rattle.mpdu.specs.MpduHeader.{pointer_octets}
use Rattle.space_packet.specs.Packet.{Parts, SpellsPacket, flag_bits}
use Rattle.space_packet.specs.declared.packet.SequenceFlags.TheVariants.{Unsegmented}
use Rattle.aos_frame.specs.declared.fields.FrameFields.{FrameFields}
use Rattle.aos_frame.specs.LinkFields.{bare_in, behind_insert, extra, mpdu_in, mpdu_len, sealed}
use Rattle.aos_frame.proofs.RoundTrip.{opens_sealed}
use Rattle.aos_frame.specs.Counts.{frame_counts}
use Rattle.aos_frame.specs.Frame.{header_octets, frame_octets}
use Rattle.aos_frame.specs.declared.config.ChannelConfig.{ChannelConfig}
use Rattle.mpdu.specs.Stream.{is_idle, stream, first_header_pointer}
use Rattle.mpdu.specs.Packets.{busy}
use Rattle.mpdu.specs.Packing.{PackerState, IsAt, ZoneOf}
use Rattle.link_stack.specs.Frames.{packet_drop, AreOfLink, mpdu_of, frame_of, zone_in}
use Rattle.link_stack.specs.Downward.{LinkSenderState, packing, IsDown, MakesFrame}

-- a packet more
pub of_link-push : (link : ChannelConfig) (ps : List (List ℕ)) (q : List ℕ) → AreOfLink link ps → ((is_idle q ≡ true) ⊎ (packet_drop link q ≡ None)) → AreOfLink link (ps ++ q ∷ [])
of_link-push link [] q all is = (is, tt)
of_link-push link (p ∷ ps) q all is = (all.0, of_link-push link ps q all.1 is)

-- what carries a PDU of the link
pub ours : (link : ChannelConfig) (p : Parts) (text : List ℕ) → SpellsPacket p text → p.apid ≡ link.apid → p.sequence_flags ≡ Unsegmented → p.has_secondary_header ≡ false → packet_drop link text ≡ None
unfolding packet_drop
ours link p text is apid flags plain =
    rw (is.apid ∙ apid, is.sequence_flags ∙ ap flag_bits flags, is.secondary_header ∙ ap flag plain, eq-eqb link.apid link.apid refl) refl

-- packets that are all idle
pub idle_of_link : (link : ChannelConfig) (ps qs : List (List ℕ)) → busy qs ≡ [] → AreOfLink link ps → AreOfLink link (ps ++ qs)
idle_of_link link (p ∷ ps) qs none all = (all.0, idle_of_link link ps qs none all.1)
idle_of_link link [] [] none all = tt
idle_of_link link [] (q ∷ qs) none all =
    let G : Type 0 = AreOfLink link (q ∷ qs) in
    let idle_one : is_idle q ≡ true → G = λ (e : is_idle q ≡ true). (inl e, idle_of_link link [] qs (rw e at none) tt) in
    let busy_one : is_idle q ≡ false → G = λ (e : is_idle q ≡ false). absurd (let bad : q ∷ busy qs ≡ [] = rw e at none in cc) in
    elim (cases_Bool (is_idle q)) [ inl e ↦ idle_one e | inr e ↦ busy_one e ]

-- the octets of a frame that is written
pub written_frame : (link : ChannelConfig) (ps : List (List ℕ)) (made count pointer : ℕ) (headers body : List ℕ) → count ≡ made % frame_counts →
    headers ≡ frame_octets (record { spacecraft = link.spacecraft; virtual_channel = link.virtual_channel; count = count; cycle = true }) (pointer_octets pointer) →
    ZoneOf ps made link.zone pointer body → headers ++ body ≡ frame_of link ps made
written_frame link ps made count pointer headers body counted written zo =
    let h : ℕ → List ℕ = λ (n : ℕ). header_octets (record { spacecraft = link.spacecraft; virtual_channel = link.virtual_channel; count = n; cycle = true }) in
    let same : pointer_octets pointer ++ body ≡ mpdu_of link ps made =
    ap (λ n. pointer_octets n ++ body) zo.pointed ∙ ap (λ l. pointer_octets (first_header_pointer link.zone (made * link.zone) 0 ps) ++ l) zo.cut_out in
    ap (λ l. l ++ body) written ∙ append_assoc (h count) (pointer_octets pointer) body ∙ ap (λ n. h n ++ (pointer_octets pointer ++ body)) counted ∙ ap (λ l. h (made % frame_counts) ++ l) same

-- a bare frame where it stands in a frame of the channel, its M_PDU after the insert zone
pub bare_at : (fields : FrameFields) (h a m b : List ℕ) → length h ≡ 6 → length a ≡ fields.insert_zone → length m + 6 + extra fields ≡ length (h ++ (a ++ (m ++ b))) →
    bare_in fields (h ++ (a ++ (m ++ b))) ≡ h ++ m
bare_at fields h a m b lh la lm =
    let f : List ℕ = h ++ (a ++ (m ++ b)) in
    let six : take 6 f ≡ h = take_at h (a ++ (m ++ b)) 6 lh in
    let rest : drop 6 f ≡ a ++ (m ++ b) = drop_at h (a ++ (m ++ b)) 6 lh in
    let after : behind_insert fields f ≡ m ++ b = ap (drop fields.insert_zone) rest ∙ drop_at a (m ++ b) fields.insert_zone la in
    let mid : length m ≡ mpdu_len fields f = omega (arith, lm) in
    let mpdu : mpdu_in fields f ≡ m = ap (take (mpdu_len fields f)) after ∙ take_at m b (mpdu_len fields f) mid in
    ap (λ l. l ++ mpdu_in fields f) six ∙ ap (λ l. h ++ l) mpdu

-- what it is once it is sealed
pub makes_sealed : (old new : LinkSenderState) (bare frame : List ℕ) → length bare ≡ 8 + old.link.zone → old.control < 256 ^ 4 → frame ≡ sealed old.link.fields bare old.control →
    ((ps : List (List ℕ)) (made : ℕ) → IsDown old ps made → (bare ≡ frame_of old.link ps made) × (made * old.link.zone + old.link.zone ≤ length (stream ps)) × IsDown new ps (made + 1)) →
    drop 8 bare ≡ take old.link.zone old.waiting → new.waiting ≡ drop old.link.zone old.waiting → (new.link ≡ old.link) × (new.capacity ≡ old.capacity) × (new.flushed ≡ old.flushed) × (new.control ≡ old.control) →
    MakesFrame frame old new
makes_sealed old new bare frame long fits is streams zone rest fixed =
    let o = opens_sealed old.link.fields bare old.control (omega (arith, long)) fits in
    let its : zone_in old.link frame ≡ drop 2 (drop 6 bare) = ap (λ l. zone_in old.link l) is ∙ ap (λ l. drop 2 l) o.3 in
    record {
      is_next = λ ps made d. is ∙ ap (λ l. sealed old.link.fields l old.control) (streams ps made d).0;
      inside = λ ps made d. (streams ps made d).1;
      after = λ ps made d. (streams ps made d).2;
      zone = its ∙ drop-drop 2 6 bare ∙ zone;
      waiting = rest;
      link = fixed.0;
      capacity = fixed.1;
      flushed = fixed.2;
      control = fixed.3;
      fits = fits;
    }

-- a lane of the link, by its packer and the count of its frames
abbrev pub descent : ChannelConfig → PackerState → ℕ → ℕ → LinkSenderState
descent link p b k = record { link = link; capacity = p.capacity; waiting = p.waiting; first = p.first; flushed = p.flushed; frame_count = b; control = k }

pub same_packing : {k : ℕ} (d : LinkSenderState) (link : ChannelConfig) (p : PackerState) (b : ℕ) → d ≡ descent link p b k → p.size ≡ link.zone → p ≡ packing d
same_packing {k} d link p b is size =
    let sized : p ≡ packing (descent link p b k) = ap (λ n. record { size = n; capacity = p.capacity; waiting = p.waiting; first = p.first; flushed = p.flushed }) size in
    sized ∙ sym (ap packing is)

-- what its packer's stream is
pub at_of : {k : ℕ} (d : LinkSenderState) (link : ChannelConfig) (p : PackerState) (b : ℕ) (ps : List (List ℕ)) (made : ℕ) → d ≡ descent link p b k → p.size ≡ link.zone → IsDown d ps made → IsAt p ps made
at_of d link p b ps made same size is = subst (λ (x : PackerState). IsAt x ps made) (sym (same_packing d link p b same size)) is.packed

-- a step that keeps the link
pub down_is : {k k' : ℕ} (d : LinkSenderState) (link : ChannelConfig) (p q : PackerState) (b b' : ℕ) (ps qs : List (List ℕ)) (made made' : ℕ) → d ≡ descent link p b k → q.size ≡ link.zone →
    (AreOfLink link ps → AreOfLink link qs) → (b ≡ made % frame_counts → b' ≡ made' % frame_counts) → IsDown d ps made → IsAt q qs made' → IsDown (descent link q b' k') qs made'
down_is {k} {k'} d link p q b b' ps qs made made' same size ours counts is at =
    record {
      packed = subst (λ (x : PackerState). IsAt x qs made') (same_packing (descent link q b' k') link q b' refl size) at;
      of_link = ours (subst (λ (l : ChannelConfig). AreOfLink l ps) (ap (λ x. x.link) same) is.of_link);
      counted = counts (sym (ap (λ x. x.frame_count) same) ∙ is.counted);
    }

pub next_count : (b b' made : ℕ) → b ≡ made % frame_counts → b' ≡ (b + 1) % frame_counts → b' ≡ (made + 1) % frame_counts
next_count b b' made e f = omega (arith, e, f)

-- a packet that there was room for
pub was_put : {A E P : Type 0} (r : Result A E) → (IsErr r → ⊥) → OnOk r P → P
was_put (Ok x) room put = put
was_put (Err e) room put = absurd (room refl)
