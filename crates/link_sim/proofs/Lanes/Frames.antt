-- The lane whose frame leaves next, and the lane that a frame comes to.
use Rattle.std.proofs.Common.{◌≡◌, ℕ, ◌+◌, ◌*◌, ◌%◌, ◌^◌, ◌<◌, ◌≤◌, Bool, true, false, if◌then◌else◌, nat_le, List, Option, Some, None, length, get_or, refl, sym, ap, ◌∙◌, inl, inr, arith, length-append}
use Rattle.std.proofs.lemmas.Bool.{cases_Bool, cases_lt, le-leb, lt-leb}
use Rattle.cfd_bits.specs.Field.{field}
use Rattle.cfd_bits.specs.Field as bits
use Rattle.cfd_bits.proofs.Fields.{field_in_octet, length-octets}
use Rattle.cfd_bits.proofs.BitFields.{field-take}
use Rattle.aos_frame.specs.Counts.{frame_counts}
use Rattle.aos_frame.specs.Frame.{IsChannel, header_octets}
use Rattle.aos_frame.specs.declared.header.FrameHeader.{FrameHeader}
use Rattle.aos_frame.specs.declared.config.Lane.{Lane}
use Rattle.aos_frame.specs.declared.config.Lane.TheVariants.{Directives, Data}
use Rattle.aos_frame.specs.declared.config.ChannelConfig.{ChannelConfig}
use Rattle.aos_frame.proofs.Spelling.{length-header_octets, length-sealed}
use Rattle.aos_frame.proofs.RoundTrip.{opens_sealed}
use Rattle.mpdu.specs.MpduHeader.{pointer_octets}
use Rattle.mpdu.specs.Stream.{stream, zone, first_header_pointer}
use Rattle.link_stack.specs.Downward.{DownState, LinkSenderState, frame_lane, has_whole, lane_down, sealed_frame}
use Rattle.link_stack.specs.Frames.{frame_of, mpdu_of}
use Rattle.cfdp_station.specs.Link.{IsNotWhole}

-- ---- the channel in a frame
second_octet : (link : ChannelConfig) (ps : List (List ℕ)) (n : ℕ) → get_or (frame_of link ps n) 1 0 ≡ (16384 + 64 * link.spacecraft + link.virtual_channel) % 256
unfolding bits.octets
second_octet link ps n = refl

pub frame-channel : (link : ChannelConfig) (ps : List (List ℕ)) (n : ℕ) → IsChannel link → (7 ≤ length (frame_of link ps n)) × (field (frame_of link ps n) 10 6 ≡ link.virtual_channel)
frame-channel link ps n valid =
    let h : FrameHeader = record { spacecraft = link.spacecraft; virtual_channel = link.virtual_channel; count = n % frame_counts; cycle = true } in
    let p : List ℕ = pointer_octets (first_header_pointer link.zone (n * link.zone) 0 ps) in
    let z : List ℕ = zone link.zone (n * link.zone) (stream ps) in
    let k : ℕ = (16384 + 64 * link.spacecraft + link.virtual_channel) % 256 in (
      omega (arith, length-append (header_octets h) (mpdu_of link ps n), length-header_octets h, length-append p z, length-octets 2 (first_header_pointer link.zone (n * link.zone) 0 ps)),
      omega (arith, valid.virtual_channel, field_in_octet (frame_of link ps n) 10 6 1 2 k refl (omega arith) (second_octet link ps n)),
    )

-- so of the frame as it is sent
pub sealed-channel : (d : LinkSenderState) (ps : List (List ℕ)) (n : ℕ) → IsChannel d.link → d.control < 256 ^ 4 →
    (2 ≤ length (sealed_frame d ps n)) × (field (sealed_frame d ps n) 10 6 ≡ d.link.virtual_channel)
sealed-channel d ps n valid fits =
    let bare : List ℕ = frame_of d.link ps n in
    let c = frame-channel d.link ps n valid in
    let o = opens_sealed d.link.fields bare d.control (omega (arith, c.0)) fits in (
      omega (arith, length-sealed d.link.fields bare d.control c.0 fits, c.0),
      sym (field-take 6 (sealed_frame d ps n) 10 6 (omega arith)) ∙ ap (λ l. field l 10 6) o.1 ∙ field-take 6 bare 10 6 (omega arith) ∙ c.1,
    )
