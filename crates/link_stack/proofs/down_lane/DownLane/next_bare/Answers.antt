use Rattle.std.proofs.Common.{◌≡◌, ℕ, ◌+◌, ◌*◌, ◌≤◌, ◌%◌, ◌++◌, [], List, true, length, take, drop, ap, sym, subst, ◌∙◌, arith, append-nil, length-append}
use Rattle.std.proofs.lemmas.List.{append_assoc, drop_all, drop_at}
use Rattle.aos_frame.specs.Counts.{frame_counts}
use Rattle.aos_frame.specs.Frame.{header_octets, frame_octets}
use Rattle.aos_frame.specs.declared.config.ChannelConfig.{ChannelConfig}
use Rattle.aos_frame.specs.declared.header.FrameHeader.{FrameHeader}
use Rattle.mpdu.specs.MpduHeader.{pointer_octets}
use Rattle.mpdu.specs.Stream.{stream}
use Rattle.mpdu.specs.Packing.{IsAt, ZoneOf}
use Rattle.link_stack.specs.Frames.{frame_of}
use Rattle.link_stack.specs.Downward.{LinkSenderState}
use Rattle.link_stack.proofs.Sent.{written_frame, at_of, down_is, next_count}
use Rattle.link_stack.proofs.down_lane.DownLane.next_bare.Goals as goal

pub returns-clause-made : goal.returns-clause-made
returns-clause-made c done =
    let d : LinkSenderState = c.args.self.now in
    let link : ChannelConfig = c.self.inside.link in
    let p = c.self.inside.packer in
    let size = c.self.invariant.1 in
    let ours : link ≡ d.link = ap (λ x. x.link) c.self.view_is in
    let zone : link.zone ≡ d.link.zone = ap (λ (l : ChannelConfig). l.zone) ours in
    let h : List ℕ = c.encode.new.out in
    let k : List ℕ = c.put_pointer.new.out in
    let z : List ℕ = c.zone.new.out in
    let head : FrameHeader = record { spacecraft = link.spacecraft; virtual_channel = link.virtual_channel; count = c.next.result; cycle = true } in
    let none : drop 6 c.args.header.now ≡ [] = drop_all 6 c.args.header.now (omega (arith, c.requires.header)) in
    let none_behind : drop 2 c.split_at_mut-pointer_octets.result.0.now ≡ [] = drop_all 2 c.split_at_mut-pointer_octets.result.0.now (omega (arith, c.split_at_mut-pointer_octets.ensures.front_len)) in
    let front : h ≡ header_octets head = c.encode.ensures ∙ ap (λ l. frame_octets head l) none ∙ append-nil (header_octets head) in
    let behind : k ≡ pointer_octets c.in-Some.pointer = c.put_pointer.ensures ∙ ap (λ l. pointer_octets c.in-Some.pointer ++ l) none_behind ∙ append-nil (pointer_octets c.in-Some.pointer) in
    let written : h ++ k ≡ frame_octets head (pointer_octets c.in-Some.pointer) = ap (λ l. l ++ k) front ∙ ap (λ l. header_octets head ++ l) behind in
    let joined : h ++ (k ++ z) ≡ (h ++ k) ++ z = sym (append_assoc h k z) in
    let len_z : length z ≡ link.zone = omega (arith, c.zone.auto.out, c.split_at_mut-pointer_octets.ensures.back_len, c.requires.mpdu, zone) in
    let eight : length (h ++ k) ≡ 8 =
    omega (arith, length-append h k, c.encode.auto.out, c.put_pointer.auto.out, c.requires.header, c.split_at_mut-pointer_octets.ensures.front_len) in
    record {
      long = omega (arith, length-append h (k ++ z), length-append k z, length-append h k, eight, len_z, zone);
      stream = λ ps made is.
          let at : IsAt p ps made = at_of d link p c.self.inside.frames ps made (sym c.self.view_is) size is in
          let both : ZoneOf ps made p.size c.in-Some.pointer z × IsAt c.zone.new.self ps (made + 1) = c.in-Some.ensures.stream ps made at in
          let zo : ZoneOf ps made link.zone c.in-Some.pointer z = subst (λ (s : ℕ). ZoneOf ps made s c.in-Some.pointer z) size both.0 in
          let count : c.next.result ≡ made % frame_counts = c.next.ensures.count ∙ ap (λ x. x.frame_count) c.self.view_is ∙ is.counted in
          let text : h ++ (k ++ z) ≡ frame_of link ps made =
          joined ∙ written_frame link ps made c.next.result c.in-Some.pointer (h ++ k) z count written zo in (
            subst (λ (l : ChannelConfig). h ++ (k ++ z) ≡ frame_of l ps made) ours text,
            subst (λ (l : ChannelConfig). made * l.zone + l.zone ≤ length (stream ps)) ours zo.inside,
            down_is d link p c.zone.new.self c.self.inside.frames c.next.new.self ps ps made (made + 1) (sym c.self.view_is) (c.zone.ensures.fixed.0 ∙ size)
                (λ all. all)
                (λ e. next_count c.self.inside.frames c.next.new.self made e c.next.ensures.after) is both.1,
          );
      zone = ap (drop 8) joined ∙ drop_at (h ++ k) z 8 eight ∙ c.in-Some.ensures.octets
          ∙ ap (λ n. take n p.waiting) size ∙ ap (λ (x : LinkSenderState). take x.link.zone x.waiting) c.self.view_is;
      waiting = c.in-Some.ensures.rest ∙ ap (λ n. drop n p.waiting) size ∙ ap (λ (x : LinkSenderState). drop x.link.zone x.waiting) c.self.view_is;
      fixed = (
        ours,
        c.zone.ensures.fixed.1 ∙ ap (λ (x : LinkSenderState). x.capacity) c.self.view_is,
        c.zone.ensures.flag ∙ ap (λ (x : LinkSenderState). x.flushed) c.self.view_is,
        ap (λ (x : LinkSenderState). x.control) c.self.view_is,
      );
    }
