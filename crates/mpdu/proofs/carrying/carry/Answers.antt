use Rattle.std.proofs.Common.{◌≡◌, ℕ, ◌+◌, ◌<◌, ◌++◌, ◌∷◌, List, [], Bool, length, take, drop, length-take, length-append, length-drop, sym, ap, subst, ◌∙◌, IsErr, arith}
use Rattle.std.proofs.lemmas.List.{take_all}
use Rattle.mpdu.specs.Stream.{IsPacket}
use Rattle.mpdu.specs.Packing.{IsAt, flush_of}
use Rattle.mpdu.specs.Feeding.{octets_of_each}
use Rattle.mpdu.specs.Carrying.{AreSurvivors, fill_of}
use Rattle.mpdu.specs.Draining.{IsCarried}
use Rattle.mpdu.proofs.Carried.{carried_push, carried_flush, carried_all, flush_is, ArePackets-at, packet_short, ok_unless, packets_more}
use Rattle.mpdu.proofs.carrying.carry.Goals as goal

pub push-requires : goal.push-requires
push-requires c =
    subst (λ (l : List ℕ). IsPacket l) (sym c.deref.ensures.value) (ArePackets-at c.args.packets.now c.loop-packet.packet-index c.packet-item.result c.requires.whole (omega arith) c.packet-item.is)

pub loop-packet-preserved : goal.loop-packet-preserved
loop-packet-preserved c =
    let i : ℕ = c.loop-packet.packet-index in
    let struck : List Bool = c.args.struck.now in
    let q : List ℕ = c.deref.result.now in
    let ps : List (List ℕ) = octets_of_each (take i c.args.packets.now) in
    let hq : IsPacket q = subst (λ (l : List ℕ). IsPacket l) (sym c.deref.ensures.value) (ArePackets-at c.args.packets.now i c.packet-item.result c.requires.whole (omega arith) c.packet-item.is) in
    let h : IsCarried ps struck c.args.zone c.loop-packet.packer c.loop-packet.reassembler c.loop-packet.counts.counter c.loop-packet.counts.monitor c.loop-packet.sent
    c.loop-packet.out = c.loop-packet.invariant.carried in
    let fits : IsErr c.push.result → ⊥ = λ (bad : IsErr c.push.result).
    let no_room : c.loop-packet.packer.capacity < length c.loop-packet.packer.waiting + length q = c.push.ensures.full.0 bad in
    absurd (omega (arith, packet_short q hq)) in
    let at : IsAt c.push.new.self (ps ++ q ∷ []) h.taken = ok_unless _ c.push.result fits (c.push.ensures.stream ps h.taken h.packed) in
    let put : IsCarried (ps ++ q ∷ []) struck c.args.zone c.push.new.self c.loop-packet.reassembler c.loop-packet.counts.counter c.loop-packet.counts.monitor c.loop-packet.sent
    c.loop-packet.out =
    carried_push ps struck c.args.zone c.loop-packet.packer c.push.new.self c.loop-packet.reassembler c.loop-packet.counts.counter c.loop-packet.counts.monitor c.loop-packet.sent
    c.loop-packet.out q hq c.push.ensures.fixed.0 h at in
    let len : length c.deref_mut.result.now ≡ c.args.zone = ap length c.deref_mut.ensures.value ∙ c.loop-packet.invariant.buffer in
    let given : IsCarried (ps ++ q ∷ []) struck c.args.zone c.drain.new.packer c.drain.new.reassembler c.drain.new.counts.counter c.drain.new.counts.monitor c.drain.new.sent
    c.drain.new.out =
    subst (λ (z : ℕ). IsCarried (ps ++ q ∷ []) struck z c.drain.new.packer c.drain.new.reassembler c.drain.new.counts.counter c.drain.new.counts.monitor c.drain.new.sent
    c.drain.new.out) len
    (c.in_ok-drain.ensures.stream (ps ++ q ∷ []) (subst (λ (z : ℕ). IsCarried
    (ps ++ q ∷ []) struck z c.push.new.self c.loop-packet.reassembler c.loop-packet.counts.counter c.loop-packet.counts.monitor c.loop-packet.sent c.loop-packet.out)
    (sym len) put)) in
    let more : ps ++ q ∷ [] ≡ octets_of_each (take (i + 1) c.args.packets.now) = ap (λ l. ps ++ l ∷ []) c.deref.ensures.value
    ∙ sym (packets_more c.args.packets.now i c.packet-item.result (omega arith) c.packet-item.is) in
    record {
      sized = c.in_ok-drain.ensures.fixed.0 ∙ c.push.ensures.fixed.0 ∙ c.loop-packet.invariant.sized;
      held = c.in_ok-drain.ensures.fixed.1 ∙ c.push.ensures.fixed.1 ∙ c.loop-packet.invariant.held;
      buffer = omega (
        arith,
        length-take c.loop-packet.buffer.len (c.drain.new.buffer ++ drop (length c.drain.new.buffer) c.loop-packet.buffer.items),
        length-append c.drain.new.buffer (drop (length c.drain.new.buffer) c.loop-packet.buffer.items),
        length-drop (length c.drain.new.buffer) c.loop-packet.buffer.items,
        c.loop-packet.invariant.buffer,
        c.deref_mut.ensures.len,
        c.drain.auto.buffer,
        c.loop-packet.buffer.ok,
      );
      flag = c.in_ok-drain.ensures.flag ∙ ok_unless _ c.push.result fits c.push.ensures.unflushed;
      place = c.in_ok-drain.ensures.place;
      emptied = c.in_ok-drain.ensures.emptied;
      carried = subst (λ (l : List (List ℕ)). IsCarried l struck c.args.zone c.drain.new.packer c.drain.new.reassembler c.drain.new.counts.counter c.drain.new.counts.monitor c.drain.new.sent
          c.drain.new.out) more given;
    }

pub returns : goal.returns
returns c =
    let i : ℕ = c.loop-packet.packet-index in
    let struck : List Bool = c.args.struck.now in
    let size : ℕ = c.args.zone in
    let ps : List (List ℕ) = octets_of_each c.args.packets.now in
    let whole : octets_of_each (take i c.args.packets.now) ≡ ps = ap (λ l. octets_of_each l) (take_all i c.args.packets.now (omega arith)) in
    let h : IsCarried ps struck size c.loop-packet.packer c.loop-packet.reassembler c.loop-packet.counts.counter c.loop-packet.counts.monitor c.loop-packet.sent
    c.loop-packet.out =
    subst (λ (l : List (List ℕ)). IsCarried l struck size c.loop-packet.packer c.loop-packet.reassembler c.loop-packet.counts.counter c.loop-packet.counts.monitor c.loop-packet.sent
    c.loop-packet.out) whole c.loop-packet.invariant.carried in
    let more : IsCarried (ps ++ flush_of c.loop-packet.packer) struck size c.flush.new.self c.loop-packet.reassembler c.loop-packet.counts.counter c.loop-packet.counts.monitor c.loop-packet.sent
    c.loop-packet.out =
    carried_flush ps struck size c.loop-packet.packer c.flush.new.self c.loop-packet.reassembler c.loop-packet.counts.counter c.loop-packet.counts.monitor c.loop-packet.sent
    c.loop-packet.out c.requires.most c.flush.ensures.fixed.0 h (c.flush.ensures.stream ps h.taken h.packed) in
    let len : length c.deref_mut-2.result.now ≡ size = ap length c.deref_mut-2.ensures.value ∙ c.loop-packet.invariant.buffer in
    let last : IsCarried (ps ++ flush_of c.loop-packet.packer) struck size c.drain-2.new.packer c.drain-2.new.reassembler c.drain-2.new.counts.counter c.drain-2.new.counts.monitor c.drain-2.new.sent
    c.drain-2.new.out =
    subst (λ (z : ℕ). IsCarried (ps ++ flush_of c.loop-packet.packer) struck z c.drain-2.new.packer c.drain-2.new.reassembler c.drain-2.new.counts.counter c.drain-2.new.counts.monitor
    c.drain-2.new.sent c.drain-2.new.out) len
    (c.in_ok-drain-2.ensures.stream (ps ++ flush_of c.loop-packet.packer)
    (subst (λ (z : ℕ). IsCarried (ps ++ flush_of c.loop-packet.packer) struck z c.flush.new.self c.loop-packet.reassembler c.loop-packet.counts.counter c.loop-packet.counts.monitor
    c.loop-packet.sent c.loop-packet.out) (sym len) more)) in
    let fill : flush_of c.loop-packet.packer ≡ fill_of size ps = flush_is ps c.loop-packet.packer h.taken size c.loop-packet.invariant.sized c.loop-packet.invariant.flag h.packed
    c.loop-packet.invariant.emptied in
    subst (λ (l : List (List ℕ)). AreSurvivors (ps ++ l) struck size c.drain-2.new.out) fill
    (carried_all (ps ++ flush_of c.loop-packet.packer) struck size c.drain-2.new.packer c.drain-2.new.reassembler c.drain-2.new.counts.counter c.drain-2.new.counts.monitor c.drain-2.new.sent
    c.drain-2.new.out last c.in_ok-drain-2.ensures.emptied)
