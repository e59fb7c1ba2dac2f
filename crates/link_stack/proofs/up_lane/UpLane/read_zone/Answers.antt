use Rattle.std.proofs.Common.{length, sym, subst, ◌∙◌, refl}
use Rattle.mpdu.specs.Reading.{reading, to_read, held_at}
use Rattle.link_stack.specs.Upward.{LinkReceiverState, packets_read, TakesFront}
use Rattle.link_stack.proofs.Taking.{scan_long, fed_long, takes_front}
use Rattle.link_stack.proofs.up_lane.UpLane.read_zone.Goals as goal

pub unpack-requires-clause-long : goal.unpack-requires-clause-long
unpack-requires-clause-long c =
    let z = length c.args.zone.now in
    let read = to_read z (held_at c.args.follows c.self.inside.reassembler) c.args.pointer c.args.zone.now in
    fed_long c.feed-fed.result c.len-first.result c.args.out.now c.feed-fed.new.out
    (reading c.self.inside.reassembler c.args.follows c.args.pointer c.args.zone.now).out
    c.len-first.ensures (scan_long (length read) read) c.feed-fed.ensures.appended c.feed-fed.ensures.front

pub returns-clause-front : goal.returns-clause-front
returns-clause-front c none =
    let up : LinkReceiverState = record { link = c.self.inside.link; last = c.self.inside.monitor; begun = c.self.inside.reassembler; drops = c.self.inside.drops; control = c.self.inside.control } in
    let new : LinkReceiverState = record { link = c.self.inside.link; last = c.self.inside.monitor; begun = c.feed-fed.new.self; drops = c.unpack.new.drops; control = c.self.inside.control } in
    let front : TakesFront (packets_read up.last up.begun c.args.follows c.args.pointer c.args.zone.now) up new c.args.out.now c.unpack.new.packets =
    takes_front c.feed-fed.result up new c.len-first.result c.args.out.now c.feed-fed.new.out c.unpack.new.packets
    (packets_read up.last up.begun c.args.follows c.args.pointer c.args.zone.now) c.note.new.drops
    refl refl (sym c.is_ok.ensures.value ∙ none) c.len-first.ensures c.feed-fed.ensures.front c.feed-fed.ensures.hands c.feed-fed.ensures.err c.note.ensures.no_memory c.unpack.ensures.drops
    c.unpack.ensures.pdus in
    subst (λ (u : LinkReceiverState). TakesFront (packets_read u.last u.begun c.args.follows c.args.pointer c.args.zone.now) u
    new c.args.out.now c.unpack.new.packets) c.self.view_is front
