use Rattle.std.proofs.Common.{◌≡◌, ℕ, ◌+◌, true, false, length, get_or, ◌∙◌, arith}
use Rattle.std.proofs.Common.{Option, Some, ◌==◌, sym, ap, subst}
use Rattle.aos_frame.specs.Counts.{with_cycle}
use Rattle.aos_frame.specs.declared.count.SeenCount.{SeenCount}
use Rattle.mpdu.specs.Reading.{held_at}
use Rattle.mpdu.proofs.Counted.{told_right}
use Rattle.mpdu.specs.Packing.{IsAt, ZoneOf}
use Rattle.mpdu.specs.Feeding.{IsNext}
use Rattle.mpdu.specs.Carrying.{marks_of}
use Rattle.mpdu.specs.Draining.{IsCarried}
use Rattle.mpdu.proofs.Carried.{next_of, carried_read, carried_struck}
use Rattle.mpdu.proofs.carrying.drain.Goals as goal

pub loop-pointer-preserved-then-lost : goal.loop-pointer-preserved-then-lost
loop-pointer-preserved-then-lost c =
    let z : ℕ = length c.args.buffer.now in
    let es : c.zone.new.self.size ≡ c.loop-pointer.packer.size = c.zone.ensures.fixed.0 in
    record {
      sized = es ∙ c.loop-pointer.invariant.sized;
      held = c.zone.ensures.fixed.1 ∙ c.loop-pointer.invariant.held;
      flag = c.zone.ensures.flag ∙ c.loop-pointer.invariant.flag;
      place = c.next_mark-lost.ensures.place;
      stream = λ ps first.
          let h : IsCarried ps c.args.struck.now z c.loop-pointer.packer c.loop-pointer.reassembler c.loop-pointer.counts.counter c.loop-pointer.counts.monitor c.loop-pointer.sent
          c.loop-pointer.out = c.loop-pointer.invariant.stream ps first in
          let both : ZoneOf ps h.taken c.loop-pointer.packer.size c.in-Some.pointer c.zone.new.out × IsAt c.zone.new.self ps (h.taken + 1) = c.in-Some.ensures.stream ps h.taken h.packed in
          let lost : get_or c.args.struck.now h.taken false ≡ true = c.next_mark-lost.ensures.lost h.taken h.next_mark ∙ c.if-lost.true in
          carried_struck ps c.args.struck.now z c.loop-pointer.packer c.zone.new.self c.loop-pointer.reassembler c.loop-pointer.counts.counter c.next-count.new.self c.loop-pointer.counts.monitor
          c.loop-pointer.sent c.next_mark-lost.result.1 c.loop-pointer.out (omega arith) h c.next-count.ensures.after es both.1
          (c.next_mark-lost.ensures.sent h.taken h.next_mark) lost;
    }

pub loop-pointer-preserved : goal.loop-pointer-preserved
loop-pointer-preserved c =
    let z : ℕ = length c.args.buffer.now in
    let es : c.zone.new.self.size ≡ c.loop-pointer.packer.size = c.zone.ensures.fixed.0 in
    let len : length c.zone.new.out ≡ z = omega arith in
    record {
      sized = es ∙ c.loop-pointer.invariant.sized;
      held = c.zone.ensures.fixed.1 ∙ c.loop-pointer.invariant.held;
      flag = c.zone.ensures.flag ∙ c.loop-pointer.invariant.flag;
      place = c.next_mark-lost.ensures.place;
      stream = λ ps first.
          let h : IsCarried ps c.args.struck.now z c.loop-pointer.packer c.loop-pointer.reassembler c.loop-pointer.counts.counter c.loop-pointer.counts.monitor c.loop-pointer.sent
          c.loop-pointer.out = c.loop-pointer.invariant.stream ps first in
          let both : ZoneOf ps h.taken c.loop-pointer.packer.size c.in-Some.pointer c.zone.new.out × IsAt c.zone.new.self ps (h.taken + 1) = c.in-Some.ensures.stream ps h.taken h.packed in
          let here : get_or c.args.struck.now h.taken false ≡ false = c.next_mark-lost.ensures.lost h.taken h.next_mark ∙ c.if-lost.false in
          let told : held_at c.follows-in_order.result c.loop-pointer.reassembler ≡ held_at (h.missed == 0) c.loop-pointer.reassembler =
          ap (λ b. held_at b c.loop-pointer.reassembler) c.follows-in_order.ensures.told
          ∙ told_right c.args.struck.now h.taken h.missed c.loop-pointer.counts.counter c.next-count.result c.loop-pointer.counts.monitor c.loop-pointer.reassembler c.requires.few h.counts
          c.next-count.ensures.count in
          let next : IsNext ps (marks_of h.taken c.args.struck.now) (held_at c.follows-in_order.result c.loop-pointer.reassembler) c.in-Some.pointer c.zone.new.out =
          next_of ps c.args.struck.now z c.loop-pointer.packer c.loop-pointer.reassembler c.loop-pointer.counts.counter c.loop-pointer.counts.monitor c.loop-pointer.sent
          c.loop-pointer.out c.in-Some.pointer c.zone.new.out c.follows-in_order.result len h both.0 told in
          let seen : Some (with_cycle c.loop-pointer.counts.counter) ≡ c.follows-in_order.new.self = sym (c.follows-in_order.ensures.seen ∙ ap (λ n. Some (with_cycle n)) c.next-count.ensures.count) in
          subst (λ (l : Option SeenCount). IsCarried ps c.args.struck.now z c.zone.new.self c.feed.new.self c.next-count.new.self l c.next_mark-lost.result.1 c.feed.new.out)
          seen
          (carried_read ps c.args.struck.now z c.loop-pointer.packer c.zone.new.self c.loop-pointer.reassembler c.feed.new.self c.loop-pointer.counts.counter c.next-count.new.self
          c.loop-pointer.counts.monitor c.loop-pointer.sent c.next_mark-lost.result.1 c.loop-pointer.out
          c.feed.new.out c.zone.new.out len h c.next-count.ensures.after es both.1
          (c.next_mark-lost.ensures.sent h.taken h.next_mark) here
          (c.in_ok-feed.ensures.stream ps (marks_of h.taken c.args.struck.now) next));
    }
