use Rattle.std.proofs.Common.{◌+◌, ◌∙◌, length-drop, arith, sym}
use Rattle.std.proofs.lemmas.List.{drop_all}
use Rattle.cfdp_timers.specs.declared.kind.Kind.TheVariants.{EofAck}
use Rattle.cfdp_timers.specs.Order.{Timer}
use Rattle.cfdp_entity.proofs.Ticking.{one_more, none_left, asks-one, asks-none-left}
use Rattle.cfdp_entity.proofs.table.Table.expire_all.Goals as goal

pub loop-id-preserved : goal.loop-id-preserved
loop-id-preserved g c =
    let first : Timer = (record { source = 0; number = 0 }, EofAck) in
    let before = length-drop c.loop-id.id-index c.args.fired.now in
    let after = length-drop (c.loop-id.id-index + 1) c.args.fired.now in
    record {
      same_end = one_more c.args.fired.now c.loop-id.id-index first c.loop-id.self.state c.expire_one.new.self.state c.loop-id-test.true c.expire_one.ensures.expired.state
          ∙ c.loop-id.invariant.same_end;
      room = omega (arith, before, after, c.loop-id.invariant.room, c.expire_one.ensures.room);
      grows = omega (arith, c.loop-id.invariant.grows, c.expire_one.ensures.expired.counts);
      raises = λ end more. c.loop-id.invariant.raises end (asks-one c.args.fired.now c.loop-id.id-index first c.loop-id.self.state c.expire_one.new.self.state c.loop-id.self.inbox_failures
          c.expire_one.new.self.inbox_failures end
          c.loop-id-test.true c.expire_one.ensures.expired.state c.expire_one.ensures.expired.raises more);
      outbox = c.expire_one.ensures.expired.outbox ∙ c.loop-id.invariant.outbox;
    }

pub returns : goal.returns
returns g c = record {
  state = sym (none_left c.args.fired.now c.loop-id.id-index c.loop-id.self.state (drop_all c.loop-id.id-index c.args.fired.now (omega arith))) ∙ c.loop-id.invariant.same_end;
  counts = c.loop-id.invariant.grows;
  raises = c.loop-id.invariant.raises c.loop-id.self.inbox_failures
      (asks-none-left c.args.fired.now c.loop-id.id-index c.loop-id.self.state c.loop-id.self.inbox_failures (drop_all c.loop-id.id-index c.args.fired.now (omega arith)));
  outbox = c.loop-id.invariant.outbox;
}
