use Rattle.std.proofs.Common.{◌≤◌, length, arith}
use Rattle.cfdp_store.specs.Files.{octets_in}
use Rattle.cfdp_sender.specs.Due.{carried, carries}
use Rattle.cfdp_sender.proofs.OwnFile.{carried-len, while-reread_if}
use Rattle.cfdp_sender.proofs.Failed.{takes-failed}
use Rattle.cfdp_sender.proofs.Writing.{carried-last, takes-moved}
use Rattle.cfdp_sender.proofs.sender.Sender.take_due.Goals as goal

pub returns-in-Err-clause-takes : goal.returns-in-Err-clause-takes
returns-in-Err-clause-takes g c =
    takes-failed c.args.policy.now.times (octets_in (g.O.Outbox.files c.write_due.new.outbox) c.args.self.now.source) c.args.self.now c.lose_source.new.self c.args.due.now c.args.effects.now _
    c.args.out.now c.write_due.new.out c.requires.due c.in-Err.ensures.refused c.lose_source.ensures c.set_timers.ensures

pub returns-clause-takes : goal.returns-clause-takes
returns-clause-takes g c =
    let file = octets_in (g.O.Outbox.files c.write_due.new.outbox) c.args.self.now.source in
    let own = while-reread_if (carries c.args.due.now) _ _ (g.O.Outbox.files c.args.outbox.now) _ c.args.self.now.phase _ _ c.in-Ok.ensures.rereads c.requires.file in
    let some = carried-len c.args.self.now c.args.due.now _ (carried file c.args.due.now) _ _ c.requires.due own (c.extent-carried.ensures.part file) c.extent-carried.ensures.some c.extent-carried.ensures.within in
    let room : c.in-Ok.len ≤ length c.write_due.new.out = omega (arith, c.in-Ok.ensures.room, c.write_due.auto.out) in
    let last = carried-last c.args.self.now c.args.due.now file c.args.out.now c.write_due.new.out c.in-Ok.len c.crc_len.result c.extent-carried.result.1 c.crc_len.ensures c.in-Ok.ensures.written room some in
    takes-moved c.args.policy.now.times file _ c.args.self.now c.note_sent-anew.new.self c.args.due.now c.in-Ok.len c.note_sent-anew.result c.args.effects.now _
    c.args.out.now c.write_due.new.out c.requires.due c.in-Ok.ensures.written last.1 c.note_sent-anew.ensures.sent c.note_sent-anew.ensures.anew c.set_timers-2.ensures

pub overflow_sub-end-2 : goal.overflow_sub-end-2
overflow_sub-end-2 g c =
    let file = octets_in (g.O.Outbox.files c.write_due.new.outbox) c.args.self.now.source in
    let own = while-reread_if (carries c.args.due.now) _ _ (g.O.Outbox.files c.args.outbox.now) _ c.args.self.now.phase _ _ c.in-Ok.ensures.rereads c.requires.file in
    let some = carried-len c.args.self.now c.args.due.now _ (carried file c.args.due.now) _ _ c.requires.due own (c.extent-carried.ensures.part file) c.extent-carried.ensures.some c.extent-carried.ensures.within in
    let room : c.in-Ok.len ≤ length c.write_due.new.out = omega (arith, c.in-Ok.ensures.room, c.write_due.auto.out) in
    let last = carried-last c.args.self.now c.args.due.now file c.args.out.now c.write_due.new.out c.in-Ok.len c.crc_len.result c.extent-carried.result.1 c.crc_len.ensures c.in-Ok.ensures.written room some in
    last.0
