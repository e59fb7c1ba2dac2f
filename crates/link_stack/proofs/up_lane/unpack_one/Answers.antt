use Rattle.std.proofs.Common.{◌∙◌, sym, arith}
use Rattle.link_stack.proofs.Unpacked.{long_there, head_is, taken_out, made_pdu}
use Rattle.link_stack.proofs.up_lane.unpack_one.Goals as goal

pub packet_drop_of-requires : goal.packet_drop_of-requires
packet_drop_of-requires c = long_there c.args.packets.now c.args.place c.get.result.now c.requires.there c.requires.long c.get.ensures

pub returns-in-Some-clause-one : goal.returns-in-Some-clause-one
returns-in-Some-clause-one c q left here =
    taken_out c.args.link.now c.args.packets.now c.remove.new.self c.args.place c.in-Some.drop c.get.result.now q left c.args.drops.now c.count.new.self here
    (head_is c.args.packets.now left c.args.place c.get.result.now q here c.get.ensures) c.in-Some.ensures c.remove.ensures c.count.ensures

pub returns-clause-one : goal.returns-clause-one
returns-clause-one c q left here =
    made_pdu c.args.link.now c.args.packets.now c.drop_front.new.self c.args.place _ c.get.result.now q left c.args.drops.now here
    (head_is c.args.packets.now left c.args.place c.get.result.now q here c.get.ensures) (sym c.in_default.is ∙ c.packet_drop_of.ensures) c.drop_front.ensures (omega arith)
