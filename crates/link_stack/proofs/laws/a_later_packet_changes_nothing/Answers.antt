use Rattle.std.proofs.Common.{arith}
use Rattle.mpdu.proofs.Later.{survivors-push}
use Rattle.link_stack.proofs.Grown.{frame-push, up-push}
use Rattle.link_stack.proofs.laws.a_later_packet_changes_nothing.Goals as goal

pub returns-clause-frames : goal.returns-clause-frames
returns-clause-frames c = frame-push

pub returns-clause-end : goal.returns-clause-end
returns-clause-end c all = up-push

pub returns-clause-packets : goal.returns-clause-packets
returns-clause-packets c link ps q marks packet room = survivors-push link.zone marks 0 ps q packet (omega (arith, room))
