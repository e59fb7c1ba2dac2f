use Rattle.std.proofs.Common.{arith}
use Rattle.mpdu.proofs.Later.{zone-push, pointer-push, survivors-push, begun-push}
use Rattle.mpdu.proofs.laws.a_later_packet_changes_nothing.Goals as goal

pub returns-clause-zone : goal.returns-clause-zone
returns-clause-zone c = zone-push

pub returns-clause-pointer : goal.returns-clause-pointer
returns-clause-pointer c z start ps q room = pointer-push z start 0 ps q (omega (arith, room))

pub returns-clause-survivors : goal.returns-clause-survivors
returns-clause-survivors c z marks ps q packet room = survivors-push z marks 0 ps q packet (omega (arith, room))

pub returns-clause-begun : goal.returns-clause-begun
returns-clause-begun c z marks ps q packet room = begun-push z marks 0 ps q packet (omega (arith, room))
