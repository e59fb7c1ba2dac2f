use Rattle.mpdu.proofs.Struck.{survivors-struck}
use Rattle.link_stack.proofs.Grown.{struck_is_missed}
use Rattle.link_stack.proofs.laws.a_struck_frame_is_missed.Goals as goal

pub returns-clause-end : goal.returns-clause-end
returns-clause-end c all = struck_is_missed

pub returns-clause-packets : goal.returns-clause-packets
returns-clause-packets c all up ps marks missed some is = survivors-struck up.link.zone marks 0 ps some is.packets_whole
