use Rattle.mpdu.specs.Packets.{packets_of}
use Rattle.mpdu.proofs.Cuts.{AreAllIn, packets_are_all}
use Rattle.mpdu.proofs.laws.octets_are_their_packets.Goals as goal

pub returns-clause-whole : goal.returns-clause-whole
returns-clause-whole c text = (packets_are_all text).packets_whole

pub returns-clause-joined : goal.returns-clause-joined
returns-clause-joined c text = let r : AreAllIn text (packets_of text) = packets_are_all text in (r.rest, r.joined, r.ends)
