use Rattle.std.proofs.Common.{rules, ◌≡◌, ◌++◌, arith}
use Rattle.std.proofs.lemmas.Grind.{common_steps}
use Rattle.space_packet.specs.Packet.{packet_octets, view}
use Rattle.space_packet.proofs.Spelling.{written_packet_is_read}
use Rattle.space_packet.proofs.header_of.Goals as goal

pub returns-clause-spelled : goal.returns-clause-spelled
returns-clause-spelled c =
    let written : c.put_header.new.out ++ c.args.packet.now.body.now ≡ packet_octets (view c.args.packet.now) =
    first_of (search rules, grind (arith, common_steps)) in
    rw written (written_packet_is_read (view c.args.packet.now) c.requires.writable)
