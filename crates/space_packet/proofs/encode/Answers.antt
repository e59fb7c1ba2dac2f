use Rattle.std.proofs.Common.{rules, ◌≡◌, ◌+◌, ◌++◌, length, take, drop, arith}
use Rattle.std.proofs.lemmas.Grind.{common_steps}
use Rattle.space_packet.specs.Packet.{packet_octets, view}
use Rattle.space_packet.proofs.Spelling.{written_packet_is_read}
use Rattle.space_packet.proofs.encode.Goals as goal

pub returns-clause-spelled : goal.returns-clause-spelled
returns-clause-spelled c =
    let written : take c.put_bytes.result (c.put_bytes.new.out ++ drop (6 + length c.args.packet.now.body.now) c.args.out.now) ≡ packet_octets (view c.args.packet.now) =
    first_of (search rules, grind (arith, common_steps)) in
    rw written (written_packet_is_read (view c.args.packet.now) c.requires.writable)
