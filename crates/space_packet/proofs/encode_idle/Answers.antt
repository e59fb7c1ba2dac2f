use Rattle.std.proofs.Common.{rules, ◌≡◌, ◌-◌, ◌++◌, length, take, drop, arith}
use borrow.Rule.Slice.PartMut.{put_mid}
use Rattle.std.proofs.lemmas.Grind.{common_steps}
use Rattle.space_packet.specs.Packet.{packet_octets, idle}
use Rattle.space_packet.proofs.Spelling.{written_packet_is_read, idle_is_writable}
use Rattle.space_packet.proofs.encode_idle.Goals as goal

pub returns-clause-spelled : goal.returns-clause-spelled
returns-clause-spelled c =
    let written : take c.args.len (put_mid c.put_header-at.result (length c.put_header-at.new.out - c.put_header-at.result) c.put_header-at.new.out c.fill.new.self ++ drop c.args.len c.args.out.now)
    ≡ packet_octets (idle c.args.len) =
    first_of (search rules, grind (arith, common_steps)) in
    rw written (written_packet_is_read (idle c.args.len) (idle_is_writable c.args.len c.requires.least c.requires.most))
