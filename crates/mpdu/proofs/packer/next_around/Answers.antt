use Rattle.std.proofs.Common.{◌+◌, sym, ap, ◌∙◌, arith}
use Rattle.mpdu.specs.Packing.{skip}
use Rattle.mpdu.proofs.Packed.{skip_more}
use Rattle.mpdu.proofs.packer.next_around.Goals as goal

pub loop-at-preserved : goal.loop-at-preserved
loop-at-preserved c =
    let told = c.packet_len_at-at.ensures.told in
    c.loop-at.invariant ∙ skip_more c.args.size c.loop-at.at c.args.octets.now.items (omega arith) (omega arith)
    ∙ ap (λ n. skip c.args.size c.args.size (c.loop-at.at + n) c.args.octets.now.items) (sym told)
