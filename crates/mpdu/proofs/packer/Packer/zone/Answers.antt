use Rattle.std.proofs.Common.{◌+◌, ◌≤◌, length, sym, ap, subst, arith}
use Rattle.mpdu.specs.Packing.{PackerState, IsAt}
use Rattle.mpdu.proofs.Packed.{zone_taken, zone_is}
use Rattle.mpdu.proofs.packer.Packer.zone.Goals as goal

pub returns-clause-stream : goal.returns-clause-stream
returns-clause-stream c ps taken is =
    let whole : c.args.self.now.size ≤ length c.args.self.now.waiting = omega (arith, c.waiting_len.ensures.len, ap (λ p. p.size) c.self.view_is, ap (λ p. length p.waiting) c.self.view_is) in (
      zone_is c.args.self.now ps taken c.take_zone.result c.take_zone.new.out whole is c.take_zone.ensures.pointer c.take_zone.ensures.octets,
      subst (λ (p : PackerState). IsAt p ps (taken + 1)) (sym c.take_zone.ensures.rest) (zone_taken c.args.self.now ps taken whole is),
    )
