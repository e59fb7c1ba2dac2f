use Rattle.std.proofs.Common.{ap, arith}
use Rattle.mpdu.proofs.Packed.{flushed_at, flushed_once, flush_is_idle}
use Rattle.mpdu.proofs.packer.Packer.flush.Goals as goal

pub returns-clause-stream : goal.returns-clause-stream
returns-clause-stream c ps taken is =
    flushed_at c.args.self.now c.fill.new.self ps taken (omega (arith, ap (λ p. p.size) c.self.view_is)) c.fill.ensures.same c.fill.ensures.more is

pub returns-clause-once : goal.returns-clause-once
returns-clause-once c = flushed_once c.args.self.now c.fill.new.self c.fill.ensures.same c.fill.ensures.more

pub returns-clause-idle : goal.returns-clause-idle
returns-clause-idle c = flush_is_idle c.args.self.now (omega (arith, ap (λ p. p.size) c.self.view_is))
