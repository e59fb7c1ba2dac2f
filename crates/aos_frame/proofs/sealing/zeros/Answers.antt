use Rattle.std.proofs.Common.{ap, ◌∙◌, ℕ, take, replicate}
use Rattle.std.proofs.lemmas.List.{take-replicate}
use Rattle.aos_frame.proofs.sealing.zeros.Goals as goal

pub returns : goal.returns
returns c = ap (λ (k : ℕ). take k (replicate 64 0)) c.from.ensures ∙ take-replicate c.args.count 64 0 c.requires
