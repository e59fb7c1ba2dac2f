use Rattle.std.proofs.Common.{◌≡◌, take, ap, ◌∙◌, min, length, arith}
use Rattle.std.proofs.lemmas.List.{take_min}
use Rattle.cfdp_timers.proofs.blocks.block_of.Goals as goal

pub returns : goal.returns
returns c =
    let rest = c.split_at.result.1.now in
    let front : c.min.result ≡ min 64 (length rest) = let e = c.min.ensures in omega (arith, e) in
    c.split_at-2.ensures.front ∙ ap (λ n. take n rest) front ∙ take_min 64 rest ∙ ap (take 64) c.split_at.ensures.back
