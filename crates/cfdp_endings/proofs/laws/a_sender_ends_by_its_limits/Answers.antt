use Rattle.cfdp_endings.proofs.SenderAlone.{step-lowers, run-lowers, run-ends, run-closes, step-told, most}
use Rattle.cfdp_endings.proofs.laws.a_sender_ends_by_its_limits.Goals as goal

pub returns : goal.returns
returns c = record { lowers = step-lowers; run = run-lowers; ends = run-ends; closes = run-closes; told = step-told; most = most }
