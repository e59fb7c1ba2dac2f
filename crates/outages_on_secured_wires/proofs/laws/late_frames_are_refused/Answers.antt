use Rattle.outages_on_secured_wires.proofs.Late.{late}
use Rattle.outages_on_secured_wires.proofs.laws.late_frames_are_refused.Goals as goal

pub returns : goal.returns
returns c = λ first before since x o came rises at low sealed. late first before since x rises at o came low sealed
