-- A transaction has room if the map has an entry for it.
use Rattle.std.proofs.Common.{ap, ◌∙◌}
use Rattle.std.specs.FinSet as set
use Rattle.cfdp_timers.proofs.Kept.{has-room}
use Rattle.cfdp_timers.proofs.timers.Timers.has_room.Goals as goal

pub returns : goal.returns
returns c = c.contains_key.ensures ∙ has-room c.self.inside.entries.entries c.args.id ∙ ap (λ state. set.contains state.roomy c.args.id) c.self.view_is
