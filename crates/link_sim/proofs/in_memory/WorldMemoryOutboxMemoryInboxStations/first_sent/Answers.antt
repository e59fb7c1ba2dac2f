use Rattle.link_sim.proofs.Events.InWorlds.{waits-seen}
use Rattle.link_sim.proofs.in_memory.WorldMemoryOutboxMemoryInboxStations.first_sent.Goals as goal

pub returns : goal.returns
returns g c = waits-seen c.args.side c.first_sent.result c.frames.result.now c.args.self.now c.frames.ensures c.first_sent.ensures.waits
