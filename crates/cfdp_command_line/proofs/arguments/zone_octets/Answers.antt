use Rattle.cfdp_command_line.proofs.CommandWords.{zone-found, zone-none}
use Rattle.cfdp_command_line.proofs.arguments.zone_octets.Goals as goal

pub returns-in-Ok-clause-zone : goal.returns-in-Ok-clause-zone
returns-in-Ok-clause-zone c =
    let read = c.in-Ok.ensures.value.0 in
    zone-found c.args.word.now c.in-Ok.zone read.0.0 read.1 c.if-zone-ge-LEAST_ZONE.true c.if-zone-le-MOST_ZONE.true

pub returns-in_default-3-clause-zone : goal.returns-in_default-3-clause-zone
returns-in_default-3-clause-zone c = zone-none c.args.word.now c.in_default.ensures.value.0
