use Rattle.cfdp_dump.proofs.Runs.{told_more}
use Rattle.cfdp_dump.proofs.dump.unit.write_carried.Goals as goal

pub returns : goal.returns
returns g c =
    let r = c.args.request in
    rw (← c.missing_remark-missing.ensures, ← c.idle_remark-idle.ensures, ← c.cut_remark-cut.ensures, ← c.bad_remark-bad.ensures)
    (told_more r _ _ _ _ _ _ c.in_ok-write_said.ensures (told_more r _ _ _ _ _ _ c.in_ok-write_said-2.ensures
    (told_more r _ _ _ _ _ _ c.in_ok-write_said-3.ensures (told_more r _ _ _ _ _ _ c.in_ok-write_said-4.ensures c.write_packets.ensures))))
