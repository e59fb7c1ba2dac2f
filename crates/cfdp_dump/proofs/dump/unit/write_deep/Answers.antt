use Rattle.std.proofs.Common.{sym}
use Rattle.cfdp_dump.specs.Carrying.{carried_text}
use Rattle.cfdp_dump.proofs.Runs.{deep_carried, deep_none, deep_unfollowed}
use Rattle.cfdp_dump.proofs.dump.unit.write_deep.Goals as goal

pub returns-in-Some : goal.returns-in-Some
returns-in-Some g c =
    deep_carried c.args.request c.args.channels.now c.args.octets.now c.in-Ok.mpdu.now c.in-Ok.header (carried_text c.in-Some.carried) c.take.new.self _ _ _ _
    c.in-Ok.ensures.found c.in-Ok.ensures.mpdu (rw c.in-Some.is at c.in_ok-carried-in-Ok.ensures.ok) c.in_ok-write_frame.ensures c.write_carried.ensures

pub returns-in-None : goal.returns-in-None
returns-in-None g c =
    deep_unfollowed c.args.request c.args.channels.now c.args.octets.now c.in-Ok.header c.take.new.self _ _ _ _
    c.in-Ok.ensures.found (rw c.in-None.is at c.in_ok-carried-in-Ok.ensures.ok) c.in_ok-write_frame.ensures c.write_remark.ensures

pub returns-in-Err : goal.returns-in-Err
returns-in-Err g c =
    deep_none c.args.request _ _ c.in-Err.field-0 _ _ (sym c.in-Err.ensures.refused) c.in_ok-write_frame.ensures
